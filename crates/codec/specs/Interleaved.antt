-- docs/SPEC.md, S5.1 to S5.5: the older interleaved form, read and written.
-- A 4-byte count, then for each cell a 4-byte length and its bytes. Bytes after the last cell are ignored when read; none are written.
-- Assumes nothing.
use Rattle.std.specs.Prelude.{ℕ, zero, suc, ◌+◌, ◌*◌, ◌≡◌, Bool, true, false, ◌&&◌, List, [], ◌∷◌, ◌++◌, length, take, drop, leb, eqb}
use Rattle.array.specs.Answer.{Answer, gives, unless, and_then}
use Rattle.array.specs.Lists.{joined}
use Rattle.array.specs.Bytes.{le, unle}
use Rattle.array.specs.Kind.{Kind, KindOk, kind_test, Form, fixed, ragged}
use Rattle.array.specs.Cells.{Value}
use Rattle.array.specs.Content.{size_test}

-- ---- reading

-- n cells, from what is left of the string: a length field or a cell that runs past the end is 11
unfoldable pub interleaved_cells : ℕ → List ℕ → Answer (List Value)
unfolding unle
interleaved_cells zero s = gives []
interleaved_cells (suc n) s =
    let l = unle (take 4 s) in
    unless (leb 4 (length s)) 11
    (unless (leb l (length (drop 4 s))) 11
    (and_then (interleaved_cells n (drop l (drop 4 s))) (λ vs. gives (take l (drop 4 s) ∷ vs))))

-- the values of n cells, or what is refused of the string, in its order
unfoldable pub interleaved_values : ℕ → List ℕ → Answer (List Value)
unfolding unle interleaved_cells
interleaved_values n s =
    unless (leb (4 * suc n) (length s)) 7
    (unless (eqb (unle (take 4 s)) n) 9
    (and_then (interleaved_cells n (drop 4 s)) (λ vs.
    unless (size_test (length (joined vs))) 5 (gives vs))))

-- ---- writing

unfoldable pub put_cells : List Value → List ℕ
unfolding le
put_cells [] = []
put_cells (v ∷ vs) = le 4 (length v) ++ (v ++ put_cells vs)

unfoldable pub put_interleaved : List Value → List ℕ
unfolding le put_cells
put_interleaved vs = le 4 (length vs) ++ put_cells vs

-- the written length: 4 + 4 × cells + the sum of cell lengths
abbrev pub interleaved_length : List Value → ℕ
interleaved_length vs = 4 + 4 * length vs + length (joined vs)

-- the kinds that have this form, ragged ones of depth 0: any other meets 1. Width, place and mask form say nothing of it
abbrev pub IsRagged : Form → Type 0
IsRagged (fixed k o) = ⊥
IsRagged (ragged w p) = Unit {0}

abbrev pub ragged_test : Form → Bool
ragged_test (fixed k o) = false
ragged_test (ragged w p) = true

pub record InterleavedOk (k : Kind) : Type 0 where
  pub sound : KindOk k
  pub flat : k.depth ≡ 0
  pub is_ragged : IsRagged k.form

abbrev pub interleaved_test : Kind → Bool
interleaved_test k = kind_test k && eqb k.depth 0 && ragged_test k.form
