-- Redundant by the laws write_past and write_held in encode_interleaved/proofs/Writes.antt: what the writing of the older form (S5.4) leans on.
-- The offsets of n cells over these value bytes.
-- Assumes nothing.
use Rattle.std.specs.Prelude.{ℕ, suc, ◌-◌, ◌^◌, ◌≤◌, ◌≡◌, Bool, true, ◌&&◌, List, [], ◌∷◌, length, leb, ltb}
use Rattle.array.specs.Answer.{unless, Outcome}
use Rattle.array.specs.Limits.{most_bytes, most_cells}
use Rattle.array.specs.Kind.{Kind}
use Rattle.array.specs.Offsets.{last, Rising, slices}
use Rattle.array.specs.Cells.{Value}
use Rattle.array.specs.Content.{Content, values_in, unless_kept}
use Rattle.array.specs.Buffers.{list_outcome, if_room}
use Rattle.codec.specs.Carried.{fields_test}
use Rattle.codec.specs.Interleaved.{put_interleaved}
use Rattle.codec.specs.Calls.{interleaved_form}

pub record Held (n : ℕ) (s os : List ℕ) : Type 0 where
  pub few : n ≤ most_cells
  pub small : length s ≤ most_bytes
  pub counted : length os ≡ suc n
  pub rising : Rising os
  pub ended : last os ≡ length s

-- the cells between the offsets, in the older form
abbrev pub interleaved_of : List ℕ → List ℕ → List ℕ
interleaved_of s os = put_interleaved (slices os s)

-- whether each cell's length fits its field of 4 bytes, by the offsets behind the one at a
abbrev pub steps_fit : ℕ → List ℕ → Bool
steps_fit a [] = true
steps_fit a (b ∷ bs) = ltb (b - a) (256 ^ 4) && steps_fit b bs

-- these cells written: 20, then 6, else their form
abbrev pub put_fitting : List Value → List ℕ → Outcome ℕ (List ℕ)
put_fitting vs old = list_outcome (unless (fields_test vs) 20 (if_room (leb (length (put_interleaved vs)) (length old)) (put_interleaved vs))) old

-- what becomes of an array whose kind and shape are sound: 4, 5, 20, and last 6
abbrev pub encoded_cells : Kind → ℕ → Content → List ℕ → Outcome ℕ (List ℕ)
encoded_cells k n c out =
    let stored = interleaved_form k n c in
    list_outcome (unless_kept k n c (unless (fields_test (values_in k.form n c)) 20 (if_room (leb (length stored) (length out)) stored))) out
