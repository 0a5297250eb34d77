-- A value written as its first word and its last, which may share bytes.
-- Assumes nothing.
use mathlib.Core.Path.{◌≡◌, sym, ap, ap₂, ◌∙◌}
use mathlib.Core.List.{List, ◌++◌, append_assoc}
use Prim.Native.Nat.{ℕ, ◌+◌, ◌-◌, ◌*◌, ◌≤◌, ◌<◌}
use native.Mathlib.Omega.{arith}
use native.Mathlib.Nat.{zero-add}
use lib.ListN.{length, take, drop, get_or, replicate, length-append, length-drop, length-replicate, take-append-drop, replicate-append-replicate}
use lib.Seq.{drop-drop, take_at, drop_at, take-add, take-take, take-append-le, take-append-add, drop-append-add, length-take-le}
use Rattle.array.specs.Bytes.{le}
use Rattle.array.specs.Cells.{Mark, is_null, is_set, is_other, mark_of}
use Rattle.array.specs.Buffers.{over, over_at}
use Rattle.array.proofs.Places.{fixed_value}
use Rattle.decode_marks.specs.Next.{if_set}
use Rattle.decode_words.proofs.SpreadingValues.{word_cell}
use Rattle.shown_cells.proofs.Showing.{Showing, showing_cell, cell_room, cell_source, by_mark}

-- the first w elements of g, and then those from p on
pub ends_laid : (at p w : ℕ) (g out : List ℕ) → p ≤ w → w ≤ length g → at + length g ≤ length out
    → over_at (at + p) (drop p g) (over_at at (take w g) out) ≡ over_at at g out
ends_laid at p w g out hp hw h =
    let la : length (take at out) ≡ at = length-take-le at out (omega arith) in
    let f : List ℕ = take at out ++ take w g in
    let lf : length f ≡ at + w = omega (arith, length-append (take at out) (take w g), length-take-le w g hw) in
    let rest : List ℕ = drop (length f) out in
    let whole : List ℕ = take at out ++ g in
    let lw : length whole ≡ length f + (length g - w) = omega (arith, length-append (take at out) g) in
    let front : take (at + p) (f ++ rest) ≡ take at out ++ take p g =
    take-append-le (at + p) f rest (omega arith) ∙ ap (λ (k : ℕ). take (k + p) f) (sym la) ∙ take-append-add (take at out) (take w g) p
    ∙ ap (λ (l : List ℕ). take at out ++ l) (take-take p w g hp) in
    let joins : take (at + p) (f ++ rest) ++ drop p g ≡ whole =
    ap (λ (l : List ℕ). l ++ drop p g) front ∙ append_assoc (take at out) (take p g) (drop p g) ∙ ap (λ (l : List ℕ). take at out ++ l) (take-append-drop p g) in
    let behind : drop (length whole) (f ++ rest) ≡ drop (length whole) out =
    ap (λ (k : ℕ). drop k (f ++ rest)) lw ∙ drop-append-add f rest (length g - w) ∙ drop-drop (length g - w) (length f) out ∙ ap (λ (k : ℕ). drop k out) (sym lw) in
    ap (λ (l : List ℕ). over l (f ++ rest)) joins ∙ ap (λ (l : List ℕ). whole ++ l) behind

-- ---- the k bytes from `at` on of a cell whose mark is m

abbrev part_at : Mark → List ℕ → ℕ → ℕ → List ℕ
part_at m s at k = if_set m (take k (drop at s)) (replicate k 0)

part_long : (m : Mark) (s : List ℕ) (at k : ℕ) → at + k ≤ length s → length (part_at m s at k) ≡ k
part_long is_null s at k h = length-replicate k 0
part_long is_set s at k h = length-take-le k (drop at s) (omega (arith, length-drop at s))
part_long is_other s at k h = length-replicate k 0

part_split : (m : Mark) (s : List ℕ) (at a b : ℕ) → part_at m s at (a + b) ≡ part_at m s at a ++ part_at m s (at + a) b
part_split is_null s at a b = sym (replicate-append-replicate a b 0)
part_split is_set s at a b = take-add a b (drop at s) ∙ ap (λ (l : List ℕ). take a (drop at s) ++ take b l) (drop-drop a at s)
part_split is_other s at a b = sym (replicate-append-replicate a b 0)

part_first : (m : Mark) (s : List ℕ) (at size w : ℕ) → w ≤ size → at + size ≤ length s → part_at m s at w ≡ take w (part_at m s at size)
part_first m s at size w h l =
    let e : size ≡ w + (size - w) = omega arith in
    sym (ap (λ (k : ℕ). take w (part_at m s at k)) e ∙ ap (take w) (part_split m s at w (size - w))
    ∙ take_at (part_at m s at w) (part_at m s (at + w) (size - w)) w (part_long m s at w (omega arith)))

part-last : (m : Mark) (s : List ℕ) (at size p w : ℕ) → p + w ≡ size → at + size ≤ length s → part_at m s (at + p) w ≡ drop p (part_at m s at size)
part-last m s at size p w e l =
    sym (ap (λ (k : ℕ). drop p (part_at m s at k)) (sym e) ∙ ap (drop p) (part_split m s at p w)
    ∙ drop_at (part_at m s at p) (part_at m s (at + p) w) p (part_long m s at p (omega arith)))

-- ---- a cell more, of which x is the first word and y the last

module _ {size : ℕ} {vs plane d out : List ℕ} {j : ℕ} (s : Showing size vs plane d out j) (h : j < length plane) {m : Mark} (em : m ≡ mark_of (get_or plane j 0)) where
  pub showing_words : (w : ℕ) {p : ℕ} → p + w ≡ size → p ≤ w → (x y : ℕ) → le w x ≡ take w (drop (j * size) vs) → le w y ≡ take w (drop (j * size + p) vs)
      → {first last : ℕ} → first ≡ if_set m x 0 → last ≡ if_set m y 0
      → {half out' : List ℕ} → half ≡ over_at (j * size) (le w first) out → out' ≡ over_at (j * size + p) (le w last) half → Showing size vs plane d out' (j + 1)
  showing_words w {p} e l x y ex ey {first} {last} ef el {half} {out'} eh eo =
      let at : ℕ = j * size in
      let g : List ℕ = part_at m vs at size in
      let long : length g ≡ size = part_long m vs at size (cell_source s h) in
      let value : g ≡ _ = by_mark size vs plane j em (sym (fixed_value 0 size vs j (zero-add at))) in
      let a : le w first ≡ take w g = word_cell w m x (take w (drop at vs)) ef ex ∙ part_first m vs at size w (omega arith) (cell_source s h) in
      let b : le w last ≡ drop p g = word_cell w m y (take w (drop (at + p) vs)) el ey ∙ part-last m vs at size p w e (cell_source s h) in
      showing_cell s h value
      (eo ∙ ap₂ (λ (l o : List ℕ). over_at (at + p) l o) b (eh ∙ ap (λ (l : List ℕ). over_at at l out) a)
      ∙ ends_laid at p w g out l (omega arith) (omega (arith, cell_room s h)))
