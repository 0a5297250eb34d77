-- One stored cell, by its place: what the definition does with it, and what stands there where nothing is refused.
-- Assumes nothing.
use mathlib.Core.Path.{◌≡◌, refl, sym, ap, ◌∙◌}
use Prim.Native.Nat.{ℕ, zero, suc, ◌+◌, ◌-◌, ◌*◌, ◌<◌, ◌≤◌}
use native.Mathlib.Omega.{arith}
use mathlib.Core.Bool.{Bool, true, false}
use mathlib.Core.List.{List, [], ◌∷◌}
use lib.ListN.{length, take, drop, length-append, length-drop}
use lib.Dec.{leb}
use lib.Seq.{drop-drop, length-take-le}
use borrow.Author.Tests.{le-leb, lt-leb, leb-true, leb-false}
use Rattle.std.specs.Prelude.{Result, Ok}
use Rattle.array.specs.declared.refusal.Refusal.{Refusal}
use Rattle.array.specs.Meaning.{told}
use Rattle.array.specs.Answer.{Answer, gives, refuses, and_then}
use Rattle.array.specs.Lists.{joined}
use Rattle.array.specs.Bytes.{unle}
use Rattle.array.specs.Cells.{Value}
use Rattle.array.proofs.Answers.{told_same}
use Rattle.buffer.specs.Field.{field_at}
use Rattle.buffer.proofs.Fields.{field_value}
use Rattle.codec.specs.Interleaved.{interleaved_cells}

-- no answer is both
pub never : {A : Type 0} {a : Answer A} {k : ℕ} {x : A} → a ≡ refuses k → a ≡ gives x → ⊥
never p q = let z : ◌≡◌ {A = ℕ} 0 1 = cc in omega arith

-- the length that stands at a place
abbrev pub length_at : List ℕ → ℕ → ℕ
length_at s at = unle (take 4 (drop at s))

-- a length that was read
pub field_read : (s : List ℕ) (at : ℕ) {v : ℕ} {r : Result ℕ Refusal} → told r ≡ field_at 4 11 s at → r ≡ Ok v → (4 ≤ length s - at) × (v ≡ length_at s at)
field_read s at e f = field_value 4 11 s at _ (sym e ∙ told_same f)

module _ (s : List ℕ) (at n : ℕ) where
  pub field_past : length s - at < 4 → interleaved_cells (suc n) (drop at s) ≡ refuses 11
  unfolding interleaved_cells
  field_past h = rw (lt-leb 4 (length (drop at s)) (omega (arith, length-drop at s)))

  module _ (f : at + 4 ≤ length s) where
    field_fits : leb 4 (length (drop at s)) ≡ true
    field_fits = le-leb 4 (length (drop at s)) (omega (arith, length-drop at s))

    pub cell_past : length s - (at + 4) < length_at s at → interleaved_cells (suc n) (drop at s) ≡ refuses 11
    unfolding interleaved_cells
    cell_past h = rw (field_fits, lt-leb (length_at s at) (length (drop 4 (drop at s))) (omega (arith, length-drop 4 (drop at s), length-drop at s)))

    pub cell_next : at + 4 + length_at s at ≤ length s
        → interleaved_cells (suc n) (drop at s) ≡ and_then (interleaved_cells n (drop (at + 4 + length_at s at) s)) (λ vs. gives (take (length_at s at) (drop (at + 4) s) ∷ vs))
    unfolding interleaved_cells
    cell_next h =
        rw (
          field_fits,
          le-leb (length_at s at) (length (drop 4 (drop at s))) (omega (arith, length-drop 4 (drop at s), length-drop at s)),
          drop-drop 4 at s,
          drop-drop (length_at s at) (at + 4) s,
        )

-- what stands at a place where n + 1 cells are given
pub record Cell (s : List ℕ) (at n : ℕ) (vs : List Value) : Type 0 where
  pub others : List Value
  pub fits : at + 4 + length_at s at ≤ length s
  pub after : interleaved_cells n (drop (at + 4 + length_at s at) s) ≡ gives others
  pub whole : vs ≡ take (length_at s at) (drop (at + 4) s) ∷ others

pub cell_at : (s : List ℕ) (at n : ℕ) (vs : List Value) → interleaved_cells (suc n) (drop at s) ≡ gives vs → Cell s at n vs
cell_at s at n vs e = go (leb (at + 4) (length s)) (leb (at + 4 + length_at s at) (length s)) (interleaved_cells n (drop (at + 4 + length_at s at) s)) refl refl refl
  where
    go : (b c : Bool) (a : Answer (List Value)) → leb (at + 4) (length s) ≡ b → leb (at + 4 + length_at s at) (length s) ≡ c
        → interleaved_cells n (drop (at + 4 + length_at s at) s) ≡ a → Cell s at n vs
    go false c a p q r = absurd (never (field_past s at n (omega (arith, leb-false (at + 4) (length s) p))) e)
    go true false a p q r =
        let f : at + 4 ≤ length s = leb-true (at + 4) (length s) p in
        absurd (never (cell_past s at n f (omega (arith, leb-false (at + 4 + length_at s at) (length s) q))) e)
    go true true (refuses k) p q r =
        let f : at + 4 + length_at s at ≤ length s = leb-true (at + 4 + length_at s at) (length s) q in
        absurd (never (cell_next s at n (omega arith) f ∙ ap (λ (a : Answer (List Value)). and_then a (λ us. gives (take (length_at s at) (drop (at + 4) s) ∷ us))) r) e)
    go true true (gives us) p q r =
        let f : at + 4 + length_at s at ≤ length s = leb-true (at + 4 + length_at s at) (length s) q in
        record { others = us; fits = f; after = r; whole = cc (cell_next s at n (omega arith) f) }

-- a length field and the bytes of each lie in the string
pub cells_room : (n : ℕ) (s : List ℕ) (vs : List Value) → interleaved_cells n s ≡ gives vs → 4 * n + length (joined vs) ≤ length s
unfolding interleaved_cells
cells_room zero s vs e = let z : vs ≡ [] = cc in omega (arith, ap (λ (us : List Value). length (joined us)) z)
cells_room (suc n) s vs e =
    let c : Cell s 0 n vs = cell_at s 0 n vs e in
    let cell : List ℕ = take (length_at s 0) (drop (0 + 4) s) in
    let long : length cell ≡ length_at s 0 = length-take-le (length_at s 0) (drop (0 + 4) s) (omega (arith, length-drop (0 + 4) s, c.fits)) in
    omega (
      arith,
      cells_room n (drop (0 + 4 + length_at s 0) s) c.others c.after,
      length-drop (0 + 4 + length_at s 0) s,
      c.fits,
      ap (λ (us : List Value). length (joined us)) c.whole,
      length-append cell (joined c.others),
      long,
    )
