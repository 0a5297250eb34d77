-- Values of two words each.
-- Assumes nothing.
use mathlib.Core.Path.{◌≡◌, refl, sym, ap, ap₂, ◌∙◌}
use mathlib.Core.List.{List, ◌++◌, reverse, reverse-append, append_assoc}
use Prim.Native.Nat.{ℕ, ◌+◌, ◌-◌, ◌*◌, ◌≤◌, ◌<◌}
use native.Mathlib.Omega.{arith}
use lib.ListN.{length, take, drop, replicate, length-append}
use lib.Seq.{take-add, drop-drop, length-take-le}
use Rattle.array.specs.Bytes.{le}
use Rattle.array.specs.Kind.{Order, little, big, ordered}
use Rattle.array.specs.Cells.{Mark, is_null, is_set, is_other}
use Rattle.array.specs.Buffers.{over, over_at}
use Rattle.array.proofs.Bytes.{length-le}
use Rattle.array.proofs.Over.{over_again}
use Rattle.decode_marks.specs.Next.{if_set, word_at, first_word}
use Rattle.decode_words.proofs.SpreadingValues.{word_left, word_cell}

-- two words written one after the other
pub pair_laid : (at x y : ℕ) (d : List ℕ) {m out : List ℕ} → at + 16 ≤ length d → m ≡ over_at at (le 8 x) d → out ≡ over_at (at + 8) (le 8 y) m → out ≡ over_at at (le 8 x ++ le 8 y) d
pair_laid at x y d h em eo =
    let l : length (take at d ++ le 8 x) ≡ at + 8 = omega (arith, length-append (take at d) (le 8 x), length-take-le at d (omega arith), length-le 8 x) in
    eo ∙ ap (over_at (at + 8) (le 8 y)) em ∙ over_again (take at d ++ le 8 x) (le 8 y) d (at + 8) l ∙ ap (λ (f : List ℕ). over f d) (append_assoc (take at d) (le 8 x) (le 8 y))

-- the words of the value k, the first of them first
module _ (s : List ℕ) (at k cells : ℕ) (h : k < cells) where
  low : (o : Order) → word_at 8 o s at (2 * k + 0) (2 * cells) ≡ ordered o (take 8 (drop (at + k * 16) s))
  low o =
      let e : at + (2 * k + 0) * 8 ≡ at + k * 16 = omega arith in
      word_left 8 o s at (2 * k + 0) (2 * cells) (omega arith) ∙ ap (λ (j : ℕ). ordered o (take 8 (drop j s))) e

  high : (o : Order) → word_at 8 o s at (2 * k + 1) (2 * cells) ≡ ordered o (take 8 (drop 8 (drop (at + k * 16) s)))
  high o =
      let e : at + (2 * k + 1) * 8 ≡ at + k * 16 + 8 = omega arith in
      word_left 8 o s at (2 * k + 1) (2 * cells) (omega arith) ∙ ap (λ (j : ℕ). ordered o (take 8 (drop j s))) e ∙ ap (λ (q : List ℕ). ordered o (take 8 q)) (sym (drop-drop 8 (at + k * 16) s))

  words : (o : Order) → word_at 8 o s at (2 * k + first_word o) (2 * cells) ++ word_at 8 o s at (2 * k + (1 - first_word o)) (2 * cells) ≡ ordered o (take 16 (drop (at + k * 16) s))
  words little = ap₂ (λ (a b : List ℕ). a ++ b) (low little) (high little) ∙ sym (take-add 8 8 (drop (at + k * 16) s))
  words big =
      let q : List ℕ = drop (at + k * 16) s in
      ap₂ (λ (a b : List ℕ). a ++ b) (high big) (low big) ∙ sym (ap reverse (take-add 8 8 q) ∙ reverse-append (take 8 q) (take 8 (drop 8 q)))

  pub pair_is : (o : Order) {a : ℕ} → a ≡ first_word o → (v u : ℕ) → le 8 v ≡ word_at 8 o s at (2 * k + a) (2 * cells) → le 8 u ≡ word_at 8 o s at (2 * k + (1 - a)) (2 * cells)
      → le 8 v ++ le 8 u ≡ ordered o (take 16 (drop (at + k * 16) s))
  pair_is o {a} e v u ev eu =
      ap₂ (λ (a b : List ℕ). a ++ b) ev eu
      ∙ ap (λ (a : ℕ). word_at 8 o s at (2 * k + a) (2 * cells) ++ word_at 8 o s at (2 * k + (1 - a)) (2 * cells)) e ∙ words o

both : {A : Type 0} (m : Mark) (x y z w : List A) → if_set m x z ++ if_set m y w ≡ if_set m (x ++ y) (z ++ w)
both is_null x y z w = refl
both is_set x y z w = refl
both is_other x y z w = refl

-- the words x and y are the stored ones, or 0
pub pair_cell : (m : Mark) {x y : ℕ} (v u : ℕ) {q : List ℕ} → x ≡ if_set m v 0 → y ≡ if_set m u 0 → le 8 v ++ le 8 u ≡ q → le 8 x ++ le 8 y ≡ if_set m q (replicate 16 0)
pair_cell m {x} {y} v u {q} ex ey e =
    ap₂ (λ (a b : List ℕ). a ++ b) (word_cell 8 m v (le 8 v) ex refl) (word_cell 8 m u (le 8 u) ey refl)
    ∙ both m (le 8 v) (le 8 u) (replicate 8 0) (replicate 8 0) ∙ ap (λ (p : List ℕ). if_set m p (replicate 16 0)) e
