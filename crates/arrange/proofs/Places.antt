-- An arrangement by the numbers of its cells: what code that writes it plane by plane speaks of.
-- Assumes nothing.
use mathlib.Core.Path.{◌≡◌, refl, sym, ap, ap₂, ◌∙◌}
use Prim.Native.Nat.{ℕ, zero, suc, ◌+◌, ◌-◌, ◌/◌, ◌%◌, ◌^◌, ◌<◌, ◌≤◌}
use native.Mathlib.Nat.{sub-zero, zero-add, add-zero}
use native.Mathlib.Omega.{arith}
use mathlib.Core.Bool.{Bool}
use mathlib.Core.List.{List, [], ◌∷◌, ◌++◌, map}
use lib.ListN.{length, get_or, replicate, length-reverse}
use borrow.Author.Tests.{lt-ltb, le-ltb}
use Rattle.std.proofs.lemmas.List.{get_or-reverse, get_or-drop, replicate-append-replicate}
use Rattle.array.specs.Lists.{from, joined, pick}
use Rattle.array.specs.Bytes.{digits}
use Rattle.array.specs.Cells.{Value, blank}
use Rattle.array.specs.Content.{layout}
use Rattle.array.specs.Places.{sum, cell_by}
use Rattle.array.proofs.Bytes.{length_digits, drop-digits}
use Rattle.array.proofs.Lists.{by_number, map-map}
use Rattle.array.proofs.Numbered.{laid_is}
use Rattle.arrange.specs.Arrangement.{states, state_cell, states_of, any_ragged, arrangement}
use Rattle.arrange.specs.Places.{state_at, mask_in, value_in, laid_arrangement}

-- ---- a digit

digit : (b w n i : ℕ) → i < w → get_or (digits b w n) i 0 ≡ n / b ^ i % b
digit b w n i h =
    let more : w - i ≡ suc (w - suc i) = omega arith in
    sym (ap (λ (k : ℕ). get_or (digits b w n) k 0) (add-zero i)) ∙ sym (get_or-drop i (digits b w n) 0 0)
    ∙ ap (λ (l : List ℕ). get_or l 0 0) (drop-digits b w n i ∙ ap (λ (k : ℕ). digits b k (n / b ^ i)) more)

pub state_is : (d n k j : ℕ) → j < n → get_or (states_of d n k) j 0 ≡ state_at d n k j
state_is d n k j h =
    let l : length (digits (states d) n k) ≡ n = length_digits (states d) n k in
    let there : length (digits (states d) n k) - 1 - j ≡ n - suc j = omega (arith, l) in
    get_or-reverse (digits (states d) n k) j 0 (omega (arith, l)) ∙ ap (λ (i : ℕ). get_or (digits (states d) n k) i 0) there
    ∙ digit (states d) n k (n - suc j) (omega arith)

pub states_are : (d n k : ℕ) → states_of d n k ≡ map (state_at d n k) (from 0 n)
states_are d n k =
    by_number 0 (state_at d n k) (states_of d n k) (length-reverse (digits (states d) n k) ∙ length_digits (states d) n k) (λ j h. state_is d n k j h)

-- ---- a cell, level by level from level l on

cell_null : (m : ℕ → ℕ) (v : Value) (d l : ℕ) → v ≡ [] → ((i : ℕ) → l ≤ i → m i ≡ 0) → blank [] d ≡ cell_by m v d l
cell_null m v zero l e z = sym e
cell_null m v (suc d) l e z = λ i. (sym (z l (omega arith)) i, cell_null m v d (suc l) e (λ k h. z k (omega arith)) i)

mask_set : (i l : ℕ) → l < i → mask_in i l ≡ 1
mask_set i l h = ap (λ (b : Bool). pick b 1 0) (lt-ltb l i h)

mask_null : (i l : ℕ) → i ≤ l → mask_in i l ≡ 0
mask_null i l h = ap (λ (b : Bool). pick b 1 0) (le-ltb l i h)

cell_from : (d i l : ℕ) → state_cell d i ≡ cell_by (mask_in (l + i)) (value_in d i) d l
cell_from zero i l = ap (λ (n : ℕ). replicate n 0) (sym (sub-zero i))
cell_from (suc d) zero l =
    let none : value_in (suc d) zero ≡ [] = let z : zero - suc d ≡ 0 = omega arith in ap (λ (n : ℕ). replicate n 0) z in
    cell_null (mask_in (l + zero)) (value_in (suc d) zero) (suc d) l none (λ k h. mask_null (l + zero) k (omega arith))
cell_from (suc d) (suc i) l =
    let up : suc l + i ≡ l + suc i = omega arith in
    let down : i - d ≡ suc i - suc d = omega arith in
    let below : state_cell d i ≡ cell_by (mask_in (l + suc i)) (value_in (suc d) (suc i)) d (suc l) =
    cell_from d i (suc l) ∙ ap₂ (λ (k n : ℕ). cell_by (mask_in k) (replicate n 0) d (suc l)) up down in
    λ x. (sym (mask_set (l + suc i) l (omega arith)) x, below x)

pub cell_is : (d i : ℕ) → state_cell d i ≡ cell_by (mask_in i) (value_in d i) d 0
cell_is d i = cell_from d i 0 ∙ ap (λ (k : ℕ). cell_by (mask_in k) (value_in d i) d 0) (zero-add i)

-- ---- the arrangement, plane by plane; its value bytes are so many zeros

pub arrangement_laid : (d n k : ℕ) → arrangement d n k ≡ laid_arrangement d n k
arrangement_laid d n k =
    ap (λ (is : List ℕ). layout any_ragged d (map (state_cell d) is)) (states_are d n k)
    ∙ ap (layout any_ragged d) (map-map (state_at d n k) (state_cell d) (from 0 n))
    ∙ laid_is any_ragged d (λ j. state_cell d (state_at d n k j)) (λ l j. mask_in (state_at d n k j) l) (λ j. value_in d (state_at d n k j))
    (λ j. cell_is d (state_at d n k j)) (from 0 n)

pub joined_zeros : (f : ℕ → ℕ) (js : List ℕ) → joined {A = ℕ} (map (λ j. replicate (f j) 0) js) ≡ replicate (sum (map f js)) 0
joined_zeros f [] = refl
joined_zeros f (j ∷ js) = ap (λ (r : List ℕ). replicate (f j) 0 ++ r) (joined_zeros f js) ∙ replicate-append-replicate (f j) (sum (map f js)) 0

pub zeros_laid : (d n k : ℕ) → (arrangement d n k).values ≡ replicate (sum (map (λ j. state_at d n k j - d) (from 0 n))) 0
zeros_laid d n k = ap (λ c. c.values) (arrangement_laid d n k) ∙ joined_zeros (λ j. state_at d n k j - d) (from 0 n)
