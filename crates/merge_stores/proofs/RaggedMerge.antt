-- Ragged values merged: the offsets that are summed from merged lengths are those of the merged values, and values stored by them are laid end to end.
-- Assumes nothing.
use mathlib.Core.Path.{◌≡◌, refl, sym, ap, ap₂, ◌∙◌, subst}
use Prim.Native.Nat.{ℕ, zero, suc, ◌+◌, ◌<◌, ◌≤◌}
use native.Mathlib.Nat.{add-zero, add_assoc}
use native.Mathlib.Omega.{arith}
use mathlib.Core.List.{List, [], ◌∷◌, ◌++◌, map}
use lib.ListN.{length, get_or, take, drop, length-map, get_or-append, get_or-map}
use lib.Seq.{take-suc}
use Rattle.array.specs.Cells.{Value}
use Rattle.array.specs.Lists.{All, joined, from}
use Rattle.array.specs.Offsets.{ends, offsets_of}
use Rattle.array.specs.Places.{offset_at, Rises, step_at, sum, sums, steps_at}
use Rattle.array.proofs.Lists.{All-at, length_from_lem}
use Rattle.array.proofs.Places.{sum-append, length-sums}
use Rattle.chunks.specs.Gather.{lookup, put_back, Once}
use Rattle.chunks.proofs.Gather.{put_back_at}
use Rattle.merge_stores.specs.Scatter.{scatter, places}
use Rattle.merge_stores.proofs.Blocks.{Beside, merged_block}
use Rattle.merge_stores.proofs.Levels.{put_back-map}

pub ends-sums : (a : ℕ) (vs : List Value) → ends a vs ≡ sums a (map length vs)
ends-sums a [] = refl
ends-sums a (v ∷ vs) = ap (λ (r : List ℕ). (a + length v) ∷ r) (ends-sums (a + length v) vs)

-- the offsets of merged values are the sums of the merged lengths
pub offsets_merged_lem : (n : ℕ) (js : List ℕ) (vs : List Value) → offsets_of (put_back [] n js vs) ≡ 0 ∷ sums 0 (put_back 0 n js (map length vs))
offsets_merged_lem n js vs = ap (λ (r : List ℕ). 0 ∷ r) (ends-sums 0 (put_back [] n js vs) ∙ ap (sums 0) (sym (put_back-map {A = Value} length [] n js vs)))

sums_at : (a : ℕ) (xs : List ℕ) (j : ℕ) → j ≤ length xs → get_or (a ∷ sums a xs) j 0 ≡ a + sum (take j xs)
sums_at a xs zero h = sym (add-zero a)
sums_at a [] (suc j) h = absurd (omega arith)
sums_at a (x ∷ xs) (suc j) h = sums_at (a + x) xs j (omega arith) ∙ add_assoc a x (sum (take j xs))

-- where cell j begins, also with more behind the offsets
pub offset_is : (xs t : List ℕ) (j : ℕ) → j ≤ length xs → offset_at ((0 ∷ sums 0 xs) ++ t) j ≡ 0 + sum (take j xs)
offset_is xs t j h = get_or-append (0 ∷ sums 0 xs) t 0 j (omega (arith, length-sums 0 xs)) ∙ sums_at 0 xs j h

pub many_from : {A : Type 0} (f : ℕ → A) (a n : ℕ) → length (map f (from a n)) ≡ n
many_from f a n = length-map (from a n) f ∙ length_from_lem a n

-- a list by its elements
pub map_at : (f : ℕ → ℕ) (js ls : List ℕ) → length js ≡ length ls → ((i : ℕ) → i < length js → f (get_or js i 0) ≡ get_or ls i 0) → map f js ≡ ls
map_at f [] [] e h = refl
map_at f [] (l ∷ ls) e h = absurd (omega arith)
map_at f (j ∷ js) [] e h = absurd (omega arith)
map_at f (j ∷ js) (l ∷ ls) e h = ap₂ (λ (x : ℕ) (r : List ℕ). x ∷ r) (h 0 (omega arith)) (map_at f js ls (omega arith) (λ i k. h (suc i) (omega arith)))

module _ (n : ℕ) (js : List ℕ) (a : All (λ j. j < n) js) (once : Once n js) where
  module _ (ls t : List ℕ) (e : length js ≡ length ls) where
    long : length (put_back 0 n js ls) ≡ n
    long = many_from (λ k. lookup 0 k js ls) 0 n

    step : (j : ℕ) → j < n → offset_at ((0 ∷ sums 0 (put_back 0 n js ls)) ++ t) (suc j) ≡ offset_at ((0 ∷ sums 0 (put_back 0 n js ls)) ++ t) j + get_or (put_back 0 n js ls) j 0
    step j h =
        let xs : List ℕ = put_back 0 n js ls in
        let s : sum (take (suc j) xs) ≡ sum (take j xs) + get_or xs j 0 = ap sum (take-suc xs j 0 (omega (arith, long))) ∙ sum-append (take j xs) (get_or xs j 0 ∷ []) ∙ omega arith in
        omega (arith, offset_is xs t j (omega (arith, long)), offset_is xs t (suc j) (omega (arith, long)), s)

    -- the merged offsets step, at the cells of the list, by the lengths
    pub steps_merged : steps_at (offset_at ((0 ∷ sums 0 (put_back 0 n js ls)) ++ t)) js ≡ ls
    steps_merged =
        map_at (step_at (offset_at ((0 ∷ sums 0 (put_back 0 n js ls)) ++ t))) js ls e
        (λ i h. omega (arith, step (get_or js i 0) (All-at (λ j. j < n) 0 js a i h), put_back_at n js a once 0 ls i e h))

    pub rises_merged : Rises (offset_at ((0 ∷ sums 0 (put_back 0 n js ls)) ++ t)) n
    rises_merged j h = omega (arith, step j h)

  beside_from : (P : ℕ → Value → Type 0) (ks : List ℕ) (vs : List Value) → length ks ≡ length vs → ((i : ℕ) → i < length ks → P (get_or ks i 0) (get_or vs i [])) → Beside P ks vs
  beside_from P [] [] e f = tt
  beside_from P [] (v ∷ vs) e f = absurd (omega arith)
  beside_from P (k ∷ ks) [] e f = absurd (omega arith)
  beside_from P (k ∷ ks) (v ∷ vs) e f = (f 0 (omega arith), beside_from P ks vs (omega arith) (λ i h. f (suc i) (omega arith)))

  -- values stored by the merged offsets are the merged values, end to end
  pub ragged_block : (vs : List Value) (t o : List ℕ) → length js ≡ length vs → sum (put_back 0 n js (map length vs)) ≤ length o
      → scatter o (places (offset_at ((0 ∷ sums 0 (put_back 0 n js (map length vs))) ++ t)) js) (joined vs) ≡ joined (put_back [] n js vs) ++ drop (sum (put_back 0 n js (map length vs))) o
  ragged_block vs t o e room =
      let xs : List ℕ = put_back 0 n js (map length vs) in
      let el : length js ≡ length (map length vs) = e ∙ sym (length-map vs length) in
      let lx : length xs ≡ n = long (map length vs) [] el in
      let z : 0 + sum xs ≡ sum xs = omega arith in
      merged_block xs (offset_at ((0 ∷ sums 0 xs) ++ t)) 0 o (λ j h. offset_is xs t j h) (omega arith) [] js vs (subst (λ (k : ℕ). All (λ j. j < k) js) (sym lx) a)
      (beside_from (λ j v. length v ≡ get_or xs j 0) js vs e (λ i h. sym (put_back_at n js a once 0 (map length vs) i el h ∙ get_or-map length vs i []))) (subst (λ (k : ℕ). Once k js) (sym lx) once)
      ∙ ap₂ (λ (k m : ℕ). joined (put_back [] k js vs) ++ drop m o) lx z
