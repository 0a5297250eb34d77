-- A list of cells beside its plane, as pairs: by number, one after another, cut and merged.
-- Assumes nothing.
use mathlib.Core.Path.{◌≡◌, refl, sym, ap, ◌∙◌}
use Prim.Native.Nat.{ℕ, zero, suc}
use native.Mathlib.Omega.{arith}
use mathlib.Core.Bool.{Bool, true, false}
use mathlib.Core.List.{List, [], ◌∷◌, ◌++◌, map}
use lib.ListN.{length, get_or, length-map}
use lib.Dec.{eqb}
use Rattle.array.specs.Lists.{from, pick}
use Rattle.array.specs.Content.{pair_up}
use Rattle.array.proofs.Lists.{by_number, entry, map_cong, length_from_lem}
use Rattle.chunks.specs.Gather.{gather, lookup, put_back}

module _ {A : Type 0} where
  pub pair_at : (z : A) (rs : List ℕ) (xs : List A) → length rs ≡ length xs → (i : ℕ) → get_or (pair_up rs xs) i (0, z) ≡ (get_or rs i 0, get_or xs i z)
  pair_at z [] [] e i = refl
  pair_at z [] (x ∷ xs) e i = absurd (omega arith)
  pair_at z (r ∷ rs) [] e i = absurd (omega arith)
  pair_at z (r ∷ rs) (x ∷ xs) e zero = refl
  pair_at z (r ∷ rs) (x ∷ xs) e (suc i) = pair_at z rs xs (omega arith) i

  pub length-pairs : (rs : List ℕ) (xs : List A) → length rs ≡ length xs → length (pair_up rs xs) ≡ length xs
  length-pairs [] [] e = refl
  length-pairs [] (x ∷ xs) e = absurd (omega arith)
  length-pairs (r ∷ rs) [] e = absurd (omega arith)
  length-pairs (r ∷ rs) (x ∷ xs) e = ap suc (length-pairs rs xs (omega arith))

  pub pairs-append : (rs : List ℕ) (xs : List A) (ss : List ℕ) (ys : List A) → length rs ≡ length xs → pair_up (rs ++ ss) (xs ++ ys) ≡ pair_up rs xs ++ pair_up ss ys
  pairs-append [] [] ss ys e = refl
  pairs-append [] (x ∷ xs) ss ys e = absurd (omega arith)
  pairs-append (r ∷ rs) [] ss ys e = absurd (omega arith)
  pairs-append (r ∷ rs) (x ∷ xs) ss ys e = ap (λ (l : List (ℕ × A)). (r, x) ∷ l) (pairs-append rs xs ss ys (omega arith))

  -- two lists made of the same numbers
  pub pairs-map : (f : ℕ → ℕ) (g : ℕ → A) (js : List ℕ) → pair_up (map f js) (map g js) ≡ map (λ j. (f j, g j)) js
  pairs-map f g [] = refl
  pairs-map f g (j ∷ js) = ap (λ (l : List (ℕ × A)). (f j, g j) ∷ l) (pairs-map f g js)

  -- cut and merged, plane and cells are the plane and the cells cut and merged
  pub pairs-gather : (z : A) (rs : List ℕ) (xs : List A) → length rs ≡ length xs → (js : List ℕ)
      → gather (0, z) (pair_up rs xs) js ≡ pair_up (gather 0 rs js) (gather z xs js)
  pairs-gather z rs xs e js =
      map_cong (λ i. get_or (pair_up rs xs) i (0, z)) (λ i. (get_or rs i 0, get_or xs i z)) (pair_at z rs xs e) js
      ∙ sym (pairs-map (λ i. get_or rs i 0) (λ i. get_or xs i z) js)

  lookup-pair : (z : A) (i : ℕ) (js rs : List ℕ) (xs : List A) → length rs ≡ length xs → lookup (0, z) i js (pair_up rs xs) ≡ (lookup 0 i js rs, lookup z i js xs)
  lookup-pair z i [] rs xs e = refl
  lookup-pair z i (j ∷ js) [] [] e = refl
  lookup-pair z i (j ∷ js) [] (x ∷ xs) e = absurd (omega arith)
  lookup-pair z i (j ∷ js) (r ∷ rs) [] e = absurd (omega arith)
  lookup-pair z i (j ∷ js) (r ∷ rs) (x ∷ xs) e = go (eqb i j) (lookup-pair z i js rs xs (omega arith))
    where
      go : (b : Bool) → lookup (0, z) i js (pair_up rs xs) ≡ (lookup 0 i js rs, lookup z i js xs)
          → pick b (r, x) (lookup (0, z) i js (pair_up rs xs)) ≡ (pick b r (lookup 0 i js rs), pick b x (lookup z i js xs))
      go true q = refl
      go false q = q

  pub pairs-put_back : (z : A) (n : ℕ) (js rs : List ℕ) (xs : List A) → length rs ≡ length xs
      → put_back (0, z) n js (pair_up rs xs) ≡ pair_up (put_back 0 n js rs) (put_back z n js xs)
  pairs-put_back z n js rs xs e =
      map_cong (λ i. lookup (0, z) i js (pair_up rs xs)) (λ i. (lookup 0 i js rs, lookup z i js xs)) (λ i. lookup-pair z i js rs xs e) (from 0 n)
      ∙ sym (pairs-map (λ i. lookup 0 i js rs) (λ i. lookup z i js xs) (from 0 n))

  -- the pairs by number
  pub pairs_are : (z : A) (rs : List ℕ) {xs : List A} (g : ℕ → A) (n : ℕ) → length rs ≡ n → xs ≡ map g (from 0 n)
      → pair_up rs xs ≡ map (λ j. (get_or rs j 0, g j)) (from 0 n)
  pairs_are z rs {xs} g n counted e =
      let long : length xs ≡ n = ap length e ∙ length-map (from 0 n) g ∙ length_from_lem 0 n in
      let same : length rs ≡ length xs = counted ∙ sym long in
      by_number (0, z) (λ j. (get_or rs j 0, g j)) (pair_up rs xs) (length-pairs rs xs same ∙ long)
      (λ i h. pair_at z rs xs same i ∙ ap (λ (x : A). (get_or rs i 0, x)) (entry g n e z i h))
