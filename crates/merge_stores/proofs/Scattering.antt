-- A merge by stores: runs, the places of cells, and that it is the merge where each place stands once.
-- Assumes nothing.
use mathlib.Core.Path.{◌≡◌, refl, sym, ap, ap₂, ◌∙◌, subst}
use Prim.Native.Nat.{ℕ, zero, suc, ◌+◌, ◌-◌, ◌<◌, ◌≤◌}
use native.Mathlib.Nat.{add-zero}
use native.Mathlib.Omega.{arith}
use mathlib.Core.Bool.{Bool, true, false}
use mathlib.Core.List.{List, [], ◌∷◌, ◌++◌, map}
use lib.ListN.{length, get_or, take, drop, set, length-append, length-set}
use lib.Seq.{paste, take-suc-set, drop-set-lt, append_snoc, get_or-set_same, get_or-set_other}
use lib.Dec.{eqb}
use borrow.Author.Tests.{eqb-true, eqb-false}
use Rattle.array.specs.Lists.{from, joined, pick, count}
use Rattle.array.specs.Places.{Rises, step_at, bytes_at}
use Rattle.array.proofs.Lists.{length_from_lem, by_number, map-append, joined-append}
use Rattle.array.proofs.Geometry.{from-append}
use Rattle.array.proofs.Places.{run_rises}
use Rattle.chunks.specs.Gather.{lookup, put_back}
use Rattle.merge_stores.specs.Scatter.{scatter, places}

-- ---- scatter

module _ {A : Type 0} where
  pub length-scatter : (acc : List A) (js : List ℕ) (xs : List A) → length (scatter acc js xs) ≡ length acc
  length-scatter acc [] xs = refl
  length-scatter acc (j ∷ js) [] = refl
  length-scatter acc (j ∷ js) (x ∷ xs) = length-scatter (set acc j x) js xs ∙ length-set acc j x

  pub scatter_then : (acc : List A) (js ks : List ℕ) (xs ys : List A) → length js ≡ length xs
      → scatter acc (js ++ ks) (xs ++ ys) ≡ scatter (scatter acc js xs) ks ys
  scatter_then acc [] ks [] ys e = refl
  scatter_then acc [] ks (x ∷ xs) ys e = absurd (omega arith)
  scatter_then acc (j ∷ js) ks [] ys e = absurd (omega arith)
  scatter_then acc (j ∷ js) ks (x ∷ xs) ys e = scatter_then (set acc j x) js ks xs ys (omega arith)

  -- the others go on in the elements behind
  pub scatter_on : (acc : List A) (js ks : List ℕ) (xs : List A) → length js ≤ length xs → scatter acc (js ++ ks) xs ≡ scatter (scatter acc js xs) ks (drop (length js) xs)
  scatter_on acc [] ks xs h = refl
  scatter_on acc (j ∷ js) ks [] h = absurd (omega arith)
  scatter_on acc (j ∷ js) ks (x ∷ xs) h = scatter_on (set acc j x) js ks xs (omega arith)

  pub scatter_run : (n : ℕ) (acc : List A) (a : ℕ) (xs : List A) → a + n ≤ length acc → n ≤ length xs → scatter acc (from a n) xs ≡ paste acc a xs n
  scatter_run zero acc a xs h l = lib.Seq.paste-zero acc a xs
  scatter_run (suc n) acc a [] h l = absurd (omega arith)
  scatter_run (suc n) acc a (x ∷ xs) h l =
      let q : suc a + n ≡ a + suc n = omega arith in
      scatter_run n (set acc a x) (suc a) xs (omega (arith, length-set acc a x)) (omega arith)
      ∙ ap₂ (λ (p r : List A). p ++ take n xs ++ r) (take-suc-set acc a x (omega arith)) (drop-set-lt (suc a + n) acc a x (omega arith) ∙ ap (λ (k : ℕ). drop k acc) q)
      ∙ ap (λ (p : List A). p ++ drop (a + suc n) acc) (append_snoc (take a acc) x (take n xs))

-- a run, and then the others
pub scatter_next : (acc : List ℕ) (a n : ℕ) (js xs : List ℕ) → a + n ≤ length acc → n ≤ length xs
    → scatter acc (from a n ++ js) xs ≡ scatter (paste acc a xs n) js (drop n xs)
scatter_next acc a n js xs h l =
    scatter_on acc (from a n) js xs (omega (arith, length_from_lem a n))
    ∙ ap₂ (λ (r : List ℕ) (k : ℕ). scatter r js (drop k xs)) (scatter_run n acc a xs h l) (length_from_lem a n)

-- ---- a merge by stores is the merge

module _ {A : Type 0} (z : A) where
  -- a place that stands nowhere in the list keeps its element
  scatter_miss : (acc : List A) (js : List ℕ) (xs : List A) (i : ℕ) → count i js ≡ 0 → get_or (scatter acc js xs) i z ≡ get_or acc i z
  scatter_miss acc [] xs i e = refl
  scatter_miss acc (j ∷ js) [] i e = refl
  scatter_miss acc (j ∷ js) (x ∷ xs) i e = go (scatter_miss (set acc j x) js xs i) (eqb i j) refl e
    where
      go : (count i js ≡ 0 → get_or (scatter (set acc j x) js xs) i z ≡ get_or (set acc j x) i z)
          → (b : Bool) → eqb i j ≡ b → pick b (suc (count i js)) (count i js) ≡ 0 → get_or (scatter (set acc j x) js xs) i z ≡ get_or acc i z
      go ih true q e = absurd (omega arith)
      go ih false q e = ih e ∙ get_or-set_other acc j i x z (eqb-false i j q)

  scatter_hit : (acc : List A) (js : List ℕ) (xs : List A) (i : ℕ) → i < length acc → length js ≡ length xs → count i js ≡ 1 → get_or (scatter acc js xs) i z ≡ lookup z i js xs
  scatter_hit acc [] xs i h l e = absurd (omega arith)
  scatter_hit acc (j ∷ js) [] i h l e = absurd (omega arith)
  scatter_hit acc (j ∷ js) (x ∷ xs) i h l e =
      go (scatter_hit (set acc j x) js xs i (subst (λ (m : ℕ). i < m) (sym (length-set acc j x)) h) (omega arith)) (eqb i j) refl e
    where
      go : (count i js ≡ 1 → get_or (scatter (set acc j x) js xs) i z ≡ lookup z i js xs)
          → (b : Bool) → eqb i j ≡ b → pick b (suc (count i js)) (count i js) ≡ 1 → get_or (scatter (set acc j x) js xs) i z ≡ pick b x (lookup z i js xs)
      go ih true q e =
          scatter_miss (set acc j x) js xs i (omega arith) ∙ ap (λ (m : ℕ). get_or (set acc j x) m z) (eqb-true i j q)
          ∙ get_or-set_same acc j x z (subst (λ (m : ℕ). m < length acc) (eqb-true i j q) h)
      go ih false q e = ih e

  pub scatter-put_back : (acc : List A) {n : ℕ} (js : List ℕ) (xs : List A) → length acc ≡ n → length js ≡ length xs → ((i : ℕ) → i < n → count i js ≡ 1)
      → scatter acc js xs ≡ put_back z n js xs
  scatter-put_back acc {n} js xs e l o =
      by_number z (λ i. lookup z i js xs) (scatter acc js xs) (length-scatter acc js xs ∙ e) (λ i h. scatter_hit acc js xs i (omega arith) l (o i h))

-- ---- the places of a run of cells are a run of bytes

pub places-append : (off : ℕ → ℕ) (js ks : List ℕ) → places off (js ++ ks) ≡ places off js ++ places off ks
places-append off js ks = let f : ℕ → List ℕ = λ j. from (off j) (step_at off j) in ap joined (map-append f js ks) ∙ joined-append (map f js) (map f ks)

-- as many as the cells' bytes
pub length-places : (off : ℕ → ℕ) (js : List ℕ) → length (places off js) ≡ bytes_at off js
length-places off [] = refl
length-places off (j ∷ js) = omega (arith, length-append (from (off j) (step_at off j)) (places off js), length_from_lem (off j) (step_at off j), length-places off js)

pub places_run : {off : ℕ → ℕ} {v : ℕ} → Rises off v → (a n : ℕ) → a + n ≤ v → places off (from a n) ≡ from (off a) (off (a + n) - off a)
places_run {off} r a zero h = let q : 0 ≡ off (a + zero) - off a = let e : off (a + zero) ≡ off a = ap off (add-zero a) in omega (arith, e) in ap (from (off a)) q
places_run {off} r a (suc n) h =
    let q : suc a + n ≡ a + suc n = omega arith in
    let t : off a ≤ off (suc a) = r a (omega arith) in
    let u : off a + step_at off a ≡ off (suc a) = omega arith in
    let v : step_at off a + (off (suc a + n) - off (suc a)) ≡ off (a + suc n) - off a = omega (arith, run_rises r (suc a) n (omega arith), ap off q) in
    ap (λ (x : List ℕ). from (off a) (step_at off a) ++ x) (places_run r (suc a) n (omega arith))
    ∙ sym (from-append (off a) (step_at off a) (off (suc a + n) - off (suc a)) (off (suc a)) (off (a + suc n) - off a) u v)
