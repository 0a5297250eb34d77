-- Whether subsets lie within a shape, side by side and subset by subset: what is left to test gives what the whole gives.
-- Assumes nothing.
use mathlib.Core.Path.{◌≡◌, refl, sym, ap, ap₂, ◌∙◌}
use mathlib.Core.Logic.{◌≢◌}
use mathlib.Core.Bool.{Bool, true, false, ◌&&◌}
use Prim.Native.Nat.{ℕ, ◌+◌, ◌-◌, ◌*◌, ◌%◌, ◌<◌, ◌≤◌}
use native.Mathlib.Nat.{mod-eq_of_lt, add-mod_left}
use native.Mathlib.Numerals.{add-one}
use native.Mathlib.Omega.{arith}
use mathlib.Core.List.{List, ◌∷◌, ◌++◌}
use lib.ListN.{length, take, drop, get_or, drop_of_length-le, length-append}
use lib.Seq.{drop-cons, take-take, take_at, drop_at, drop-drop}
use lib.Dec.{leb}
use borrow.Author.Tests.{le-leb, lt-leb, leb-true, leb-false, eq-eqb, ne_eqb}
use Rattle.std.proofs.lemmas.List.{drop-take}
use Rattle.array.specs.Lists.{every}
use Rattle.array.specs.Subset.{lengths, pairs, subset_of, subsets_of, subset_test, full_test, numbers_test, many_test}
use Rattle.array.proofs.SubsetLaws.{lengths-pairs}
use Rattle.subset.proofs.Subsets.{none_left, next_split}

-- ---- one side after another

next_of : (xs : List ℕ) (i : ℕ) → i < length xs → drop i xs ≡ get_or xs i 0 ∷ drop (i + 1) xs
next_of xs i h = drop-cons xs i 0 h ∙ ap (λ (j : ℕ). get_or xs i 0 ∷ drop j xs) (sym (add-one i))

-- the test of the sides from i on
abbrev pub fits_from : List ℕ → List ℕ → List ℕ → ℕ → Bool
fits_from sh st ls i = subset_test (drop i sh) (pairs (drop i st) (drop i ls))

module _ (sh st ls : List ℕ) (d : length st ≡ length sh) (e : length ls ≡ length sh) (i : ℕ) where
  pub fits_end : length sh ≤ i → fits_from sh st ls i ≡ true
  fits_end h = let g : length st ≤ i = omega arith in rw (drop_of_length-le sh h, drop_of_length-le st g)

  module _ (h : i < length sh) where
    side : fits_from sh st ls i ≡ (leb (get_or st i 0 + get_or ls i 0) (get_or sh i 0) && fits_from sh st ls (i + 1))
    side = rw (next_of sh i h, next_of st i (omega arith), next_of ls i (omega arith)) refl

    pub fits_over : get_or sh i 0 < get_or st i 0 + get_or ls i 0 → fits_from sh st ls i ≡ false
    fits_over f = side ∙ ap (λ (b : Bool). b && fits_from sh st ls (i + 1)) (lt-leb (get_or st i 0 + get_or ls i 0) (get_or sh i 0) f)

    -- a length that lies within its side is taken off it
    module _ (g : get_or ls i 0 ≤ get_or sh i 0) where
      pub fits_more : leb (get_or st i 0) (get_or sh i 0 - get_or ls i 0) ≡ true → fits_from sh st ls i ≡ fits_from sh st ls (i + 1)
      fits_more f =
          let h : get_or st i 0 ≤ get_or sh i 0 - get_or ls i 0 = leb-true (get_or st i 0) (get_or sh i 0 - get_or ls i 0) f in
          side ∙ ap (λ (b : Bool). b && fits_from sh st ls (i + 1)) (le-leb (get_or st i 0 + get_or ls i 0) (get_or sh i 0) (omega arith))

      pub fits_no_room : leb (get_or st i 0) (get_or sh i 0 - get_or ls i 0) ≡ false → fits_from sh st ls i ≡ false
      fits_no_room f =
          let h : get_or sh i 0 - get_or ls i 0 < get_or st i 0 = leb-false (get_or st i 0) (get_or sh i 0 - get_or ls i 0) f in
          fits_over (omega arith)

-- the same of a rule for each length: no length is 0
module _ (ls : List ℕ) (i : ℕ) where
  pub some_end : length ls ≤ i → every (leb 1) (drop i ls) ≡ true
  some_end h = ap (every (leb 1)) (drop_of_length-le ls h)

  module _ (h : i < length ls) where
    pub some_more : 1 ≤ get_or ls i 0 → every (leb 1) (drop i ls) ≡ every (leb 1) (drop (i + 1) ls)
    some_more f = ap (every (leb 1)) (next_of ls i h) ∙ ap (λ (b : Bool). b && every (leb 1) (drop (i + 1) ls)) (le-leb 1 (get_or ls i 0) f)

    pub some_over : get_or ls i 0 < 1 → every (leb 1) (drop i ls) ≡ false
    some_over f = ap (every (leb 1)) (next_of ls i h) ∙ ap (λ (b : Bool). b && every (leb 1) (drop (i + 1) ls)) (lt-leb 1 (get_or ls i 0) f)

-- a subset within the shape holds a cell where no length is 0
module _ (sh st ls : List ℕ) (e : length st ≡ length ls) where
  pub full_over : subset_test sh (pairs st ls) ≡ false → full_test sh (pairs st ls) ≡ false
  full_over f = ap (λ (b : Bool). b && every (leb 1) (lengths (pairs st ls))) f

  pub full_by_lengths : subset_test sh (pairs st ls) ≡ true → full_test sh (pairs st ls) ≡ every (leb 1) ls
  full_by_lengths f = ap₂ (λ (b : Bool) (l : List ℕ). b && every (leb 1) l) f (lengths-pairs st ls e)

-- ---- one subset

module _ (sh ns : List ℕ) where
  pub numbers_miscounted : length ns ≢ 2 * length sh → numbers_test sh ns ≡ false
  numbers_miscounted f = ap (λ (b : Bool). b && subset_test sh (subset_of (length sh) ns)) (ne_eqb (length ns) (2 * length sh) f)

  pub numbers_counted : length ns ≡ 2 * length sh → numbers_test sh ns ≡ subset_test sh (subset_of (length sh) ns)
  numbers_counted e = ap (λ (b : Bool). b && subset_test sh (subset_of (length sh) ns)) (eq-eqb (length ns) (2 * length sh) e)

-- ---- one subset after another: the numbers `left` are those of the others

pub record Fitting (sh ns left : List ℕ) : Type 0 where
  pub whole : length left % (2 * length sh) ≡ 0
  pub same : many_test sh ns ≡ every (full_test sh) (subsets_of (length sh) left)

module _ (sh ns : List ℕ) where
  pub many_miscounted : length ns % (2 * length sh) ≢ 0 → many_test sh ns ≡ false
  many_miscounted f = ap (λ (b : Bool). b && every (full_test sh) (subsets_of (length sh) ns)) (ne_eqb (length ns % (2 * length sh)) 0 f)

  pub fitting_begins : length ns % (2 * length sh) ≡ 0 → Fitting sh ns ns
  fitting_begins e = record {
    whole = e;
    same = ap (λ (b : Bool). b && every (full_test sh) (subsets_of (length sh) ns)) (eq-eqb (length ns % (2 * length sh)) 0 e);
  }

  module _ {left : List ℕ} (f : Fitting sh ns left) where
    pub fitting-ends : length left < 2 * length sh → many_test sh ns ≡ true
    fitting-ends h = let z : length left ≤ 0 = omega (arith, mod-eq_of_lt h, f.whole) in f.same ∙ ap (every (full_test sh)) (none_left (length sh) left z)

    -- the next subset is a chunk of the numbers, split in starts and lengths
    module _ (h : 1 ≤ length sh) (chunk rest : List ℕ) {starts lens : List ℕ} (e : left ≡ chunk ++ rest) (n : length chunk ≡ 2 * length sh)
        (es : starts ≡ take (length sh) chunk) (el : lens ≡ drop (length sh) chunk) where
      next : subsets_of (length sh) left ≡ pairs starts lens ∷ subsets_of (length sh) rest
      next =
          let d : ℕ = length sh in
          let whole : take (d + d) left ≡ chunk = ap (take (d + d)) e ∙ take_at chunk rest (d + d) (omega (arith, n)) in
          let first : take d left ≡ starts = sym (take-take d (d + d) left (omega arith)) ∙ ap (take d) whole ∙ sym es in
          let second : take d (drop d left) ≡ lens = sym (drop-take d d left) ∙ ap (drop d) whole ∙ sym el in
          let others : drop d (drop d left) ≡ rest = drop-drop d d left ∙ ap (drop (d + d)) e ∙ drop_at chunk rest (d + d) (omega (arith, n)) in
          rw (first, second, others) at (next_split d left h f.whole (omega (arith, n, ap length e, length-append chunk rest)))

      first : {t : Bool} → full_test sh (pairs starts lens) ≡ t → many_test sh ns ≡ (t && every (full_test sh) (subsets_of (length sh) rest))
      first r = f.same ∙ ap (every (full_test sh)) next ∙ ap (λ (b : Bool). b && every (full_test sh) (subsets_of (length sh) rest)) r

      pub fitting_more : full_test sh (pairs starts lens) ≡ true → Fitting sh ns rest
      fitting_more t = record {
        whole =
            let z : length left ≡ 2 * length sh + length rest = omega (arith, ap length e, length-append chunk rest) in
            sym (add-mod_left (2 * length sh) (length rest)) ∙ ap (λ (k : ℕ). k % (2 * length sh)) (sym z) ∙ f.whole;
        same = first t;
      }

      pub fitting-over : full_test sh (pairs starts lens) ≡ false → many_test sh ns ≡ false
      fitting-over t = first t

pub ruleset fitting_laws = (fitting_more, fitting-over, fitting-ends)
