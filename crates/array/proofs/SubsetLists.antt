-- Subsets laid end to end as numbers: those that the definitions speak of, taken one after another.
-- Assumes nothing.
use mathlib.Core.Path.{◌≡◌, sym, ap, ap₂, ◌∙◌}
use Prim.Native.Nat.{ℕ, zero, suc, ◌+◌, ◌-◌, ◌*◌, ◌/◌, ◌%◌, ◌<◌, ◌≤◌}
use native.Mathlib.Nat.{mul-div_cancel, div-add-mod', mul-mod_left, zero-div, zero-mul, suc-mul, sub-zero}
use native.Mathlib.Omega.{arith}
use mathlib.Core.List.{List, [], ◌∷◌, map}
use lib.ListN.{length, take, drop, length-drop}
use lib.Seq.{take-take, take_all, length-take-le, drop-drop}
use Rattle.std.proofs.lemmas.List.{drop-take}
use Rattle.array.specs.Lists.{pieces}
use Rattle.array.specs.Subset.{Subset, pairs, subset_of, subsets_of, SubsetOk, NumbersOk}
use Rattle.array.specs.Rows.{Within}

-- no numbers are no subsets
pub subsets_none : (d : ℕ) → subsets_of d [] ≡ []
subsets_none d = ap (λ (k : ℕ). map (subset_of d) (pieces (2 * d) k [])) (zero-div (2 * d))

-- numbers that are at least one subset: the first, and the others
module _ (d : ℕ) (h : 1 ≤ d) (ns : List ℕ) (w : length ns % (2 * d) ≡ 0) (s : 1 ≤ length ns) where
  abbrev others : ℕ
  others = length ns / (2 * d) - 1

  whole : length ns / (2 * d) * (2 * d) ≡ length ns
  whole = omega (arith, div-add-mod' (length ns) (2 * d))

  one_more : length ns / (2 * d) ≡ suc others
  one_more = go (length ns / (2 * d)) whole
    where
      go : (k : ℕ) → k * (2 * d) ≡ length ns → k ≡ suc (k - 1)
      go zero e = absurd (omega (arith, zero-mul (2 * d)))
      go (suc k) e = omega arith

  long : length ns ≡ others * (2 * d) + 2 * d
  long = sym whole ∙ ap (λ (k : ℕ). k * (2 * d)) one_more ∙ suc-mul others (2 * d)

  others_long : length (drop (2 * d) ns) ≡ others * (2 * d)
  others_long = omega (arith, long, length-drop (2 * d) ns)

  others-whole : length (drop (2 * d) ns) % (2 * d) ≡ 0
  others-whole = ap (λ (k : ℕ). k % (2 * d)) others_long ∙ mul-mod_left others (2 * d)

  first_of : subsets_of d ns ≡ subset_of d (take (2 * d) ns) ∷ subsets_of d (drop (2 * d) ns)
  first_of =
      ap (λ (k : ℕ). map (subset_of d) (pieces (2 * d) k ns)) one_more
      ∙ ap (λ (k : ℕ). subset_of d (take (2 * d) ns) ∷ map (subset_of d) (pieces (2 * d) k (drop (2 * d) ns)))
      (sym (ap (λ (k : ℕ). k / (2 * d)) others_long ∙ mul-div_cancel others (omega arith)))

-- of the numbers from `at` on the first are the parts [at, at + d) and [at + d, at + d + d) that a call is lent
module _ (d at : ℕ) (flat : List ℕ) where
  abbrev pub starts_at : List ℕ
  starts_at = take (at + d - at) (drop at flat)

  abbrev pub lengths_at : List ℕ
  lengths_at = take (at + d + d - (at + d)) (drop (at + d) flat)

  first_parts : subset_of d (take (2 * d) (drop at flat)) ≡ pairs starts_at lengths_at
  first_parts =
      let e₁ : at + d - at ≡ d = omega arith in
      let e₂ : at + d + d - (at + d) ≡ d = omega arith in
      let e₃ : 2 * d ≡ d + d = omega arith in
      ap (λ (k : ℕ). subset_of d (take k (drop at flat))) e₃
      ∙ ap₂ pairs (take-take d (d + d) (drop at flat) (omega arith) ∙ ap (λ (j : ℕ). take j (drop at flat)) (sym e₁))
      (drop-take d d (drop at flat) ∙ ap₂ (λ (j : ℕ) (r : List ℕ). take j r) (sym e₂) (drop-drop d at flat))

  behind : drop (2 * d) (drop at flat) ≡ drop (at + d + d) flat
  behind = let e : at + 2 * d ≡ at + d + d = omega arith in drop-drop (2 * d) at flat ∙ ap (λ (k : ℕ). drop k flat) e

  module _ (h : at + d + d ≤ length flat) where
    pub length_starts : length starts_at ≡ d
    length_starts = length-take-le (at + d - at) (drop at flat) (omega (arith, length-drop at flat)) ∙ omega arith

    pub length-lengths_at : length lengths_at ≡ d
    length-lengths_at = length-take-le (at + d + d - (at + d)) (drop (at + d) flat) (omega (arith, length-drop (at + d) flat)) ∙ omega arith

  module _ (h : 1 ≤ d) (w : length (drop at flat) % (2 * d) ≡ 0) (s : at < length flat) where
    some : 1 ≤ length (drop at flat)
    some = omega (arith, length-drop at flat)

    pub next_room : at + d + d ≤ length flat
    next_room = omega (arith, long d h (drop at flat) w some, length-drop at flat)

    pub next_whole : length (drop (at + d + d) flat) % (2 * d) ≡ 0
    next_whole = ap (λ (r : List ℕ). length r % (2 * d)) (sym behind) ∙ others-whole d h (drop at flat) w some

    pub next_subset : subsets_of d (drop at flat) ≡ pairs starts_at lengths_at ∷ subsets_of d (drop (at + d + d) flat)
    next_subset =
        first_of d h (drop at flat) w some
        ∙ ap₂ (λ (b : Subset) (r : List ℕ). b ∷ subsets_of d r) first_parts behind

-- so it lies within the shape, as the walks over its rows ask
pub within_at : (sh flat : List ℕ) (at : ℕ) → at + length sh + length sh ≤ length flat
    → SubsetOk sh (pairs (starts_at (length sh) at flat) (lengths_at (length sh) at flat))
    → Within sh (starts_at (length sh) at flat) (lengths_at (length sh) at flat)
within_at sh flat at h p = record {
  as_many_starts = length_starts (length sh) at flat h;
  as_many_lengths = length-lengths_at (length sh) at flat h;
  inside = p;
}

-- ---- the numbers of one subset

pub within_numbers : (sh ns : List ℕ) → NumbersOk sh ns → Within sh (take (length sh) ns) (drop (length sh) ns)
within_numbers sh ns p = record {
  as_many_starts = length-take-le (length sh) ns (omega (arith, p.counted));
  as_many_lengths = omega (arith, p.counted, length-drop (length sh) ns);
  inside = p.fits;
}

-- as the parts [0, d) and [d, ..) that a call is lent
pub starts_part : (d : ℕ) (ns : List ℕ) → take (d - 0) (drop 0 ns) ≡ take d ns
starts_part d ns = ap (λ (k : ℕ). take k ns) (sub-zero d)

pub lengths-part : (d : ℕ) (ns : List ℕ) → take (length ns - d) (drop d ns) ≡ drop d ns
lengths-part d ns = take_all (length ns - d) (drop d ns) (omega (arith, length-drop d ns))

pub subset_parts : (d : ℕ) (ns : List ℕ) → pairs (take (d - 0) (drop 0 ns)) (take (length ns - d) (drop d ns)) ≡ subset_of d ns
subset_parts d ns = ap₂ pairs (starts_part d ns) (lengths-part d ns)

pub within-parts : (sh ns : List ℕ) → NumbersOk sh ns → Within sh (take (length sh - 0) (drop 0 ns)) (take (length ns - length sh) (drop (length sh) ns))
within-parts sh ns p = rw (starts_part, lengths-part) (within_numbers sh ns p)
