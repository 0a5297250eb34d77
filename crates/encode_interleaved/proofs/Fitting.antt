-- Whether each cell's length fits its field, by the offsets.
-- Assumes nothing.
use mathlib.Core.Path.{◌≡◌, refl, sym, ap, ap₂, ◌∙◌, subst}
use Prim.Native.Nat.{ℕ, suc, ◌+◌, ◌-◌, ◌^◌, ◌<◌, ◌≤◌}
use native.Mathlib.Numerals.{add-one}
use native.Mathlib.Omega.{arith}
use mathlib.Core.Bool.{Bool, true, false, ◌&&◌}
use mathlib.Core.List.{List, [], ◌∷◌}
use lib.ListN.{length, take, drop, get_or, length-drop, drop_of_length-le}
use lib.Dec.{ltb}
use lib.Seq.{drop-cons, length-take-le}
use borrow.Author.Tests.{lt-ltb, le-ltb}
use Rattle.array.specs.Offsets.{last, last_from, Rising, RisingFrom, slices_from, slices}
use Rattle.array.proofs.Offsets.{rising_le, joined-slices_all}
use Rattle.codec.specs.Carried.{fields_test}
use Rattle.codec.proofs.Carried.{below_fits, fields_test_lem}
use Rattle.encode_interleaved.specs.Held.{Held, steps_fit}
use Rattle.encode_interleaved.proofs.Storing.{from_zero, cells_are, behind_are}

-- ---- the loop over the ends: what is left of them decides

pub record Fitting (xs : List ℕ) (start i : ℕ) : Type 0 where
  pub rising : RisingFrom start (drop i xs)
  pub same : steps_fit start (drop i xs) ≡ steps_fit 0 xs

pub fitting_begins : (xs : List ℕ) → RisingFrom 0 xs → Fitting xs 0 0
fitting_begins xs r = record { rising = r; same = refl }

module _ {xs : List ℕ} {start i : ℕ} (f : Fitting xs start i) where
  pub fitting_ends : length xs ≤ i → true ≡ steps_fit 0 xs
  fitting_ends h = ap (steps_fit start) (sym (drop_of_length-le xs {i = i} h)) ∙ f.same

  module _ (h : i < length xs) where
    abbrev end : ℕ
    end = get_or xs i 0

    next : drop i xs ≡ end ∷ drop (suc i) xs
    next = drop-cons xs i 0 h

    rises : RisingFrom start (end ∷ drop (suc i) xs)
    rises = subst (RisingFrom start) next f.rising

    pub fitting_rises : start ≤ end
    fitting_rises = rises.0

    pub fitting_not : 4294967295 < end - start → false ≡ steps_fit 0 xs
    fitting_not l =
        ap (λ (b : Bool). b && steps_fit end (drop (suc i) xs)) (sym (le-ltb (end - start) (256 ^ 4) (omega arith)))
        ∙ ap (steps_fit start) (sym next) ∙ f.same

    pub fitting_next : end - start ≤ 4294967295 → Fitting xs end (i + 1)
    fitting_next l = subst (Fitting xs end) (sym (add-one i)) (record {
      rising = rises.1;
      same = ap (λ (b : Bool). b && steps_fit end (drop (suc i) xs)) (sym (lt-ltb (end - start) (256 ^ 4) (omega arith)))
          ∙ ap (steps_fit start) (sym next) ∙ f.same;
    })

-- ---- of the cells

steps_are : (a : ℕ) (os s : List ℕ) → RisingFrom a os → last_from a os ≡ length s → steps_fit a os ≡ fields_test (slices_from a os s)
steps_are a [] s r e = refl
steps_are a (b ∷ bs) s r e =
    let long : length (take (b - a) (drop a s)) ≡ b - a =
    length-take-le (b - a) (drop a s) (omega (arith, length-drop a s, r.0, rising_le b bs r.1, e)) in
    ap₂ (λ (x : ℕ) (t : Bool). ltb x (256 ^ 4) && t) (sym long) (steps_are b bs s r.1 e)

module _ {n : ℕ} {s os : List ℕ} (h : Held n s os) where
  pub ends_rise : RisingFrom 0 (take (length os - 1) (drop 1 os))
  ends_rise = subst (RisingFrom 0) (sym (behind_are os h.counted)) (subst Rising (from_zero h) h.rising).1

  pub fields_by_steps : steps_fit 0 (take (length os - 1) (drop 1 os)) ≡ fields_test (slices os s)
  fields_by_steps =
      ap (steps_fit 0) (behind_are os h.counted)
      ∙ steps_are 0 (drop 1 os) s (subst Rising (from_zero h) h.rising).1 (ap last (sym (from_zero h)) ∙ h.ended)
      ∙ ap fields_test (sym (cells_are h))

  pub fields_few : length s ≤ 4294967295 → true ≡ fields_test (slices os s)
  fields_few l =
      sym (fields_test_lem (slices os s) (below_fits (256 ^ 4) (slices os s) (omega (arith, ap length (joined-slices_all n os s h.counted h.rising h.ended)))))
