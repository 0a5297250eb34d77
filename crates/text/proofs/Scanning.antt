-- Text read digit by digit: what is left of it gives what the whole gives.
-- Assumes nothing.
use mathlib.Core.Path.{◌≡◌, refl, sym, ap, ◌∙◌}
use mathlib.Core.List.{List, [], ◌∷◌}
use Prim.Native.Nat.{ℕ, suc, ◌+◌, ◌≤◌, ◌<◌}
use native.Mathlib.Omega.{arith}
use native.Mathlib.Numerals.{add-one}
use lib.ListN.{length, drop, get_or, drop_of_length-le}
use lib.Seq.{drop-cons}
use lib.Dec.{eqb}
use borrow.Author.Tests.{ne_eqb}
use Rattle.std.specs.Prelude.{true, false, ◌==◌, Option, None, Some}
use Rattle.text.specs.Scan.{next_number, go_on, number_from, number_of}

pub number_none : (s : List ℕ) → true ≡ (length s == 0) → None ≡ number_of s
unfolding number_of
number_none [] h = refl
number_none (b ∷ bs) h =
    let e : eqb (suc (length bs)) 0 ≡ false = ne_eqb (suc (length bs)) 0 (λ z. absurd (omega (arith, z))) in cc (h, e)

pub number_some : (s : List ℕ) → false ≡ (length s == 0) → number_of s ≡ number_from 0 s
unfolding number_of
number_some [] h = cc h
number_some (b ∷ bs) h = refl

module _ (s : List ℕ) (v i : ℕ) where
  pub number-ends : length s ≤ i → number_from v (drop i s) ≡ Some v
  unfolding number_from
  number-ends h = ap (number_from v) (drop_of_length-le s h)

  module _ (h : i < length s) where
    number_next : number_from v (drop i s) ≡ go_on (next_number v (get_or s i 0)) (λ (w : ℕ). number_from w (drop (i + 1) s))
    unfolding number_from
    number_next = ap (number_from v) (drop-cons s i 0 h ∙ ap (λ (j : ℕ). get_or s i 0 ∷ drop j s) (sym (add-one i)))

    pub number_more : (w : ℕ) → next_number v (get_or s i 0) ≡ Some w → number_from v (drop i s) ≡ number_from w (drop (i + 1) s)
    number_more w e = number_next ∙ ap (λ (n : Option ℕ). go_on n (λ (w : ℕ). number_from w (drop (i + 1) s))) e

    pub number_stops : next_number v (get_or s i 0) ≡ None → number_from v (drop i s) ≡ None
    number_stops e = number_next ∙ ap (λ (n : Option ℕ). go_on n (λ (w : ℕ). number_from w (drop (i + 1) s))) e
