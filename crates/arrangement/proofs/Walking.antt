-- The digits of a number, taken from the lowest on: the states of the last i cells are known, and what is left of the number.
use Rattle.std.proofs.Common.{◌≡◌, ℕ, suc, ◌+◌, ◌-◌, ◌*◌, ◌/◌, ◌%◌, ◌^◌, ◌<◌, ◌≤◌, true, false, List, map, length, get_or, set, refl, sym, ap, ap₂, ◌∙◌, arith, add-one}
use Rattle.std.proofs.Common.{ltb, ◌⊎◌, inl, inr}
use native.Mathlib.Nat.{pow-suc, pow-zero, div-one, div-div-eq-div-mul, mod-lt, eq-or-lt_of_le, one-le-pow, div-lt_iff_lt-mul, le-div_iff_mul-le}
use Rattle.std.proofs.lemmas.Bool.{lt-ltb, le-ltb}
use Rattle.std.proofs.lemmas.List.{get_or-set_same, get_or-set_other, length-set}
use Rattle.array.specs.Lists.{from}
use Rattle.array.specs.Places.{sum}
use Rattle.arrange.specs.Arrangement.{states, arrangement_count}
use Rattle.arrange.specs.Places.{state_at}
use Rattle.arrangement.specs.Digits.{size_at, Digits}

pub record Walk (d n k : ℕ) (each : List ℕ) (left bytes i : ℕ) : Type 0 where
  pub within : i ≤ n
  pub long : length each ≡ 4
  pub rest : left ≡ k / states d ^ i
  pub behind : (j : ℕ) → n ≤ j + i → j < n → get_or each j 0 ≡ state_at d n k j
  pub few : bytes ≤ 3 * i
  pub summed : bytes ≡ sum (map (size_at d n k) (from (n - i) i))

pub walk_begins : (d n k : ℕ) (each : List ℕ) → length each ≡ 4 → Walk d n k each k 0 0
walk_begins d n k each l = record {
  within = omega arith;
  long = l;
  rest = sym (ap (λ (m : ℕ). k / m) (pow-zero (states d)) ∙ div-one k);
  behind = λ j h m. absurd (omega arith);
  few = omega arith;
  summed = refl;
}

module _ {d n k : ℕ} {each : List ℕ} {left bytes i : ℕ} (w : Walk d n k each left bytes i) where
  pub left_of : n ≤ i → left ≡ k / arrangement_count d n
  left_of h = let all : i ≡ n = omega (arith, w.within) in w.rest ∙ ap (λ (e : ℕ). k / states d ^ e) all

  pub walk_ends : n ≤ i → Digits d n k each bytes
  walk_ends h =
      let all : i ≡ n = omega (arith, w.within) in
      let none : n - i ≡ 0 = omega arith in
      record {
        states = λ j l. w.behind j (omega arith) l;
        summed = w.summed ∙ ap₂ (λ (a m : ℕ). sum (map (size_at d n k) (from a m))) none all;
      }

  module _ (h : i < n) where
    abbrev at : ℕ
    at = n - 1 - i

    state_here : left % states d ≡ state_at d n k at
    state_here =
        let high : n - suc at ≡ i = omega arith in
        ap (λ (r : ℕ). r % states d) w.rest ∙ ap (λ (e : ℕ). k / states d ^ e % states d) (sym high)

    -- the next digit, stored where it belongs
    walk_on : n ≤ 4 → Walk d n k (set each at (left % states d)) (left / states d) (bytes + (left % states d - d)) (i + 1)
    walk_on s = record {
      within = omega arith;
      long = length-set each at (left % states d) ∙ w.long;
      rest = ap (λ (r : ℕ). r / states d) w.rest ∙ div-div-eq-div-mul k (states d ^ i) (states d)
          ∙ ap (λ (p : ℕ). k / p) (sym (pow-suc (states d) i) ∙ ap (λ (e : ℕ). states d ^ e) (sym (add-one i)));
      behind = λ j a b. put_here j a b (eq-or-lt_of_le {n = at} {m = j} (omega arith));
      few = omega (arith, w.few, digit_small);
      summed = one_more;
    }
      where
        digit_small : left % states d < states d
        digit_small = mod-lt left (omega arith)

        put_here : (j : ℕ) → n ≤ j + (i + 1) → j < n → (at ≡ j) ⊎ (at < j) → get_or (set each at (left % states d)) j 0 ≡ state_at d n k j
        put_here j a b (inl e) =
            ap (λ (m : ℕ). get_or (set each at (left % states d)) m 0) (sym e) ∙ get_or-set_same each at (left % states d) 0 (omega (arith, w.long))
            ∙ state_here ∙ ap (state_at d n k) e
        put_here j a b (inr l) = get_or-set_other each at j (left % states d) 0 (λ e. omega arith) ∙ w.behind j (omega arith) b

        one_more : bytes + (left % states d - d) ≡ sum (map (size_at d n k) (from (n - (i + 1)) (i + 1)))
        one_more =
            let start : n - (i + 1) ≡ at = omega arith in
            let next : suc at ≡ n - i = omega arith in
            omega (
              arith,
              w.summed,
              ap (λ (r : ℕ). r - d) state_here,
              ap₂ (λ (a m : ℕ). sum (map (size_at d n k) (from a m))) start (add-one i),
              ap (λ (a : ℕ). sum (map (size_at d n k) (from a i))) next,
            )

    pub walk_more : n ≤ 4 → {place state rest size : ℕ} → place ≡ n - 1 - i → state ≡ left % states d → rest ≡ left / states d → size ≡ left % states d - d
        → Walk d n k (set each place state) rest (bytes + size) (i + 1)
    walk_more s ep es er ez = rw (ep, es, er, ez) (walk_on s)

-- ---- what is left of the number behind its digits

some_states : (d : ℕ) → 0 < states d
some_states d = omega arith

some_arrangements : (d n : ℕ) → 0 < arrangement_count d n
some_arrangements d n = one-le-pow n (states d) (some_states d)

module _ (d n k : ℕ) {left : ℕ} (e : left ≡ k / arrangement_count d n) where
  pub nothing_left : left ≡ 0 → ltb k (arrangement_count d n) ≡ true
  nothing_left z = lt-ltb k (arrangement_count d n) (omega (arith, (div-lt_iff_lt-mul {x = k} {y = 1} (some_arrangements d n)).0 (omega (arith, e))))

  pub something_left : 0 < left → ltb k (arrangement_count d n) ≡ false
  something_left h = le-ltb k (arrangement_count d n) (omega (arith, (le-div_iff_mul-le {x = 1} {y = k} (some_arrangements d n)).0 (omega (arith, e))))
