-- Lengths become offsets in place: what holds at the head of the loop, and a turn of it.
-- Assumes nothing.
use mathlib.Core.Path.{◌≡◌, sym, ap, ap₂, ◌∙◌, subst}
use Prim.Native.Nat.{ℕ, suc, ◌+◌, ◌-◌, ◌<◌, ◌≤◌}
use native.Mathlib.Nat.{add_comm}
use native.Mathlib.Numerals.{add-one}
use native.Mathlib.Omega.{arith}
use mathlib.Core.List.{List, ◌∷◌, ◌++◌}
use lib.ListN.{length, get_or, take, drop, set, length-set}
use lib.Seq.{take-suc, drop-cons, take-set-le, drop-set-lt, get_or-set_same, get_or-drop, drop-drop, split_at, append_snoc, set-set}
use Rattle.array.specs.Places.{sum, sums}

pub record Summed (d o : List ℕ) (n i : ℕ) : Type 0 where
  pub within : i ≤ n
  pub long : length o ≡ length d
  pub left : drop (suc i) o ≡ drop (suc i) d
  pub whole : take i o ++ (get_or o i 0 ∷ sums (get_or o i 0) (take (n - i) (drop (suc i) d))) ≡ 0 ∷ sums 0 (take n (drop 1 d))
  pub small : get_or o i 0 + sum (take (n - i) (drop (suc i) d)) ≤ sum (take n (drop 1 d))

module _ (d : List ℕ) (n : ℕ) (h : n < length d) where
  pub summed_begins : Summed d (set d 0 0) n 0
  summed_begins =
      let z : n - 0 ≡ n = omega arith in
      let g : get_or (set d 0 0) 0 0 ≡ 0 = get_or-set_same d 0 0 0 (omega arith) in
      record {
        within = omega arith;
        long = length-set d 0 0;
        left = drop-set-lt 1 d 0 0 (omega arith);
        whole = ap₂ (λ (a : ℕ) (k : ℕ). a ∷ sums a (take k (drop 1 d))) g z;
        small = omega (arith, g, ap (λ (k : ℕ). sum (take k (drop 1 d))) z);
      }

  module _ {o : List ℕ} {i : ℕ} (c : Summed d o n i) where
    pub summed_ends : n ≤ i → o ≡ (0 ∷ sums 0 (take n (drop 1 d))) ++ drop (n + 1) d
    summed_ends l =
        let e : i ≡ n = omega (arith, c.within) in
        let z : n - i ≡ 0 = omega arith in
        let q : suc i ≡ n + 1 = omega arith in
        split_at o i 0 (omega (arith, c.long)) ∙ ap (λ (r : List ℕ). take i o ++ get_or o i 0 ∷ r) (c.left ∙ ap (λ (k : ℕ). drop k d) q)
        ∙ sym (append_snoc (take i o) (get_or o i 0) (drop (n + 1) d))
        ∙ ap (λ (r : List ℕ). r ++ drop (n + 1) d) (sym (ap (λ (k : ℕ). take i o ++ (get_or o i 0 ∷ sums (get_or o i 0) (take k (drop (suc i) d)))) z) ∙ c.whole)

    module _ (l : i < n) where
      x_is : get_or o (suc i) 0 ≡ get_or d (suc i) 0
      x_is =
          let q : suc i + 0 ≡ suc i = omega arith in
          ap (λ (k : ℕ). get_or o k 0) (sym q) ∙ sym (get_or-drop (suc i) o 0 0) ∙ ap (λ (r : List ℕ). get_or r 0 0) c.left ∙ get_or-drop (suc i) d 0 0 ∙ ap (λ (k : ℕ). get_or d k 0) q

      next : take (n - i) (drop (suc i) d) ≡ get_or o (suc i) 0 ∷ take (n - suc i) (drop (suc (suc i)) d)
      next =
          let z : n - i ≡ suc (n - suc i) = omega arith in
          ap₂ (λ (k : ℕ) (r : List ℕ). take k r) z (drop-cons d (suc i) 0 (omega arith)) ∙ ap (λ (x : ℕ). x ∷ take (n - suc i) (drop (suc (suc i)) d)) (sym x_is)

      pub sum_small : get_or o i 0 + get_or o (i + 1) 0 ≤ sum (take n (drop 1 d))
      sum_small = omega (arith, c.small, ap sum next, ap (λ (k : ℕ). get_or o k 0) (add-one i))

      more : Summed d (set o (suc i) (get_or o i 0 + get_or o (suc i) 0)) n (suc i)
      more =
          let a : ℕ = get_or o i 0 in
          let x : ℕ = get_or o (suc i) 0 in
          let r : List ℕ = take (n - suc i) (drop (suc (suc i)) d) in
          let g : get_or (set o (suc i) (a + x)) (suc i) 0 ≡ a + x = get_or-set_same o (suc i) (a + x) 0 (omega (arith, c.long)) in
          let q : suc i + 1 ≡ suc (suc i) = omega arith in
          record {
            within = omega arith;
            long = length-set o (suc i) (a + x) ∙ c.long;
            left = drop-set-lt (suc (suc i)) o (suc i) (a + x) (omega arith) ∙ ap (λ (k : ℕ). drop k o) (sym q) ∙ sym (drop-drop 1 (suc i) o) ∙ ap (drop 1) c.left
                ∙ drop-drop 1 (suc i) d ∙ ap (λ (k : ℕ). drop k d) q;
            whole =
                ap₂ (λ (p : List ℕ) (y : ℕ). p ++ (y ∷ sums y r)) (take-set-le (suc i) o (suc i) (a + x) (omega arith) ∙ take-suc o i 0 (omega (arith, c.long))) g
                ∙ append_snoc (take i o) a ((a + x) ∷ sums (a + x) r)
                ∙ ap (λ (s : List ℕ). take i o ++ (a ∷ sums a s)) (sym next) ∙ c.whole;
            small = omega (arith, g, c.small, ap sum next);
          }

      pub summed_more : Summed d (set o (i + 1) (get_or o (i + 1) 0 + get_or o i 0)) n (i + 1)
      summed_more =
          subst (λ (x : ℕ). Summed d (set o (i + 1) x) n (i + 1)) (add_comm (get_or o i 0) (get_or o (i + 1) 0))
          (subst (λ (k : ℕ). Summed d (set o k (get_or o i 0 + get_or o k 0)) n k) (sym (add-one i)) more)

-- the loop begins after the first store
pub summed_start : (d : List ℕ) (n : ℕ) → n < length d → Summed (set d 0 0) (set d 0 0) n 0
summed_start d n h = subst (λ (o : List ℕ). Summed (set d 0 0) o n 0) (set-set d 0 0 0) (summed_begins (set d 0 0) n (omega (arith, length-set d 0 0)))

pub same_sum : (d : List ℕ) (n : ℕ) → sum (take n (drop 1 (set d 0 0))) ≡ sum (take n (drop 1 d))
same_sum d n = ap (λ (r : List ℕ). sum (take n r)) (drop-set-lt 1 d 0 0 (omega arith))

pub summed_over : (d : List ℕ) {n : ℕ} (h : n < length d) {o : List ℕ} {i : ℕ} → Summed (set d 0 0) o n i → n ≤ i → o ≡ (0 ∷ sums 0 (take n (drop 1 d))) ++ drop (n + 1) d
summed_over d {n} h {o} {i} c l =
    summed_ends (set d 0 0) n (omega (arith, length-set d 0 0)) c l
    ∙ ap₂ (λ (x y : List ℕ). (0 ∷ sums 0 (take n x)) ++ y) (drop-set-lt 1 d 0 0 (omega arith)) (drop-set-lt (n + 1) d 0 0 (omega arith))

pub ruleset sum_laws = (same_sum, sum_small, summed_over)
