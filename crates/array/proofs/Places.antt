-- The bytes of neighbouring cells are one run of bytes, whatever lies where: masks, fixed and ragged values alike.
-- Assumes nothing.
use mathlib.Core.Path.{◌≡◌, refl, sym, ap, ap₂, ◌∙◌}
use Prim.Native.Nat.{ℕ, zero, suc, ◌+◌, ◌-◌, ◌*◌, ◌≤◌, ◌<◌}
use native.Mathlib.Nat.{zero-mul, suc-mul, add-zero, sub_self, le_refl, le_of_eq}
use native.Mathlib.Omega.{arith}
use mathlib.Core.List.{List, [], ◌∷◌, ◌++◌, map}
use lib.ListN.{length, take, drop, get_or, length-append, length-drop, length-map}
use lib.Seq.{take-add, drop-drop, length-take-le}
use Rattle.array.specs.Lists.{from, joined, All}
use Rattle.array.specs.Kind.{Form, fixed, ragged}
use Rattle.array.specs.Cells.{Value}
use Rattle.array.specs.Content.{Content, ValuesOk}
use Rattle.array.specs.Offsets.{Rising, RisingFrom, ends}
use Rattle.array.specs.Places.{fixed_at, offset_at, begins_at, Rises, step_at, value_at, sum, sums, values_at, steps_at, bytes_at, ends_at}
use Rattle.array.proofs.Lists.{map-append}
use Rattle.array.proofs.Offsets.{last_at}

-- ---- lists of values, one part after another

pub sum-append : (xs ys : List ℕ) → sum (xs ++ ys) ≡ sum xs + sum ys
sum-append [] ys = omega arith
sum-append (x ∷ xs) ys = omega (arith, sum-append xs ys)

pub length-sums : (a : ℕ) (xs : List ℕ) → length (sums a xs) ≡ length xs
length-sums a [] = refl
length-sums a (x ∷ xs) = ap suc (length-sums (a + x) xs)

pub bytes_append : (off : ℕ → ℕ) (xs ys : List ℕ) → bytes_at off (xs ++ ys) ≡ bytes_at off xs + bytes_at off ys
bytes_append off xs ys = ap sum (map-append (step_at off) xs ys) ∙ sum-append (steps_at off xs) (steps_at off ys)

pub ends-append : (a : ℕ) (xs ys : List Value) → ends a (xs ++ ys) ≡ ends a xs ++ ends (a + length (joined xs)) ys
ends-append a [] ys = ap (λ (k : ℕ). ends k ys) (sym (add-zero a))
ends-append a (x ∷ xs) ys =
    let e : a + length x + length (joined xs) ≡ a + length (x ++ joined xs) = omega (arith, length-append x (joined xs)) in
    ap (λ (r : List ℕ). (a + length x) ∷ r) (ends-append (a + length x) xs ys ∙ ap (λ (k : ℕ). ends (a + length x) xs ++ ends k ys) e)

-- ---- places at equal steps

pub fixed_step : (base k j : ℕ) → step_at (fixed_at base k) j ≡ k
fixed_step base k j = omega (arith, suc-mul j k)

pub fixed_value : (base k : ℕ) (s : List ℕ) (j : ℕ) {at : ℕ} → base + j * k ≡ at → value_at (fixed_at base k) s j ≡ take k (drop at s)
fixed_value base k s j e = ap₂ (λ (x y : ℕ). take x (drop y s)) (fixed_step base k j) e

pub fixed_rises : (base k v : ℕ) → Rises (fixed_at base k) v
fixed_rises base k v j h = omega (arith, suc-mul j k)

pub fixed_total : (base k : ℕ) (js : List ℕ) → bytes_at (fixed_at base k) js ≡ length js * k
fixed_total base k [] = sym (zero-mul k)
fixed_total base k (j ∷ js) = omega (arith, fixed_step base k j, fixed_total base k js, suc-mul (length js) k)

-- ---- a run of cells

module _ {off : ℕ → ℕ} {v : ℕ} (r : Rises off v) where
  pub run_rises : (a n : ℕ) → a + n ≤ v → off a ≤ off (a + n)
  run_rises a zero h = let e : off a ≡ off (a + zero) = ap off (sym (add-zero a)) in omega arith
  run_rises a (suc n) h =
      let e : off (suc a + n) ≡ off (a + suc n) = let q : suc a + n ≡ a + suc n = omega arith in ap off q in
      omega (arith, r a (omega arith), run_rises (suc a) n (omega arith), e)

  pub below : (j : ℕ) → j ≤ v → off j ≤ off v
  below j h = let q : j + (v - j) ≡ v = omega arith in omega (arith, run_rises j (v - j) (omega arith), ap off q)

  pub run_below : (a n : ℕ) → a + n ≤ v → off (a + n) ≤ off v
  run_below a n h = below (a + n) h

  -- its bytes are those from where it begins up to where it ends
  pub run_bytes : (s : List ℕ) (a n : ℕ) → a + n ≤ v → joined (values_at off s (from a n)) ≡ take (off (a + n) - off a) (drop (off a) s)
  run_bytes s a zero h = let e : 0 ≡ off (a + zero) - off a = sym (sub_self (off a)) ∙ ap (λ (k : ℕ). off k - off a) (sym (add-zero a)) in ap (λ (k : ℕ). take k (drop (off a) s)) e
  run_bytes s a (suc n) h =
      let x : ℕ = step_at off a in
      let y : ℕ = off (suc a + n) - off (suc a) in
      let q : suc a + n ≡ a + suc n = omega arith in
      let m : off a ≤ off (suc a) = r a (omega arith) in
      let l : off (suc a) ≤ off (suc a + n) = run_rises (suc a) n (omega arith) in
      let e : x + y ≡ off (a + suc n) - off a = omega (arith, ap off q) in
      let b : off a + x ≡ off (suc a) = omega arith in
      ap (λ (t : List ℕ). value_at off s a ++ t)
      (run_bytes s (suc a) n (omega arith) ∙ ap (take y) (ap (λ (k : ℕ). drop k s) (sym b) ∙ sym (drop-drop x (off a) s)))
      ∙ sym (take-add x y (drop (off a) s)) ∙ ap (λ (k : ℕ). take k (drop (off a) s)) e

  -- so many
  pub run_long : (s : List ℕ) (a n : ℕ) → a + n ≤ v → off (a + n) ≤ length s → length (take (off (a + n) - off a) (drop (off a) s)) ≡ off (a + n) - off a
  run_long s a n h l = length-take-le (off (a + n) - off a) (drop (off a) s) (omega (arith, length-drop (off a) s))

  pub run_total : (a n : ℕ) → a + n ≤ v → bytes_at off (from a n) ≡ off (a + n) - off a
  run_total a zero h = sym (sub_self (off a)) ∙ ap (λ (k : ℕ). off k - off a) (sym (add-zero a))
  run_total a (suc n) h =
      let q : suc a + n ≡ a + suc n = omega arith in
      omega (arith, run_total (suc a) n (omega arith), r a (omega arith), run_rises (suc a) n (omega arith), ap off q)

  -- where its cells end, from t on
  run_ends-from : (s : List ℕ) (t a b n : ℕ) → a ≤ b → b + n ≤ v → off (b + n) ≤ length s → off a ≤ off b
      → ends (t + (off b - off a)) (values_at off s (from b n)) ≡ map (λ j. t + (off (suc j) - off a)) (from b n)
  run_ends-from s t a b zero g h l m = refl
  run_ends-from s t a b (suc n) g h l m =
      let q : off (suc b + n) ≡ off (b + suc n) = let e : suc b + n ≡ b + suc n = omega arith in ap off e in
      let up : off b ≤ off (suc b) = r b (omega arith) in
      let top : off (suc b) ≤ off (suc b + n) = run_rises (suc b) n (omega arith) in
      let len : length (value_at off s b) ≡ off (suc b) - off b = length-take-le (off (suc b) - off b) (drop (off b) s) (omega (arith, length-drop (off b) s)) in
      let e : t + (off b - off a) + length (value_at off s b) ≡ t + (off (suc b) - off a) = omega arith in
      ap₂ (λ (x : ℕ) (w : List ℕ). x ∷ w) e
      (ap (λ (k : ℕ). ends k (values_at off s (from (suc b) n))) e ∙ run_ends-from s t a (suc b) n (omega arith) (omega arith) (omega arith) (omega arith))

  pub run_ends : (s : List ℕ) (t a n : ℕ) → a + n ≤ v → off (a + n) ≤ length s → ends t (values_at off s (from a n)) ≡ map (λ j. t + (off (suc j) - off a)) (from a n)
  run_ends s t a n h l =
      let e : t ≡ t + (off a - off a) = omega arith in
      ap (λ (k : ℕ). ends k (values_at off s (from a n))) e ∙ run_ends-from s t a a n (le_refl a) h l (le_refl (off a))

  -- ---- any cells: as many bytes as their steps say

  pub value_long : (s : List ℕ) → off v ≤ length s → (j : ℕ) → j < v → length (value_at off s j) ≡ step_at off j
  value_long s l j h =
      length-take-le (step_at off j) (drop (off j) s) (omega (arith, length-drop (off j) s, r j h, below (suc j) h))

  pub bytes_long : (s : List ℕ) → off v ≤ length s → (js : List ℕ) → All (λ j. j < v) js → length (joined (values_at off s js)) ≡ bytes_at off js
  bytes_long s l [] p = refl
  bytes_long s l (j ∷ js) p = omega (arith, length-append (value_at off s j) (joined (values_at off s js)), value_long s l j p.0, bytes_long s l js p.1)

  pub ends_are : (s : List ℕ) → off v ≤ length s → (a : ℕ) (js : List ℕ) → All (λ j. j < v) js → ends a (values_at off s js) ≡ ends_at off a js
  ends_are s l a [] p = refl
  ends_are s l a (j ∷ js) p =
      let e : a + length (value_at off s j) ≡ a + step_at off j = omega (arith, value_long s l j p.0) in
      ap₂ (λ (x : ℕ) (r : List ℕ). x ∷ r) e (ap (λ (b : ℕ). ends b (values_at off s js)) e ∙ ends_are s l (a + step_at off j) js p.1)

pub length-ends_at : (off : ℕ → ℕ) (a : ℕ) (js : List ℕ) → length (ends_at off a js) ≡ length js
length-ends_at off a js = length-sums a (steps_at off js) ∙ length-map js (step_at off)

-- ---- the values of an array lie in their order, within the bytes
pub offsets_rise : (os : List ℕ) → Rising os → {n : ℕ} → length os ≡ suc n → Rises (offset_at os) n
offsets_rise [] r e j h = absurd (omega arith)
offsets_rise (a ∷ os) r e j h = go a os r.1 j (omega arith)
  where
    go : (a : ℕ) (os : List ℕ) → RisingFrom a os → (j : ℕ) → j < length os → get_or (a ∷ os) j 0 ≤ get_or os j 0
    go a [] r j h = absurd (omega arith)
    go a (b ∷ os) r zero h = r.0
    go a (b ∷ os) r (suc j) h = go b os r.1 j (omega arith)

pub first_zero : (os : List ℕ) → Rising os → offset_at os 0 ≡ 0
first_zero [] p = refl
first_zero (a ∷ bs) p = p.0

pub begins_rise : (f : Form) (n : ℕ) (c : Content) → ValuesOk f n c → Rises (begins_at f c.offsets) n
begins_rise (fixed k o) n c p = fixed_rises 0 k n
begins_rise (ragged w q) n c p = offsets_rise c.offsets p.1 p.0

pub begins_end : (f : Form) (n : ℕ) (c : Content) → ValuesOk f n c → begins_at f c.offsets n ≤ length c.values
begins_end (fixed k o) n c p = omega (arith, p.0)
begins_end (ragged w q) n c p = le_of_eq (sym (last_at c.offsets n p.0) ∙ p.2)
