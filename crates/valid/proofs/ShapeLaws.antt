-- The cells of a shape, side by side from the last: what holds at the head of the loop that counts them, and a turn of it.
-- Assumes nothing.
use mathlib.Core.Path.{◌≡◌, refl, sym, ap, ◌∙◌, subst}
use mathlib.Core.List.{List, [], ◌∷◌}
use mathlib.Core.Bool.{Bool, true, false}
use Prim.Native.Nat.{ℕ, zero, suc, ◌-◌, ◌*◌, ◌≤◌, ◌<◌}
use native.Mathlib.Omega.{arith}
use native.Mathlib.Nat.{mul-le-mul, one-mul, le_refl}
use lib.ListN.{length, drop, get_or}
use lib.Seq.{drop-cons, drop-length}
use Rattle.array.specs.Answer.{gives, refuses, unless}
use Rattle.array.specs.Limits.{most_cells}
use Rattle.array.specs.Lists.{All}
use Rattle.array.specs.Shape.{volume, ShapeOk, shape_test}
use Rattle.valid.specs.ShapeCells.{shape_answer}
use Rattle.array.proofs.Rules.{shape_ok, shape_test_lem}

-- ---- volumes

-- one side more
pub next_side : (s : List ℕ) (k : ℕ) → 0 < k → k ≤ length s → drop (k - 1) s ≡ get_or s (k - 1) 0 ∷ drop k s
next_side s k h l =
    let e : suc (k - 1) ≡ k = omega arith in
    drop-cons s (k - 1) 0 (omega arith) ∙ ap (λ (j : ℕ). get_or s (k - 1) 0 ∷ drop j s) e

pub volume_some : (s : List ℕ) → All (λ x. 1 ≤ x) s → 1 ≤ volume s
volume_some [] a = omega arith
volume_some (x ∷ s) a = let m : 1 * 1 ≤ x * volume s = mul-le-mul a.0 (volume_some s a.1) in omega arith

pub volume-drop : (s : List ℕ) (j : ℕ) → All (λ x. 1 ≤ x) s → volume (drop j s) ≤ volume s
volume-drop s zero a = le_refl (volume s)
volume-drop [] (suc j) a = le_refl 1
volume-drop (x ∷ s) (suc j) a =
    let m : 1 * volume s ≤ x * volume s = mul-le-mul a.0 (le_refl (volume s)) in
    omega (arith, volume-drop s j a.1, one-mul (volume s))

all_at : (s : List ℕ) (i : ℕ) → All (λ x. 1 ≤ x) s → i < length s → 1 ≤ get_or s i 0
all_at [] i a h = absurd (omega arith)
all_at (x ∷ s) zero a h = a.0
all_at (x ∷ s) (suc i) a h = all_at s i a.1 (omega arith)

-- ---- the answer

refused_shape : (s : List ℕ) → (shape_test s ≡ true → ⊥) → refuses 2 ≡ shape_answer s
unfolding shape_answer
refused_shape s f = go (shape_test s) refl
  where
    go : (b : Bool) → shape_test s ≡ b → refuses 2 ≡ unless b 2 (gives (volume s))
    go true e = absurd (f e)
    go false e = refl

pub no_sides : (s : List ℕ) → length s < 1 → refuses 2 ≡ shape_answer s
no_sides s h = refused_shape s (λ e. omega (arith, (shape_ok s e).some_sides))

pub many_sides : (s : List ℕ) → 4 < length s → refuses 2 ≡ shape_answer s
many_sides s h = refused_shape s (λ e. omega (arith, (shape_ok s e).few_sides))

-- what a count says of the shape
pub record Counted (s : List ℕ) (n : ℕ) : Type 0 where
  pub passes : shape_test s ≡ true
  pub shaped : ShapeOk s
  pub is : n ≡ volume s
  pub some : 1 ≤ n
  pub few : n ≤ 65536

pub counted : (s : List ℕ) (n : ℕ) → gives n ≡ shape_answer s → Counted s n
unfolding shape_answer most_cells
counted s n h = go (shape_test s) refl h
  where
    go : (b : Bool) → shape_test s ≡ b → gives n ≡ unless b 2 (gives (volume s)) → Counted s n
    go true e q =
        let m : n ≡ volume s = cc in
        let o : ShapeOk s = shape_ok s e in
        record { passes = e; shaped = o; is = m; some = omega (arith, volume_some s o.sides); few = omega (arith, o.few_cells) }
    go false e q = let z : ◌≡◌ {A = ℕ} 0 1 = cc in absurd (omega arith)

pub not_counted : (s : List ℕ) (k : ℕ) → refuses k ≡ shape_answer s → (shape_test s ≡ false) × (k ≡ 2)
unfolding shape_answer
not_counted s k h = go (shape_test s) refl h
  where
    go : (b : Bool) → shape_test s ≡ b → refuses k ≡ unless b 2 (gives (volume s)) → (shape_test s ≡ false) × (k ≡ 2)
    go true e q = let z : ◌≡◌ {A = ℕ} 0 1 = cc in absurd (omega arith)
    go false e q = (e, cc)

-- ---- the loop: the sides from k on are counted

pub record Sides (s : List ℕ) (v k : ℕ) : Type 0 where
  pub within : k ≤ length s
  pub is : v ≡ volume (drop k s)
  pub sides : All (λ x. 1 ≤ x) (drop k s)
  pub few : v ≤ 65536

pub sides_begin : (s : List ℕ) → Sides s 1 (length s)
sides_begin s = record {
  within = omega arith;
  is = sym (ap volume (drop-length s));
  sides = subst (All (λ x. 1 ≤ x)) (sym (drop-length s)) tt;
  few = omega arith;
}

module _ {s : List ℕ} {v k : ℕ} (c : Sides s v k) (h : 0 < k) where
  pub sides_more : 1 ≤ get_or s (k - 1) 0 → get_or s (k - 1) 0 * v ≤ 65536 → Sides s (get_or s (k - 1) 0 * v) (k - 1)
  sides_more g m = record {
    within = omega (arith, c.within);
    is = ap (λ (x : ℕ). get_or s (k - 1) 0 * x) c.is ∙ sym (ap volume (next_side s k h c.within));
    sides = subst (All (λ x. 1 ≤ x)) (sym (next_side s k h c.within)) (g, c.sides);
    few = m;
  }

  pub no_side : get_or s (k - 1) 0 < 1 → refuses 2 ≡ shape_answer s
  no_side f = refused_shape s (λ e. omega (arith, all_at s (k - 1) (shape_ok s e).sides (omega (arith, c.within))))

  pub many_cells : 65536 < get_or s (k - 1) 0 * v → refuses 2 ≡ shape_answer s
  unfolding most_cells
  many_cells f =
      refused_shape s (λ e. omega (
        arith,
        volume-drop s (k - 1) (shape_ok s e).sides,
        (shape_ok s e).few_cells,
        ap volume (next_side s k h c.within),
        ap (λ (x : ℕ). get_or s (k - 1) 0 * x) c.is,
      ))

  pub long_side : 65536 < get_or s (k - 1) 0 → refuses 2 ≡ shape_answer s
  long_side f =
      let g : 1 ≤ v = omega (arith, c.is, volume_some (drop k s) c.sides) in
      let m : get_or s (k - 1) 0 * 1 ≤ get_or s (k - 1) 0 * v = mul-le-mul (le_refl (get_or s (k - 1) 0)) g in
      many_cells (omega arith)

  -- the product of a limited side fits
  pub side_fits : get_or s (k - 1) 0 ≤ 65536 → get_or s (k - 1) 0 * v ≤ 65536 * 65536
  side_fits f = mul-le-mul f c.few

pub sides_end : {s : List ℕ} {v k : ℕ} → Sides s v k → k ≡ 0 → 1 ≤ length s → length s ≤ 4 → gives v ≡ shape_answer s
unfolding shape_answer most_cells
sides_end {s} {v} {k} c e a b =
    let d : drop k s ≡ s = ap (λ (j : ℕ). drop j s) e in
    let m : v ≡ volume s = c.is ∙ ap volume d in
    let o : ShapeOk s = record { some_sides = a; few_sides = b; sides = subst (All (λ x. 1 ≤ x)) d c.sides; few_cells = omega (arith, c.few) } in
    ap gives m ∙ sym (ap (λ (t : Bool). unless t 2 (gives (volume s))) (shape_test_lem s o))
