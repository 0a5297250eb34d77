-- The rest form, by the words of docs/SPEC.md, S2.1 and S2.2: a level's mask byte stays if all outer masks there are set, else it is 0; the value
-- stays if all masks are set, else it is that of a null.
-- Assumes nothing.
use mathlib.Core.Path.{◌≡◌, refl, sym, ap, ◌∙◌, subst}
use Prim.Native.Nat.{ℕ, zero, suc, ◌+◌}
use native.Mathlib.Nat.{zero-add}
use native.Mathlib.Omega.{arith}
use mathlib.Core.Bool.{Bool, true, false, ◌&&◌}
use Rattle.array.specs.Lists.{pick}
use Rattle.array.specs.Cells.{Value, Cell, Strict, set_test, leaf, blank, rest_one, rest}
use Rattle.array.specs.Places.{cell_by, shown_by}

-- ---- any cell by its mask bytes and its value

-- the mask bytes, outermost first; 0 past the innermost
abbrev pub masks_in : (d : ℕ) → Cell d → ℕ → ℕ
masks_in zero c l = 0
masks_in (suc d) c zero = c.0
masks_in (suc d) c (suc l) = masks_in d c.1 l

pub cell_by_lem : (d : ℕ) (c : Cell d) → c ≡ cell_by (masks_in d c) (leaf d c) d 0
cell_by_lem zero c = refl
cell_by_lem (suc d) c = ap (λ (r : Cell d). (c.0, r)) (cell_by_lem d c.1 ∙ sym (later (masks_in (suc d) c) (leaf d c.1) d 0))
  where
    later : (m : ℕ → ℕ) (v : Value) (d l : ℕ) → cell_by m v d (suc l) ≡ cell_by (λ i. m (suc i)) v d l
    later m v zero l = refl
    later m v (suc d) l = ap (λ (r : Cell d). (m (suc l), r)) (later m v d (suc l))

pub leaf_by : (m : ℕ → ℕ) (v : Value) (d l : ℕ) → leaf d (cell_by m v d l) ≡ v
leaf_by m v zero l = refl
leaf_by m v (suc d) l = leaf_by m v d (suc l)

module _ (z : Value) where
  pub rest_blank : (d : ℕ) → rest z d (blank z d) ≡ blank z d
  rest_blank zero = refl
  rest_blank (suc d) = refl

  -- a cell that is hidden
  pub hidden_by_lem : (m : ℕ → ℕ) (v : Value) (d l : ℕ) (b : Bool) → pick b (cell_by m v d l) (blank z d) ≡ cell_by (λ i. pick b (m i) 0) (pick b v z) d l
  hidden_by_lem m v d l true = refl
  hidden_by_lem m v zero l false = refl
  hidden_by_lem m v (suc d) l false = ap (λ (r : Cell d). (zero, r)) (hidden_by_lem m v d (suc l) false)

  -- the rest form from level l on, where t levels end
  rest_from : (m : ℕ → ℕ) (v : Value) (d l t : ℕ) → l + d ≡ t
      → pick (shown_by m l) (rest z d (cell_by m v d l)) (blank z d) ≡ cell_by (λ i. pick (shown_by m i) (m i) 0) (pick (shown_by m t) v z) d l
  rest_from m v zero l t e = let q : l ≡ t = omega arith in ap (λ (i : ℕ). pick (shown_by m i) v z) q
  rest_from m v (suc d) l t e = one (shown_by m l) (m l) (rest_from m v d (suc l) t (omega arith))
    where
      one : {r : Cell d} (b : Bool) (x : ℕ) → pick (b && set_test x) (rest z d (cell_by m v d (suc l))) (blank z d) ≡ r
          → pick b (rest_one z (blank z d) (rest z d) x (cell_by m v d (suc l))) (zero, blank z d) ≡ (pick b x 0, r)
      one true zero q = ap (λ (r : Cell d). (zero, r)) q
      one true (suc zero) q = ap (λ (r : Cell d). (1, r)) q
      one true (suc (suc x)) q = ap (λ (r : Cell d). (suc (suc x), r)) q
      one false x q = ap (λ (r : Cell d). (zero, r)) q

  pub rest_by_lem : (m : ℕ → ℕ) (v : Value) (d : ℕ) → rest z d (cell_by m v d 0) ≡ cell_by (λ l. pick (shown_by m l) (m l) 0) (pick (shown_by m d) v z) d 0
  rest_by_lem m v d = rest_from m v d 0 d (zero-add d)

  pub rest_is : (d : ℕ) (c : Cell d)
      → rest z d c ≡ cell_by (λ l. pick (shown_by (masks_in d c) l) (masks_in d c l) 0) (pick (shown_by (masks_in d c) d) (leaf d c) z) d 0
  rest_is d c = ap (rest z d) (cell_by_lem d c) ∙ rest_by_lem (masks_in d c) (leaf d c) d

  -- the rest form of a rest form is itself
  pub rest_again : (d : ℕ) (c : Cell d) → rest z d (rest z d c) ≡ rest z d c
  rest_again zero c = refl
  rest_again (suc d) c = one c.0 (rest_again d c.1)
    where
      one : (m : ℕ) → rest z d (rest z d c.1) ≡ rest z d c.1
          → rest z (suc d) (rest_one z (blank z d) (rest z d) m c.1) ≡ rest_one z (blank z d) (rest z d) m c.1
      one zero e = refl
      one (suc zero) e = ap (λ (r : Cell d). (1, r)) e
      one (suc (suc m)) e = refl

  -- what holds of a null's value and of a cell's value holds of its value in rest form
  pub leaf_blank : (P : Value → Type 0) (d : ℕ) → P z → P (leaf d (blank z d))
  leaf_blank P zero p = p
  leaf_blank P (suc d) p = leaf_blank P d p

  pub leaf_rest : (P : Value → Type 0) (d : ℕ) (c : Cell d) → P z → P (leaf d c) → P (leaf d (rest z d c))
  leaf_rest P d c p q = subst P (sym (ap (leaf d) (rest_is d c) ∙ leaf_by _ _ d 0)) (one (shown_by (masks_in d c) d))
    where
      one : (b : Bool) → P (pick b (leaf d c) z)
      one true = q
      one false = p

-- ---- mask bytes that keep their rule

-- every mask byte of a cell is 00 or 01
abbrev pub StrictCell : (d : ℕ) → Cell d → Type 0
StrictCell zero v = Unit {0}
StrictCell (suc d) c = Strict c.0 × StrictCell d c.1

pub strict_blank : (z : Value) (d : ℕ) → StrictCell d (blank z d)
strict_blank z zero = tt
strict_blank z (suc d) = (omega arith, strict_blank z d)

pub strict_rest : (z : Value) (d : ℕ) (c : Cell d) → StrictCell d c → StrictCell d (rest z d c)
strict_rest z zero c p = tt
strict_rest z (suc d) c p = one c.0 p.0 (strict_rest z d c.1 p.1)
  where
    one : (m : ℕ) → Strict m → StrictCell d (rest z d c.1) → StrictCell (suc d) (rest_one z (blank z d) (rest z d) m c.1)
    one zero q r = (q, strict_blank z d)
    one (suc zero) q r = (q, r)
    one (suc (suc m)) q r = (q, strict_blank z d)
