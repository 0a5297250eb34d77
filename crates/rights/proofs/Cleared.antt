-- The masks with the outermost one cleared: as many bytes, 00 and 01 as before, and byte by byte.
-- Assumes nothing.
use mathlib.Core.Path.{◌≡◌, refl, sym, ap, ◌∙◌}
use mathlib.Core.Bool.{Bool, true, false}
use mathlib.Core.List.{List, [], ◌∷◌, ◌++◌, map}
use Prim.Native.Nat.{ℕ, zero, suc, ◌+◌, ◌*◌, ◌≤◌, ◌<◌}
use native.Mathlib.Nat.{zero-mul, suc-mul}
use native.Mathlib.Omega.{arith}
use lib.ListN.{length, get_or, drop}
use Rattle.array.specs.Lists.{from, pick, All}
use Rattle.array.specs.Kind.{Kind, Form, fixed, ragged}
use Rattle.array.specs.Cells.{Strict, set_test}
use Rattle.array.specs.Content.{Content, ValuesOk, ContentOk, ArrayOk}
use Rattle.array.specs.Places.{mask_at}
use Rattle.array.proofs.Lists.{from_suc}
use Rattle.rights.specs.Rights.{permits, cleared, hidden_by}

pub cleared-length : (rights ms : List ℕ) → length (cleared rights ms) ≡ length ms
cleared-length [] ms = refl
cleared-length (r ∷ rs) [] = refl
cleared-length (r ∷ rs) (m ∷ ms) = ap suc (cleared-length rs ms)

cleared_strict : (rights ms : List ℕ) → All Strict ms → All Strict (cleared rights ms)
cleared_strict [] ms p = p
cleared_strict (r ∷ rs) [] p = tt
cleared_strict (r ∷ rs) (m ∷ ms) p = (one (set_test r), cleared_strict rs ms p.1)
  where
    one : (b : Bool) → Strict (pick b m 0)
    one true = p.0
    one false = omega arith

-- within the plane a byte stays where the plane shows its cell, behind it every byte stays
cleared_in : (rights ms : List ℕ) (i : ℕ) → i < length rights → get_or (cleared rights ms) i 0 ≡ pick (permits rights i) (get_or ms i 0) 0
cleared_in [] ms i h = absurd (omega arith)
cleared_in (r ∷ rs) [] i h = none (permits (r ∷ rs) i)
  where
    none : (b : Bool) → ◌≡◌ {A = ℕ} 0 (pick b 0 0)
    none true = refl
    none false = refl
cleared_in (r ∷ rs) (m ∷ ms) zero h = refl
cleared_in (r ∷ rs) (m ∷ ms) (suc i) h = cleared_in rs ms i (omega arith)

cleared_behind : (rights ms : List ℕ) (i : ℕ) → length rights ≤ i → get_or (cleared rights ms) i 0 ≡ get_or ms i 0
cleared_behind [] ms i h = refl
cleared_behind (r ∷ rs) [] i h = refl
cleared_behind (r ∷ rs) (m ∷ ms) zero h = absurd (omega arith)
cleared_behind (r ∷ rs) (m ∷ ms) (suc i) h = cleared_behind rs ms i (omega arith)

-- by planes: the outermost cell by cell, and those behind it as they are
pub cleared_is : (rights ms : List ℕ) → length rights ≤ length ms
    → cleared rights ms ≡ map (λ j. pick (permits rights j) (get_or ms j 0) 0) (from 0 (length rights)) ++ drop (length rights) ms
cleared_is [] ms h = refl
cleared_is (r ∷ rs) [] h = absurd (omega arith)
cleared_is (r ∷ rs) (m ∷ ms) h =
    ap (λ (l : List ℕ). pick (set_test r) m 0 ∷ l)
    (cleared_is rs ms (omega arith)
    ∙ ap (λ (l : List ℕ). l ++ drop (length rs) ms) (sym (from_suc (λ j. pick (permits (r ∷ rs) j) (get_or (m ∷ ms) j 0) 0) 0 (length rs))))

-- ---- of n cells

module _ (n : ℕ) (rights ms : List ℕ) (counted : length rights ≡ n) where
  pub outermost_at : (j : ℕ) → j < n → mask_at n (cleared rights ms) 0 j ≡ pick (permits rights j) (mask_at n ms 0 j) 0
  outermost_at j h =
      let first : 0 * n + j ≡ j = omega (arith, zero-mul n) in
      ap (λ (i : ℕ). get_or (cleared rights ms) i 0) first ∙ cleared_in rights ms j (omega arith)
      ∙ ap (λ (i : ℕ). pick (permits rights j) (get_or ms i 0) 0) (sym first)

  pub inner_at : (l j : ℕ) → mask_at n (cleared rights ms) (suc l) j ≡ mask_at n ms (suc l) j
  inner_at l j = cleared_behind rights ms (suc l * n + j) (omega (arith, suc-mul l n))

module _ {k : Kind} {n : ℕ} {c : Content} (rights : List ℕ) where
  pub hidden_fits : ContentOk k n c → ContentOk k n (hidden_by rights c)
  hidden_fits ok = record { masks_fit = cleared-length rights c.masks ∙ ok.masks_fit; values_fit = values k.form ok.values_fit }
    where
      values : (f : Form) → ValuesOk f n c → ValuesOk f n (hidden_by rights c)
      values (fixed s o) v = v
      values (ragged w p) v = v

  pub hidden_ok : ArrayOk k n c → ArrayOk k n (hidden_by rights c)
  hidden_ok ok = record { fits = hidden_fits ok.fits; strict = cleared_strict rights c.masks ok.strict }
