-- The cell of a setting, by its parts: its mask bytes in rest form, and its bytes where all levels are set.
-- Assumes nothing.
use mathlib.Core.Path.{◌≡◌, refl, sym, ap, ◌∙◌}
use Prim.Native.Nat.{ℕ, zero, suc, ◌+◌, ◌≤◌, ◌<◌}
use native.Mathlib.Nat.{zero-add, add-zero}
use native.Mathlib.Omega.{arith}
use mathlib.Core.Bool.{Bool, true, false}
use mathlib.Core.List.{List, [], ◌∷◌}
use lib.ListN.{length, get_or}
use lib.Dec.{eqb}
use Rattle.array.specs.Lists.{from, pick}
use Rattle.array.specs.Cells.{Value, Cell, leaf}
use Rattle.array.specs.Places.{mask_at, planes_by, shown_by, cell_by}
use Rattle.array.proofs.RestLaws.{masks_in, leaf_by, rest_by_lem}
use Rattle.table.specs.Setting.{setting_of, setting_masks}
use Rattle.table.proofs.Setting.{masks_of_one}
use Rattle.table_setting.specs.Masks.{shown_mask, masked_by}
use Rattle.table_setting.proofs.Columns.{planes_alike}

masks_by : (m : ℕ → ℕ) (v : Value) (d l i : ℕ) → i < d → masks_in d (cell_by m v d l) i ≡ m (l + i)
masks_by m v zero l i h = absurd (omega arith)
masks_by m v (suc d) l zero h = ap m (sym (add-zero l))
masks_by m v (suc d) l (suc i) h = let e : suc l + i ≡ l + suc i = omega arith in masks_by m v d (suc l) i (omega arith) ∙ ap m e

module _ (d : ℕ) (ms : List ℕ) (v : Value) where
  abbrev mask : ℕ → ℕ
  mask l = get_or ms l 0

  pub value_set : leaf d (setting_of d ms v) ≡ pick (shown_by mask d) v []
  value_set = ap (leaf d) (rest_by_lem [] mask v d) ∙ leaf_by (shown_mask mask) (pick (shown_by mask d) v []) d 0

  mask_set : (l : ℕ) → l < d → get_or (setting_masks d (setting_of d ms v)) l 0 ≡ shown_mask mask l
  mask_set l h =
      masks_of_one d (setting_of d ms v) l ∙ ap (λ (x : Cell d). masks_in d x l) (rest_by_lem [] mask v d)
      ∙ masks_by (shown_mask mask) (pick (shown_by mask d) v []) d 0 l h ∙ ap (shown_mask mask) (zero-add l)

  -- the planes after the setting
  pub masks_are : (n c : ℕ) (masks : List ℕ) → masked_by n c mask d masks
      ≡ planes_by (λ l j. pick (eqb j c) (get_or (setting_masks d (setting_of d ms v)) l 0) (mask_at n masks l j)) d 0 (from 0 n)
  masks_are n c masks =
      planes_alike (λ l j. pick (eqb j c) (shown_mask mask l) (mask_at n masks l j))
      (λ l j. pick (eqb j c) (get_or (setting_masks d (setting_of d ms v)) l 0) (mask_at n masks l j)) n d
      (λ l j h g. ap (λ (x : ℕ). pick (eqb j c) x (mask_at n masks l j)) (sym (mask_set l h))) d 0 (omega arith)

  -- how many bytes it has
  pub size_set : pick (shown_by mask d) (length v) 0 ≡ length (leaf d (setting_of d ms v))
  size_set = go (shown_by mask d) ∙ sym (ap length value_set)
    where
      go : (b : Bool) → pick b (length v) 0 ≡ length (pick b v [])
      go true = refl
      go false = refl

  -- bytes that are there are those of the value
  pub value_some : 0 < length (leaf d (setting_of d ms v)) → leaf d (setting_of d ms v) ≡ v
  value_some h = value_set ∙ go (shown_by mask d) (omega (arith, ap length value_set))
    where
      go : (b : Bool) → 0 < length (pick b v []) → pick b v [] ≡ v
      go true h = refl
      go false h = absurd (omega arith)

  pub value_none : length (leaf d (setting_of d ms v)) ≤ 0 → leaf d (setting_of d ms v) ≡ []
  value_none h = go (leaf d (setting_of d ms v)) h
    where
      go : (w : Value) → length w ≤ 0 → w ≡ []
      go [] h = refl
      go (x ∷ w) h = absurd (omega arith)
