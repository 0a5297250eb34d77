-- A setting made: the masks of one cell, its bytes given up, and new ones put in.
-- Assumes nothing.
use mathlib.Core.Path.{◌≡◌, sym, ap, ◌∙◌, subst}
use Prim.Native.Nat.{ℕ, ◌+◌, ◌≤◌, ◌<◌}
use native.Mathlib.Nat.{zero-mul}
use native.Mathlib.Omega.{arith}
use mathlib.Core.List.{List, []}
use lib.ListN.{length, get_or, set, length-set}
use Rattle.array.specs.Limits.{most_cells}
use Rattle.array.specs.Lists.{from}
use Rattle.array.specs.Cells.{Value, Cell, Strict, leaf}
use Rattle.array.specs.Places.{sum, cell_by}
use Rattle.array.proofs.Lists.{All-of, All-get_or}
use Rattle.array.proofs.RestLaws.{strict_rest, rest_again}
use Rattle.table.specs.Table.{Table, TableOk, most_store}
use Rattle.table.specs.Setting.{setting_of, setting_masks, given_up, masked, bytes_put, settled}
use Rattle.table.specs.Meaning.{table_by}
use Rattle.table.proofs.Each.{strict_by_lem}
use Rattle.table.proofs.Setting.{base_ok}
use Rattle.table_setting.specs.Masks.{masked_by}
use Rattle.table_place.specs.Place.{Put}
use Rattle.table_setting.specs.Settle.{Ready, settled_by}
use Rattle.table_setting.proofs.Values.{masks_are, value_some, value_none}

bare : {d n : ℕ} {u : Table} → TableOk d n u → TableOk 0 n (table_by [] u.starts u.lengths u.store)
bare {d} {n} {u} ok = record {
  masks_fit = sym (zero-mul n);
  starts_fit = ok.starts_fit;
  lengths_fit = ok.lengths_fit;
  strict = tt;
  rests = All-of _ (λ j. (tt, tt)) (from 0 n);
  placed = ok.placed;
  apart = ok.apart;
}

module _ {room : ℕ} {t : Table} {c : ℕ} {ms v : List ℕ} {size : ℕ} (r : Ready room t c ms v size) where
  abbrev n : ℕ
  n = length t.starts

  abbrev d : ℕ
  d = length ms

  abbrev x : Cell d
  x = setting_of d ms v

  pub up_ok : TableOk 0 n (table_by [] (set t.starts c 0) (set t.lengths c 0) t.store)
  up_ok =
      let m : ℕ → ℕ = λ l. get_or ms l 0 in
      bare (base_ok r.sound.table c r.low x
      (strict_rest [] d (cell_by m v d 0) (strict_by_lem m v (λ l. All-get_or Strict 0 (omega arith) ms r.sound.setting.strict l) d 0))
      (rest_again [] d (cell_by m v d 0)))

  -- nothing is put in
  pub settles_none : size ≤ 0 → {m : List ℕ} → m ≡ masked_by n c (λ l. get_or ms l 0) d t.masks
      → table_by m (set t.starts c 0) (set t.lengths c 0) t.store ≡ settled_by c ms v t
  unfolding settled
  settles_none h e =
      ap (λ (k : List ℕ). table_by k (set t.starts c 0) (set t.lengths c 0) t.store) (e ∙ masks_are d ms v n c t.masks)
      ∙ ap (λ (w : Value). bytes_put n c w (masked d n c (setting_masks d x) (given_up c t))) (sym (value_none d ms v (omega (arith, r.sized))))

  abbrev up_starts : List ℕ
  up_starts = set t.starts c 0

  same_count : length up_starts ≡ n
  same_count = length-set t.starts c 0

  -- its bytes are
  pub settles_some : 0 < size → {m s' l' b' : List ℕ} → m ≡ masked_by n c (λ l. get_or ms l 0) d t.masks
      → Put (length up_starts) c v up_starts (set t.lengths c 0) t.store s' l' b' → table_by m s' l' b' ≡ settled_by c ms v t
  unfolding settled
  settles_some h {m} e put =
      put.table m
      ∙ ap (λ (k : ℕ). bytes_put k c v (table_by m up_starts (set t.lengths c 0) t.store)) same_count
      ∙ ap (λ (k : List ℕ). bytes_put n c v (table_by k up_starts (set t.lengths c 0) t.store)) (e ∙ masks_are d ms v n c t.masks)
      ∙ ap (λ (w : Value). bytes_put n c w (masked d n c (setting_masks d x) (given_up c t))) (sym (value_some d ms v (omega (arith, r.sized))))

  -- what putting them in asks for
  pub put_asked : 0 < size → TableOk 0 (length up_starts) (table_by [] up_starts (set t.lengths c 0) t.store) × (length up_starts ≤ most_cells) × (length up_starts ≤ room)
      × (length t.store ≤ most_store) × (c < length up_starts) × (sum (set t.lengths c 0) + length v ≤ length t.store) × (0 < length v)
  put_asked h =
      let e : length (leaf d x) ≡ length v = ap length (value_some d ms v (omega (arith, r.sized))) in (
        subst (λ (k : ℕ). TableOk 0 k (table_by [] up_starts (set t.lengths c 0) t.store)) (sym same_count) up_ok,
        omega (arith, same_count, r.sound.few),
        omega (arith, same_count, r.sound.order),
        r.small,
        omega (arith, same_count, r.low),
        omega (arith, r.fits, e),
        omega (arith, r.sized, e),
      )
