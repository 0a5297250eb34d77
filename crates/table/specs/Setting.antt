-- docs/SPEC.md, S13.8 to S13.10: a cell set to other masks and bytes.
-- Assumes nothing.
use Rattle.std.specs.Prelude.{ℕ, ◌+◌, ◌-◌, Bool, List, [], ◌∷◌, length, get_or, set, leb, eqb}
use Rattle.array.specs.Lists.{from, pick}
use Rattle.array.specs.Cells.{Value, Cell, leaf, rest}
use Rattle.array.specs.Content.{masks_of, StrictBytes, strict_bytes_test}
use Rattle.array.specs.Buffers.{over_at}
use Rattle.array.specs.Places.{sum, mask_at, planes_by, cell_by}
use Rattle.table.specs.Table.{Table}
use Rattle.table.specs.Lying.{top_of, packed_whole}

-- the masks of a setting: one byte a level, each 00 or 01, also below a null (refusal 4)
abbrev pub SettingOk : ℕ → List ℕ → Type 0
SettingOk d ms = StrictBytes d ms

abbrev pub setting_test : ℕ → List ℕ → Bool
setting_test d ms = strict_bytes_test d ms

-- the cell that is set, in rest form: what is below an unset level is hidden and dropped
abbrev pub setting_of : (d : ℕ) → List ℕ → Value → Cell d
setting_of d ms v = rest [] d (cell_by (λ l. get_or ms l 0) v d 0)

-- its mask bytes, outermost first
abbrev pub setting_masks : (d : ℕ) → Cell d → List ℕ
setting_masks d x = masks_of d (x ∷ [])

-- the old bytes of cell c given up
abbrev pub given_up : ℕ → Table → Table
given_up c t = record { masks = t.masks; starts = set t.starts c 0; lengths = set t.lengths c 0; store = t.store }

-- the mask bytes of cell c, among n cells of d levels, those of the list
abbrev pub masked : ℕ → ℕ → ℕ → List ℕ → Table → Table
masked d n c ms t = record {
  masks = planes_by (λ l j. pick (eqb j c) (get_or ms l 0) (mask_at n t.masks l j)) d 0 (from 0 n);
  starts = t.starts;
  lengths = t.lengths;
  store = t.store;
}

-- bytes put at place p, for cell c
abbrev pub placed_at : ℕ → ℕ → Value → Table → Table
placed_at p c v t = record { masks = t.masks; starts = set t.starts c p; lengths = set t.lengths c (length v); store = over_at p v t.store }

-- all cells packed where too little remains behind the highest-lying one
abbrev pub roomy_for : ℕ → ℕ → Table → Table
roomy_for size n t = pick (leb size (length t.store - top_of t n)) t (packed_whole n t)

-- bytes put right after the highest-lying cell. A cell with none starts at 0, as it did when its bytes were given up
abbrev pub bytes_put : ℕ → ℕ → Value → Table → Table
bytes_put n c [] t = t
bytes_put n c (b ∷ bs) t = placed_at (top_of (roomy_for (length (b ∷ bs)) n t) n) c (b ∷ bs) (roomy_for (length (b ∷ bs)) n t)

unfoldable pub settled : (d n c : ℕ) → Cell d → Table → Table
settled d n c x t = bytes_put n c (leaf d x) (masked d n c (setting_masks d x) (given_up c t))

-- the sum of lengths after the setting, which the store must hold: refusal 16
abbrev pub sum_after : (d c : ℕ) → Cell d → Table → ℕ
sum_after d c x t = sum (given_up c t).lengths + length (leaf d x)
