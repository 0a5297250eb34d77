-- Redundant by the law masks_are in table_setting/proofs/Values.antt: the mask bytes of a table after a setting (S13.8), by level and cell.
-- Assumes nothing.
use Rattle.std.specs.Prelude.{ℕ, List, eqb}
use Rattle.array.specs.Lists.{from, pick}
use Rattle.array.specs.Places.{mask_at, planes_by, shown_by}

-- the mask byte of level l in rest form: 0 where it is not shown
abbrev pub shown_mask : (ℕ → ℕ) → ℕ → ℕ
shown_mask m l = pick (shown_by m l) (m l) 0

-- planes of n cells in which cell c has the mask bytes m l, in rest form, at d levels
abbrev pub masked_by : (n c : ℕ) → (ℕ → ℕ) → ℕ → List ℕ → List ℕ
masked_by n c m d masks = planes_by (λ l j. pick (eqb j c) (shown_mask m l) (mask_at n masks l j)) d 0 (from 0 n)
