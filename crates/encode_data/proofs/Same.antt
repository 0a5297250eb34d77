-- Offsets with the same level are the same, and so are values with the same offsets: their ghost fields have one proof each.
-- Assumes nothing.
use mathlib.Core.Path.{◌≡◌}
use mathlib.Core.HLevel.{is_prop→PathP}
use lib.ListN.{length}
use Rattle.std.specs.Coded.{Coded-set, coded_ℕ}
use Rattle.array.specs.Offsets.{last}
use Rattle.live_cells.specs.declared.Counted.{Counted}
use Rattle.encode_data.specs.Offsets.{Offsets, Offsets-prop}
use Rattle.encode_data.specs.declared.LiveOffsets.{LiveOffsets}
use Rattle.encode_data.specs.declared.LiveValues.{LiveValues}

pub offsets_same : (p : LiveOffsets) {c : Counted} → c ≡ p.live → (r : Offsets c.level.cells p.offsets.now)
    → ◌≡◌ {A = LiveOffsets} record { offsets = p.offsets; live = c; rising = r } p
offsets_same p e r =
    λ i. record {
      offsets = p.offsets;
      live = e i;
      rising = is_prop→PathP (λ j. Offsets (e j).level.cells p.offsets.now) (λ j. Offsets-prop (e j).level.cells p.offsets.now) r p.rising i;
    }

pub values_same : (v : LiveValues) {p : LiveOffsets} → p ≡ v.places → (w : last p.offsets.now ≡ length v.values.now)
    → ◌≡◌ {A = LiveValues} record { values = v.values; places = p; whole = w } v
values_same v e w =
    λ i. record {
      values = v.values;
      places = e i;
      whole = is_prop→PathP (λ j. last (e j).offsets.now ≡ length v.values.now) (λ j. Coded-set coded_ℕ _ _) w v.whole i;
    }
