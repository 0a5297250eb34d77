-- Guests with the same level are the same: their ghost fields have one proof each.
-- Assumes nothing.
use mathlib.Core.Path.{◌≡◌}
use mathlib.Core.HLevel.{is_prop→PathP}
use Prim.Native.Nat.{◌<◌}
use lib.ListN.{length}
use Rattle.std.specs.Coded.{le_prop, Coded-set, coded_ℕ}
use Rattle.live_cells.specs.declared.Level.{Level}
use Rattle.guest_read.specs.declared.guest.Guest.{Guest}

pub guest_same : (g : Guest) {l : Level} → l ≡ g.level → (m : 0 < l.depth) (c : length g.rights.now ≡ l.cells)
    → ◌≡◌ {A = Guest} record { rights = g.rights; level = l; masked = m; counted = c } g
guest_same g e m c =
    λ i. record {
      rights = g.rights;
      level = e i;
      masked = is_prop→PathP (λ j. 0 < (e j).depth) (λ j. le_prop) m g.masked i;
      counted = is_prop→PathP (λ j. length g.rights.now ≡ (e j).cells) (λ j. Coded-set coded_ℕ _ _) c g.counted i;
    }
