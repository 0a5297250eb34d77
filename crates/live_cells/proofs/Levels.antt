-- Levels with the same masks, cells and depth are the same, and so are those with their counts: their ghost fields have one proof each.
-- Assumes nothing.
use mathlib.Core.Path.{◌≡◌, ap, ap₂, ◌∙◌}
use mathlib.Core.HLevel.{is_prop→PathP}
use Prim.Native.Nat.{ℕ, ◌*◌, ◌≤◌}
use mathlib.Core.List.{List}
use lib.ListN.{length}
use Rattle.std.specs.Coded.{le_prop, Coded-set, coded_ℕ}
use Rattle.array.specs.Limits.{most_depth}
use Rattle.live_cells.specs.Live.{live_at}
use Rattle.live_cells.specs.declared.Level.{Level}
use Rattle.live_cells.specs.declared.Counted.{Counted}

pub level_same : (l : Level) {d : ℕ} → d ≡ l.depth → (s : d ≤ most_depth) (p : d * l.cells ≤ length l.masks.now)
    → ◌≡◌ {A = Level} record { masks = l.masks; cells = l.cells; depth = d; shallow = s; planes = p } l
level_same l e s p =
    λ i. record {
      masks = l.masks;
      cells = l.cells;
      depth = e i;
      shallow = is_prop→PathP (λ j. e j ≤ most_depth) (λ j. le_prop) s l.shallow i;
      planes = is_prop→PathP (λ j. e j * l.cells ≤ length l.masks.now) (λ j. le_prop) p l.planes i;
    }

pub counted_same : (c : Counted) {l : Level} → l ≡ c.level → (p : c.count ≡ length (live_at l.cells l.masks.now l.depth))
    → ◌≡◌ {A = Counted} record { level = l; count = c.count; counted = p } c
counted_same c e p =
    λ i. record {
      level = e i;
      count = c.count;
      counted = is_prop→PathP (λ j. c.count ≡ length (live_at (e j).cells (e j).masks.now (e j).depth)) (λ j. Coded-set coded_ℕ _ _) p c.counted i;
    }

-- ---- as many cells as a level counts that is known under another name

pub level_count : (c : Counted) {l : Level} → c.level ≡ l → c.count ≡ length (live_at l.cells l.masks.now l.depth)
level_count c e = c.counted ∙ ap (λ (l : Level). length (live_at l.cells l.masks.now l.depth)) e

pub count_at : (c : Counted) {masks : List ℕ} {d : ℕ} → c.level.masks.now ≡ masks → c.level.depth ≡ d → c.count ≡ length (live_at c.level.cells masks d)
count_at c e f = c.counted ∙ ap₂ (λ (m : List ℕ) (d : ℕ). length (live_at c.level.cells m d)) e f
