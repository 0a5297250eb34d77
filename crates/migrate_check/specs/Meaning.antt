-- docs/SPEC.md, S6.13: what the declared type of a live table means, with what is lent beside it.
-- Assumes nothing.
use Rattle.std.specs.Prelude.{ℕ, List}
use Rattle.migrate.specs.Live.{LiveTable}
use Rattle.migrate_check.specs.declared.stored.LiveTable as declared

abbrev pub live_by : (shape subsets old_lengths old : List ℕ) → ℕ → (moved_lengths area : List ℕ) → LiveTable
live_by shape subsets old_lengths old moved moved_lengths area = record {
  shape = shape;
  subsets = subsets;
  old_lengths = old_lengths;
  old = old;
  moved = moved;
  moved_lengths = moved_lengths;
  area = area;
}

abbrev pub live_of : declared.LiveTable → ℕ → List ℕ → List ℕ → LiveTable
live_of t m ls a = live_by t.shape.now t.subsets.now t.old_lengths.now t.old.now m ls a
