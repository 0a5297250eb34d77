-- The worked calls on working tables, by computation.
-- Assumes nothing.
use mathlib.Core.Path.{refl}
use Rattle.array.specs.Limits.{most_cells, most_bytes}
use Rattle.table.specs.Table.{most_store, table_test}
use Rattle.table.specs.Lying.{packed, packed_whole}
use Rattle.table.specs.Setting.{settled}
use Rattle.table.specs.Calls.{make_answer, made, read_answer, read_out, set_answer, cell_set, previewed, pack_answer, cells_packed}
use Rattle.table.specs.Lines.{Lines}

pub lines : Lines
unfolding most_cells most_bytes most_store table_test packed packed_whole settled make_answer made read_answer read_out set_answer cell_set previewed pack_answer cells_packed
lines = record {
  rests = refl;
  no_room = refl;
  read = refl;
  highest = refl;
  gave_up = refl;
  alone = refl;
  no_gap = refl;
  packs = refl;
  packs_as_lying = refl;
  empty = refl;
  hides = refl;
  hides_below = refl;
  over_itself = refl;
  displaced_only = refl;
  lowest_first = refl;
  none_left = refl;
  no_most = refl;
  no_kind = refl;
  no_cells = refl;
  mask_byte = refl;
  not_resting = refl;
  elsewhere = refl;
  overlapping = refl;
  beyond = refl;
  no_cell = refl;
  full = refl;
  foreseen = refl;
  foreseen_packed = refl;
  foreseen_empty = refl;
  foreseen_hidden = refl;
  foreseen_no_cell = refl;
  foreseen_full = refl;
}
