-- The worked calls of guests, by computation.
-- Assumes nothing.
use mathlib.Core.Path.{refl}
use Rattle.array.specs.Limits.{most_cells, most_bytes}
use Rattle.table.specs.Table.{most_store, table_test}
use Rattle.table.specs.Lying.{packed_whole}
use Rattle.table.specs.Setting.{settled}
use Rattle.rights.specs.Calls.{guest_answer, guest_read, edit_answer, guest_edit}
use Rattle.rights.specs.Lines.{Lines}

pub lines : Lines
unfolding most_cells most_bytes most_store table_test packed_whole settled guest_answer guest_read edit_answer guest_edit
lines = record {
  read = refl;
  no_room = refl;
  levels = refl;
  zeros = refl;
  no_shape = refl;
  without_masks_lem = refl;
  no_masks_fixed = refl;
  other_byte = refl;
  short_plane = refl;
  edit = refl;
  fixed_kind = refl;
  no_levels = refl;
  plane = refl;
  plane_first = refl;
  masks_of_setting = refl;
  past = refl;
  hidden = refl;
  full = refl;
}
