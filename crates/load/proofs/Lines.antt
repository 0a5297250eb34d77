-- The worked loads hold, by computation.
-- Assumes nothing.
use mathlib.Core.Path.{refl}
use Rattle.array.specs.Limits.{most_cells}
use Rattle.load.specs.Generator.{draw, draw_bytes}
use Rattle.load.specs.Load.{draw_value, draw_cell, draw_cells}
use Rattle.load.specs.Calls.{generate_answer, generated}
use Rattle.load.specs.Lines.{Lines}

pub lines : Lines
unfolding most_cells draw draw_bytes draw_value draw_cell draw_cells generate_answer generated
lines = record {
  first_draw = refl;
  one_byte = refl;
  two_cells = refl;
  three_cells = refl;
  four_cells = refl;
  beyond = refl;
  no_room = refl;
  no_shape = refl;
  no_kind = refl;
}
