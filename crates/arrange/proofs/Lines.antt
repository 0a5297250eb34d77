-- The worked arrangements hold, by computation.
-- Assumes nothing.
use mathlib.Core.Path.{refl}
use Rattle.arrange.specs.Calls.{arrangement_answer, arranged}
use Rattle.arrange.specs.Lines.{Lines}

pub lines : Lines
unfolding arrangement_answer arranged
lines = record {
  outer_null = refl;
  inner_null = refl;
  empty = refl;
  longest = refl;
  two_cells = refl;
  first = refl;
  last = refl;
  beyond = refl;
  depth_3 = refl;
  no_cells = refl;
  five_cells = refl;
  past = refl;
  no_room = refl;
}
