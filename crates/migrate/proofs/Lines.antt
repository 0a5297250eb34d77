-- The worked table holds, by computation.
-- Assumes nothing.
use mathlib.Core.Path.{refl}
use Rattle.array.specs.Limits.{most_bytes, most_cells}
use Rattle.array.specs.Bytes.{le, unle}
use Rattle.codec.specs.Ragged.{put_ragged, get_ragged}
use Rattle.codec.specs.Values.{put_values, get_values}
use Rattle.codec.specs.Interleaved.{interleaved_cells, interleaved_values}
use Rattle.migrate.specs.Live.{read_stored, read_chunks, chunk_values}
use Rattle.migrate.specs.Calls.{migrate_extract_answer, migrate_extract, migrate_step_answer, migrate_step}
use Rattle.migrate.specs.Lines.{Lines}

pub lines : Lines
unfolding most_bytes most_cells le unle put_ragged get_ragged put_values get_values interleaved_cells interleaved_values read_stored read_chunks chunk_values
    migrate_extract_answer migrate_extract migrate_step_answer migrate_step
lines = record {
  first_step = refl;
  second_step = refl;
  none_left = refl;
  cut_old = refl;
  cut_between = refl;
  cut_new = refl;
  cut_none = refl;
  cut_past = refl;
  no_room = refl;
  again = refl;
  unreadable = refl;
  unreadable_step = refl;
  runs_on = refl;
  byte_more = refl;
  short_list = refl;
  bytes_left = refl;
  three_moved = refl;
  past_area = refl;
  cell_twice = refl;
  no_chunks = refl;
  bytes_of_none = refl;
}
