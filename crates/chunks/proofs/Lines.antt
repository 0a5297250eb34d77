-- The lines of specs/Lines hold: the whole table, by computation.
-- Assumes nothing.
use mathlib.Core.Path.{refl}
use Rattle.array.specs.Limits.{most_bytes, most_cells}
use Rattle.array.specs.Bytes.{le, unle}
use Rattle.array.specs.Calls.{reverse_answer, endianness_reversed, cells_answer, subset_cells}
use Rattle.codec.specs.Frame.{wrap, frame, read_frame}
use Rattle.codec.specs.Ragged.{put_ragged, get_ragged}
use Rattle.codec.specs.Values.{put_values, get_values}
use Rattle.codec.specs.Interleaved.{interleaved_cells, interleaved_values, put_cells, put_interleaved}
use Rattle.codec.specs.Calls.{encode_answer, encoded, read_in, decode_answer, decoded, interleaved_answer, interleaved_decoded, encode_interleaved_answer, interleaved_encoded}
use Rattle.chunks.specs.Chunks.{chunk_cells}
use Rattle.chunks.specs.Calls.{extract_answer, extracted, merge_answer, merged}
use Rattle.chunks.specs.Lines.{Lines}

pub lines : Lines
unfolding most_bytes most_cells le unle reverse_answer endianness_reversed cells_answer subset_cells wrap frame read_frame put_ragged get_ragged put_values get_values interleaved_cells
    interleaved_values encode_answer encoded read_in decode_answer decoded interleaved_answer interleaved_decoded put_cells put_interleaved encode_interleaved_answer
    interleaved_encoded extract_answer extracted chunk_cells merge_answer merged
lines = record {
  writes_23 = refl;
  reads_23 = refl;
  writes_19 = refl;
  reads_19 = refl;
  hidden_content = λ a b c d e. refl;
  writes_38 = refl;
  reads_38 = refl;
  writes_22 = refl;
  writes_34 = refl;
  late_cut = refl;
  late_written = refl;
  late_stored = refl;
  hidden_data = refl;
  data_first = refl;
  then_offsets = refl;
  empty_cells = refl;
  late_chunk = refl;
  hidden_frame = refl;
  older_form = refl;
  older_tail = λ b. refl;
  older_short = refl;
  older_past = refl;
  four_cells = refl;
  past_shape = refl;
  index_FF_start = refl;
  index_FF_end = refl;
  reversed_3 = refl;
  writes_big = refl;
  reads_big = refl;
  writes_packed = refl;
  reads_packed = refl;
  unused_bit = refl;
  packed_long = refl;
  writes_older = refl;
  older_late = refl;
  older_depth = refl;
  older_fixed = refl;
  older_masks = refl;
  older_room = refl;
  stored_02 = refl;
  whole_mask_first = refl;
  hidden_02 = refl;
  packed_02 = refl;
  cut_02 = refl;
  chunk_02 = refl;
}
