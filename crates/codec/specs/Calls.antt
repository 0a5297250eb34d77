-- docs/SPEC.md, S6.2 to S6.4, S6.16, S7.2: the calls that write and read, their answers, refusals in order, and what is left in the outputs.
-- Assumes nothing.
use Rattle.std.specs.Prelude.{ℕ, List, length, leb}
use Rattle.array.specs.Answer.{Answer, gives, unless, and_then, Outcome}
use Rattle.array.specs.Limits.{most_cells}
use Rattle.array.specs.Kind.{Kind, Form, null_of, kind_test}
use Rattle.array.specs.Shape.{volume, shape_test}
use Rattle.array.specs.Cells.{Value}
use Rattle.array.specs.Content.{Content, RaggedContent, end_to_end, layout, cells_of, values_in, unless_kept}
use Rattle.array.specs.declared.answer.Lengths.{Lengths}
use Rattle.array.specs.declared.answer.RaggedLengths.{RaggedLengths}
use Rattle.array.specs.Buffers.{lengths_of, ragged_lengths_of, enough_test, ragged_enough_test, list_outcome, ragged_outcome, content_outcome, if_room}
use Rattle.codec.specs.Mask.{MaskForm, mask_form}
use Rattle.codec.specs.Frame.{frame, read_frame, live}
use Rattle.codec.specs.Values.{put_values, get_values}
use Rattle.codec.specs.Carried.{carried_test, fields_test}
use Rattle.codec.specs.Interleaved.{interleaved_values, put_interleaved, interleaved_test}

-- ---- encode

-- the stored form of an array of n cells
abbrev pub stored_form : Kind → ℕ → Content → List ℕ
stored_form k n c = frame (mask_form k.masks) (put_values k.form) k.depth (cells_of k n c)

-- the values that it holds: those of the cells whose masks are all set
abbrev pub values_left : Kind → ℕ → Content → List Value
values_left k n c = live k.depth (cells_of k n c)

unfoldable pub encode_answer : Kind → List ℕ → Content → ℕ → Answer (List ℕ)
encode_answer k shape c room =
    let stored = stored_form k (volume shape) c in
    unless (kind_test k) 1
    (unless (shape_test shape) 2
    (unless_kept k (volume shape) c
    (unless (carried_test k.form (values_left k (volume shape) c)) 20
    (if_room (leb (length stored) room) stored))))

unfoldable pub encoded : Kind → List ℕ → Content → List ℕ → Outcome ℕ (List ℕ)
unfolding encode_answer
encoded k shape c out = list_outcome (encode_answer k shape c (length out)) out

-- ---- decode

-- the content that n stored cells are laid out as
unfoldable pub read_in : MaskForm → Form → (d n : ℕ) → List ℕ → Answer Content
read_in mf f d n s = and_then (read_frame mf (null_of f) (get_values f) d s n) (λ cs. gives (layout f d cs))

unfoldable pub decode_answer : Kind → List ℕ → List ℕ → Lengths → Answer Content
decode_answer k shape s room =
    unless (kind_test k) 1
    (unless (shape_test shape) 2
    (and_then (read_in (mask_form k.masks) k.form k.depth (volume shape) s) (λ c.
    if_room (enough_test c room) c)))

unfoldable pub decoded : Kind → List ℕ → List ℕ → Content → Outcome Lengths Content
unfolding decode_answer
decoded k shape s out = content_outcome (decode_answer k shape s (lengths_of out)) out

-- ---- decode_interleaved: n cells of the older form

unfoldable pub interleaved_answer : ℕ → List ℕ → RaggedLengths → Answer RaggedContent
unfolding interleaved_values
interleaved_answer n s room =
    unless (leb n most_cells) 2
    (and_then (interleaved_values n s) (λ vs.
    if_room (ragged_enough_test (end_to_end vs) room) (end_to_end vs)))

unfoldable pub interleaved_decoded : ℕ → List ℕ → RaggedContent → Outcome RaggedLengths RaggedContent
unfolding interleaved_answer
interleaved_decoded n s out = ragged_outcome (interleaved_answer n s (ragged_lengths_of out)) out

-- ---- encode_interleaved: an array of depth 0 in the older form (docs/SPEC.md, S5.4, S6.16)

abbrev pub interleaved_form : Kind → ℕ → Content → List ℕ
interleaved_form k n c = put_interleaved (values_in k.form n c)

unfoldable pub encode_interleaved_answer : Kind → List ℕ → Content → ℕ → Answer (List ℕ)
unfolding put_interleaved
encode_interleaved_answer k shape c room =
    let stored = interleaved_form k (volume shape) c in
    unless (interleaved_test k) 1
    (unless (shape_test shape) 2
    (unless_kept k (volume shape) c
    (unless (fields_test (values_in k.form (volume shape) c)) 20
    (if_room (leb (length stored) room) stored))))

unfoldable pub interleaved_encoded : Kind → List ℕ → Content → List ℕ → Outcome ℕ (List ℕ)
unfolding encode_interleaved_answer
interleaved_encoded k shape c out = list_outcome (encode_interleaved_answer k shape c (length out)) out
