-- docs/SPEC.md, S8.11: longer traces. Until the limit was raised it was 16,777,216 value bytes, and 20 did not exist. Each call that reads
-- or writes stored bytes leaves the same answer and the same bytes as it did then, but where it then refused with 5: so stored bytes that
-- were accepted are read as before, and arrays that could be written are written alike.
-- Here stand the calls as they were, the limit a parameter; with the limit of today the readers are the calls (AsToday).
-- Assumes nothing.
use Rattle.std.specs.Prelude.{ℕ, suc, ◌*◌, ◌≡◌, List, map, length, take, drop, leb, eqb}
use Rattle.array.specs.Answer.{Answer, gives, refuses, unless, and_then, Outcome}
use Rattle.array.specs.Limits.{most_bytes, most_cells}
use Rattle.array.specs.Lists.{joined, pieces}
use Rattle.array.specs.Bytes.{unle}
use Rattle.array.specs.Kind.{Kind, Place, Form, fixed, ragged, ordered, null_of, kind_test}
use Rattle.array.specs.Shape.{volume, shape_test}
use Rattle.array.specs.Offsets.{last, rising_test, slices}
use Rattle.array.specs.Cells.{Value}
use Rattle.array.specs.Content.{Content, RaggedContent, end_to_end, layout, array_test}
use Rattle.array.specs.declared.answer.Lengths.{Lengths}
use Rattle.array.specs.declared.answer.RaggedLengths.{RaggedLengths}
use Rattle.array.specs.Buffers.{lengths_of, ragged_lengths_of, enough_test, ragged_enough_test, list_outcome, ragged_outcome, content_outcome, if_room}
use Rattle.codec.specs.Mask.{mask_form}
use Rattle.codec.specs.Frame.{read_frame}
use Rattle.codec.specs.Ragged.{part_of, left_of}
use Rattle.codec.specs.Interleaved.{interleaved_cells, interleaved_test}
use Rattle.codec.specs.Calls.{stored_form, encoded, decoded, interleaved_form, interleaved_decoded, interleaved_encoded}

-- the limit that was
abbrev pub most_before : ℕ
most_before = 16777216

-- ---- reading

abbrev pub check_ragged_at : ℕ → List ℕ → List ℕ → Answer RaggedContent
check_ragged_at most os s =
    unless (eqb (last os) (length s)) 8
    (unless (rising_test os) 10
    (unless (leb (last os) most) 5 (gives (record { values = s; offsets = os }))))

abbrev pub open_ragged_at : ℕ → ℕ → Place → ℕ → List ℕ → ℕ → Answer RaggedContent
open_ragged_at most w p l s n =
    unless (leb l (length s)) 8
    (unless (eqb l (w * suc n)) 8
    (check_ragged_at most (map unle (pieces w (suc n) (part_of p l s))) (left_of p l s)))

abbrev pub get_ragged_at : ℕ → ℕ → Place → List ℕ → ℕ → Answer RaggedContent
get_ragged_at most w p s n = unless (leb 8 (length s)) 7 (open_ragged_at most w p (unle (part_of p 8 s)) (left_of p 8 s) n)

abbrev pub get_values_at : ℕ → Form → List ℕ → ℕ → Answer (List Value)
get_values_at most (fixed k o) s n = unless (eqb (length s) (n * k)) 8 (gives (map (ordered o) (pieces k n s)))
get_values_at most (ragged w p) s n = and_then (get_ragged_at most w p s n) (λ x. gives (slices x.offsets x.values))

abbrev pub decode_answer_at : ℕ → Kind → List ℕ → List ℕ → Lengths → Answer Content
decode_answer_at most k shape s room =
    unless (kind_test k) 1
    (unless (shape_test shape) 2
    (and_then (and_then (read_frame (mask_form k.masks) (null_of k.form) (get_values_at most k.form) k.depth s (volume shape)) (λ cs. gives (layout k.form k.depth cs))) (λ c.
    if_room (enough_test c room) c)))

abbrev pub decoded_at : ℕ → Kind → List ℕ → List ℕ → Content → Outcome Lengths Content
decoded_at most k shape s out = content_outcome (decode_answer_at most k shape s (lengths_of out)) out

abbrev pub interleaved_values_at : ℕ → ℕ → List ℕ → Answer (List Value)
interleaved_values_at most n s =
    unless (leb (4 * suc n) (length s)) 7
    (unless (eqb (unle (take 4 s)) n) 9
    (and_then (interleaved_cells n (drop 4 s)) (λ vs.
    unless (leb (length (joined vs)) most) 5 (gives vs))))

abbrev pub interleaved_answer_at : ℕ → ℕ → List ℕ → RaggedLengths → Answer RaggedContent
interleaved_answer_at most n s room =
    unless (leb n most_cells) 2
    (and_then (interleaved_values_at most n s) (λ vs.
    if_room (ragged_enough_test (end_to_end vs) room) (end_to_end vs)))

abbrev pub interleaved_decoded_at : ℕ → ℕ → List ℕ → RaggedContent → Outcome RaggedLengths RaggedContent
interleaved_decoded_at most n s out = ragged_outcome (interleaved_answer_at most n s (ragged_lengths_of out)) out

pub record AsToday : Type 0 where
  pub decode : (k : Kind) (shape s : List ℕ) (out : Content) → decoded_at most_bytes k shape s out ≡ decoded k shape s out
  pub decode_interleaved : (n : ℕ) (s : List ℕ) (out : RaggedContent) → interleaved_decoded_at most_bytes n s out ≡ interleaved_decoded n s out

-- ---- writing, with no 20

abbrev pub encode_answer_at : ℕ → Kind → List ℕ → Content → ℕ → Answer (List ℕ)
encode_answer_at most k shape c room =
    let stored = stored_form k (volume shape) c in
    unless (kind_test k) 1
    (unless (shape_test shape) 2
    (unless (array_test k (volume shape) c) 4
    (unless (leb (length c.values) most) 5
    (if_room (leb (length stored) room) stored))))

abbrev pub encoded_at : ℕ → Kind → List ℕ → Content → List ℕ → Outcome ℕ (List ℕ)
encoded_at most k shape c out = list_outcome (encode_answer_at most k shape c (length out)) out

abbrev pub encode_interleaved_answer_at : ℕ → Kind → List ℕ → Content → ℕ → Answer (List ℕ)
encode_interleaved_answer_at most k shape c room =
    let stored = interleaved_form k (volume shape) c in
    unless (interleaved_test k) 1
    (unless (shape_test shape) 2
    (unless (array_test k (volume shape) c) 4
    (unless (leb (length c.values) most) 5
    (if_room (leb (length stored) room) stored))))

abbrev pub interleaved_encoded_at : ℕ → Kind → List ℕ → Content → List ℕ → Outcome ℕ (List ℕ)
interleaved_encoded_at most k shape c out = list_outcome (encode_interleaved_answer_at most k shape c (length out)) out

-- ---- the law

-- the outcome of today is the one before, but where that was 5
abbrev pub Alike : {L B : Type 0} → Outcome L B → Outcome L B → Type 0
Alike before today = (before.answer ≡ refuses 5 → ⊥) → today ≡ before

pub record Longer : Type 0 where
  pub decode : (k : Kind) (shape s : List ℕ) (out : Content) → Alike (decoded_at most_before k shape s out) (decoded k shape s out)
  pub decode_interleaved : (n : ℕ) (s : List ℕ) (out : RaggedContent) → Alike (interleaved_decoded_at most_before n s out) (interleaved_decoded n s out)
  pub encode : (k : Kind) (shape : List ℕ) (c : Content) (out : List ℕ) → Alike (encoded_at most_before k shape c out) (encoded k shape c out)
  pub encode_interleaved : (k : Kind) (shape : List ℕ) (c : Content) (out : List ℕ) → Alike (interleaved_encoded_at most_before k shape c out) (interleaved_encoded k shape c out)
