-- docs/SPEC.md, S7.1 to S7.3, S7.6 to S7.9: each refusal exactly when it is due, for the stored forms.
-- The rules of stored bytes, field by field as they are read, and with them the rules of this layer's four calls.
-- Assumes nothing.
use Rattle.std.specs.Prelude.{ℕ, zero, suc, ◌+◌, ◌*◌, ◌≤◌, ◌≡◌, List, [], ◌∷◌, ◌++◌, map, length, take, drop}
use Rattle.array.specs.Limits.{most_bytes, most_cells}
use Rattle.array.specs.Lists.{joined, pieces, All}
use Rattle.array.specs.Bytes.{unle}
use Rattle.array.specs.Kind.{Kind, KindOk, Place, Form, fixed, ragged, Masks, as_bytes, as_bits}
use Rattle.array.specs.Shape.{volume, ShapeOk}
use Rattle.array.specs.Offsets.{last, Rising}
use Rattle.array.specs.Cells.{Strict}
use Rattle.array.specs.Content.{Content, RaggedContent, end_to_end, values_in, ArrayOk}
use Rattle.array.specs.Buffers.{lengths_of, ragged_lengths_of, Enough, RaggedEnough}
use Rattle.array.specs.Refusals.{Rule, InOrder, Given}
use Rattle.codec.specs.Mask.{mask_form, bits_of}
use Rattle.codec.specs.Frame.{count_set}
use Rattle.codec.specs.Ragged.{part_of, left_of}
use Rattle.codec.specs.Carried.{Carried, FieldsFit}
use Rattle.codec.specs.Interleaved.{interleaved_cells, interleaved_values, InterleavedOk}
use Rattle.codec.specs.Calls.{stored_form, values_left, read_in, encoded, decoded, interleaved_decoded, interleaved_form, interleaved_encoded}

-- ---- stored bytes

-- offsets and data
abbrev pub data_rules : List ℕ → List ℕ → List Rule
data_rules os s = (8, last os ≡ length s) ∷ (10, Rising os) ∷ (5, last os ≤ most_bytes) ∷ []

-- an index of l bytes for n cells, in what the index length leaves
abbrev pub index_rules : ℕ → Place → ℕ → List ℕ → ℕ → List Rule
index_rules w p l s n = (8, (l ≤ length s) × (l ≡ w * suc n)) ∷ data_rules (map unle (pieces w (suc n) (part_of p l s))) (left_of p l s)

abbrev pub ragged_rules : ℕ → Place → List ℕ → ℕ → List Rule
ragged_rules w p s n = (7, 8 ≤ length s) ∷ index_rules w p (unle (part_of p 8 s)) (left_of p 8 s) n

-- n values that no mask stands before
abbrev pub value_rules : Form → List ℕ → ℕ → List Rule
value_rules (fixed k o) s n = (8, length s ≡ n * k) ∷ []
value_rules (ragged w p) s n = ragged_rules w p s n

-- the mask of n cells: of a byte a cell every byte is 00 or 01; of a bit a cell the bits after the last cell are 0
abbrev pub mask_rules : Masks → List ℕ → ℕ → List Rule
mask_rules as_bytes mask n = (14, All Strict mask) ∷ []
mask_rules as_bits mask n = (13, All (λ b. b ≡ 0) (drop n (bits_of mask))) ∷ []

-- content of c bytes for so many cells: with no cell set it is empty
abbrev pub content_rules : ℕ → ℕ → (ℕ → List Rule) → List Rule
content_rules c zero rules = (8, c ≡ 0) ∷ []
content_rules c (suc n) rules = rules (suc n)

-- d levels of frames of n cells, the outermost first, and then the values; x is how masks lie
abbrev pub frame_rules : Masks → Form → (d : ℕ) → List ℕ → ℕ → List Rule
frame_rules x f zero s n = value_rules f s n
frame_rules x f (suc d) s n =
    let m = unle (take 8 s) in
    let c = unle (take 8 (drop 8 s)) in
    let mask = take m (drop 16 s) in
    (7, 16 ≤ length s) ∷ (8, length s ≡ 16 + m + c) ∷ (8, m ≡ (mask_form x).size n)
    ∷ (mask_rules x mask n ++ content_rules c (count_set ((mask_form x).said mask n)) (frame_rules x f d (drop m (drop 16 s))))

-- n cells of the older form
abbrev pub cell_rules : ℕ → List ℕ → List Rule
cell_rules zero s = []
cell_rules (suc n) s =
    let l = unle (take 4 s) in
    (11, 4 ≤ length s) ∷ (11, l ≤ length (drop 4 s)) ∷ cell_rules n (drop l (drop 4 s))

-- the string of n cells
abbrev pub older_rules : ℕ → List ℕ → List Rule
older_rules n s =
    (7, 4 * suc n ≤ length s) ∷ (9, unle (take 4 s) ≡ n)
    ∷ (cell_rules n (drop 4 s) ++ (5, Given (interleaved_cells n (drop 4 s)) (λ vs. length (joined vs) ≤ most_bytes)) ∷ [])

-- ---- the calls

abbrev pub encode_rules : Kind → List ℕ → Content → List ℕ → List Rule
encode_rules k shape c out =
    (1, KindOk k) ∷ (2, ShapeOk shape) ∷ (4, ArrayOk k (volume shape) c) ∷ (5, length c.values ≤ most_bytes)
    ∷ (20, Carried k.form (values_left k (volume shape) c)) ∷ (6, length (stored_form k (volume shape) c) ≤ length out) ∷ []

abbrev pub decode_rules : Kind → List ℕ → List ℕ → Content → List Rule
decode_rules k shape s out =
    (1, KindOk k) ∷ (2, ShapeOk shape)
    ∷ (frame_rules k.masks k.form k.depth s (volume shape) ++ (6, Given (read_in (mask_form k.masks) k.form k.depth (volume shape) s) (λ c. Enough c (lengths_of out))) ∷ [])

abbrev pub interleaved_rules : ℕ → List ℕ → RaggedContent → List Rule
interleaved_rules n s out =
    (2, n ≤ most_cells) ∷ (older_rules n s ++ (6, Given (interleaved_values n s) (λ vs. RaggedEnough (end_to_end vs) (ragged_lengths_of out))) ∷ [])

abbrev pub encode_interleaved_rules : Kind → List ℕ → Content → List ℕ → List Rule
encode_interleaved_rules k shape c out =
    (1, InterleavedOk k) ∷ (2, ShapeOk shape) ∷ (4, ArrayOk k (volume shape) c) ∷ (5, length c.values ≤ most_bytes)
    ∷ (20, FieldsFit (values_in k.form (volume shape) c)) ∷ (6, length (interleaved_form k (volume shape) c) ≤ length out) ∷ []

pub record Refusals : Type 1 where
  pub encode : (k : Kind) (shape : List ℕ) (c : Content) (out : List ℕ) → InOrder (encode_rules k shape c out) (encoded k shape c out).answer
  pub decode : (k : Kind) (shape s : List ℕ) (out : Content) → InOrder (decode_rules k shape s out) (decoded k shape s out).answer
  pub decode_interleaved : (n : ℕ) (s : List ℕ) (out : RaggedContent) → InOrder (interleaved_rules n s out) (interleaved_decoded n s out).answer
  pub encode_interleaved : (k : Kind) (shape : List ℕ) (c : Content) (out : List ℕ) → InOrder (encode_interleaved_rules k shape c out) (interleaved_encoded k shape c out).answer
