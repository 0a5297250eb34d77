-- Demand 1 holds: a refusal has the number of one of its call's rules (Refusals), each such number stands in the call's list, and what
-- refuses keeps the buffers.
-- Assumes nothing.
use mathlib.Core.Path.{◌≡◌, refl}
use mathlib.Core.Bool.{Bool, true, ◌&&◌}
use mathlib.Core.List.{List, [], ◌∷◌, ◌++◌}
use Prim.Native.Nat.{ℕ, zero, suc}
use lib.ListN.{length, take, drop}
use Rattle.array.specs.Answer.{Answer, gives, refuses, map_answer}
use Rattle.array.specs.Bytes.{unle}
use Rattle.array.specs.Kind.{Kind, Form, fixed, ragged, Masks, as_bytes, as_bits}
use Rattle.array.specs.Shape.{volume}
use Rattle.array.specs.Subset.{Subset, lengths, subsets_of}
use Rattle.array.specs.Content.{Content, RaggedContent}
use Rattle.array.specs.Buffers.{lengths_of, ragged_lengths_of, list_outcome, ragged_outcome, content_outcome}
use Rattle.array.specs.Calls.{reverse_answer, bytes_reversed, endianness_reversed, cells_answer, subset_cells}
use Rattle.array.specs.Refusals.{Rule, InOrder, success, broken, kept}
use Rattle.array.proofs.Refusals as array
use Rattle.array.proofs.Rules.{both, left_of_lem, right_of}
use Rattle.codec.specs.Mask.{mask_form}
use Rattle.codec.specs.Frame.{count_set}
use Rattle.codec.specs.Calls.{encode_answer, encoded, decode_answer, decoded, interleaved_answer, interleaved_decoded, encode_interleaved_answer, interleaved_encoded}
use Rattle.codec.specs.Refusals.{mask_rules, content_rules, frame_rules, cell_rules, older_rules}
use Rattle.codec.proofs.Refusals as codec
use Rattle.load.specs.Calls.{generate_answer, generated}
use Rattle.load.proofs.Refusals as load
use Rattle.arrange.specs.Calls.{arrangement_answer, arranged}
use Rattle.arrange.proofs.Refusals as arrange
use Rattle.table.specs.Table.{Table}
use Rattle.table.specs.Calls.{table_after, in_place, table_lengths, make_answer, made, read_answer, read_out, set_answer, cell_set, previewed, answered, pack_answer, cells_packed}
use Rattle.table.specs.Lying.{moved_cells}
use Rattle.table.proofs.Refusals as table
use Rattle.rights.specs.Calls.{guest_answer, guest_read, edit_answer, guest_edit}
use Rattle.rights.proofs.Refusals as rights
use Rattle.chunks.specs.Chunks.{later_chunks}
use Rattle.chunks.specs.Calls.{extract_answer, extracted, merge_answer, merged, partial_answer, partially_decoded}
use Rattle.chunks.specs.Refusals.{chunk_rules}
use Rattle.chunks.specs.Demand1.{encode_numbers, decode_numbers, interleaved_numbers, encode_interleaved_numbers, extract_numbers, merge_numbers, partial_numbers}
use Rattle.chunks.specs.Demand1.{reverse_numbers, subset_numbers, generate_numbers, arrangement_numbers, make_table_numbers, read_table_numbers}
use Rattle.chunks.specs.Demand1.{set_cell_numbers, pack_cells_numbers, guest_read_numbers, guest_edit_numbers}
use Rattle.chunks.specs.Demand1.{listed, Answered, Demand1}
use Rattle.chunks.proofs.Refusals as chunks

-- ---- the numbers of rules stand in the list

abbrev pub numbered : List ℕ → List Rule → Bool
numbered ns [] = true
numbered ns (r ∷ rs) = listed ns r.0 && numbered ns rs

pub numbered_append : (ns : List ℕ) (rs ss : List Rule) → numbered ns rs ≡ true → numbered ns ss ≡ true → numbered ns (rs ++ ss) ≡ true
numbered_append ns [] ss p q = q
numbered_append ns (r ∷ rs) ss p q =
    both (left_of_lem (listed ns r.0) (numbered ns rs) p) (numbered_append ns rs ss (right_of (listed ns r.0) (numbered ns rs) p) q)

content_numbered : (c n : ℕ) (rules : ℕ → List Rule) → ((m : ℕ) → numbered decode_numbers (rules m) ≡ true) → numbered decode_numbers (content_rules c n rules) ≡ true
content_numbered c zero rules h = refl
content_numbered c (suc n) rules h = h (suc n)

mask_numbered : (x : Masks) (mask : List ℕ) (n : ℕ) → numbered decode_numbers (mask_rules x mask n) ≡ true
mask_numbered as_bytes mask n = refl
mask_numbered as_bits mask n = refl

frame_numbered : (x : Masks) (f : Form) (d : ℕ) (s : List ℕ) (n : ℕ) → numbered decode_numbers (frame_rules x f d s n) ≡ true
frame_numbered x (fixed k o) zero s n = refl
frame_numbered x (ragged w p) zero s n = refl
frame_numbered x f (suc d) s n =
    let m : ℕ = unle (take 8 s) in
    let mask : List ℕ = take m (drop 16 s) in
    let content : List ℕ = drop m (drop 16 s) in
    numbered_append decode_numbers (mask_rules x mask n) _ (mask_numbered x mask n)
    (content_numbered _ (count_set ((mask_form x).said mask n)) (frame_rules x f d content) (frame_numbered x f d content))

cell_numbered : (n : ℕ) (s : List ℕ) → numbered interleaved_numbers (cell_rules n s) ≡ true
cell_numbered zero s = refl
cell_numbered (suc n) s = cell_numbered n (drop (unle (take 4 s)) (drop 4 s))

chunk_numbered : (k : Kind) (bs : List Subset) (c : Content) → numbered merge_numbers (chunk_rules k bs c) ≡ true
chunk_numbered k [] c = refl
chunk_numbered k (b ∷ bs) c = chunk_numbered k bs (later_chunks k (volume (lengths b)) c)

-- ---- an answer that goes by such rules, and the buffers that each form of an outcome leaves

abbrev pub AnswersIn : {A : Type 0} → List ℕ → Answer A → Type 0
AnswersIn ns (gives x) = Unit {0}
AnswersIn ns (refuses k) = listed ns k ≡ true

pub answers_in : {A : Type 0} {rs : List Rule} {a : Answer A} (ns : List ℕ) → InOrder rs a → numbered ns rs ≡ true → AnswersIn ns a
answers_in ns success n = tt
answers_in ns (broken {k} {P} {rs} no-P) n = left_of_lem (listed ns k) (numbered ns rs) n
answers_in ns (kept {k} {P} {rs} p h) n = answers_in ns h (right_of (listed ns k) (numbered ns rs) n)

module _ {rs : List Rule} (ns : List ℕ) where
  list_answered : (a : Answer (List ℕ)) (old : List ℕ) → InOrder rs (list_outcome a old).answer → numbered ns rs ≡ true → Answered ns old (list_outcome a old)
  list_answered (gives s) old h n = tt
  list_answered (refuses k) old h n = (answers_in ns h n, refl)

  pub ragged_answered : (a : Answer RaggedContent) (old : RaggedContent) → InOrder rs (ragged_outcome a old).answer → numbered ns rs ≡ true → Answered ns old (ragged_outcome a old)
  ragged_answered (gives c) old h n = tt
  ragged_answered (refuses k) old h n = (answers_in ns h n, refl)

  content_answered : (a : Answer Content) (old : Content) → InOrder rs (content_outcome a old).answer → numbered ns rs ≡ true → Answered ns old (content_outcome a old)
  content_answered (gives c) old h n = tt
  content_answered (refuses k) old h n = (answers_in ns h n, refl)

  reverse-answered : (a : Answer ℕ) (k : ℕ) (s : List ℕ) → InOrder rs a → numbered ns rs ≡ true → Answered ns s (record { answer = a; buffers = bytes_reversed k a s })
  reverse-answered (gives m) k s h n = tt
  reverse-answered (refuses j) k s h n = (answers_in ns h n, refl)

  table-answered : (a : Answer Table) (old : Table) → InOrder rs (map_answer table_lengths a) → numbered ns rs ≡ true
      → Answered ns old (record { answer = map_answer table_lengths a; buffers = table_after a old })
  table-answered (gives t) old h n = tt
  table-answered (refuses k) old h n = (answers_in ns h n, refl)

  place_answered : {L : Type 0} (f : Table → L) (a : Answer Table) (old : Table) → InOrder rs (map_answer f a) → numbered ns rs ≡ true
      → Answered ns old (record { answer = map_answer f a; buffers = in_place a old })
  place_answered f (gives t) old h n = tt
  place_answered f (refuses k) old h n = (answers_in ns h n, refl)

  answer_answered : {L : Type 0} (a : Answer L) → InOrder rs a → numbered ns rs ≡ true → Answered ns tt (answered a)
  answer_answered (gives l) h n = tt
  answer_answered (refuses k) h n = (answers_in ns h n, refl)

-- ---- the demand

pub demand1 : Demand1
unfolding encoded decoded interleaved_decoded interleaved_encoded extracted merged partially_decoded endianness_reversed subset_cells generated
    arranged made read_out cell_set cells_packed guest_read guest_edit
demand1 = record {
  encode = λ k shape c out. list_answered encode_numbers (encode_answer k shape c (length out)) out ((codec.refusals).encode k shape c out) refl;
  decode = λ k shape s out. content_answered decode_numbers (decode_answer k shape s (lengths_of out)) out ((codec.refusals).decode k shape s out)
      (numbered_append decode_numbers (frame_rules k.masks k.form k.depth s (volume shape)) _ (frame_numbered k.masks k.form k.depth s (volume shape)) refl);
  decode_interleaved = λ n s out. ragged_answered interleaved_numbers (interleaved_answer n s (ragged_lengths_of out)) out ((codec.refusals).decode_interleaved n s out)
      (numbered_append interleaved_numbers (older_rules n s) _ (numbered_append interleaved_numbers (cell_rules n (drop 4 s)) _ (cell_numbered n (drop 4 s)) refl) refl);
  encode_interleaved = λ k shape c out. list_answered encode_interleaved_numbers (encode_interleaved_answer k shape c (length out)) out ((codec.refusals).encode_interleaved k shape c out) refl;
  extract = λ k shape ns c out. content_answered extract_numbers (extract_answer k shape ns c (lengths_of out)) out ((chunks.refusals).extract k shape ns c out) refl;
  merge = λ k shape ns c out. content_answered merge_numbers (merge_answer k shape ns c (lengths_of out)) out ((chunks.refusals).merge k shape ns c out)
      (numbered_append merge_numbers (chunk_rules k (subsets_of (length shape) ns) c) _ (chunk_numbered k (subsets_of (length shape) ns) c) refl);
  partial_decode = λ w p shape ns s out. ragged_answered partial_numbers (partial_answer w p shape ns s (ragged_lengths_of out)) out ((chunks.refusals).partial_decode w p shape ns s out) refl;
  reverse_endianness = λ k s. reverse-answered reverse_numbers (reverse_answer k s) k s ((array.refusals).reverse_endianness k s) refl;
  subset_cells_call = λ shape ns out. list_answered subset_numbers (cells_answer shape ns (length out)) out ((array.refusals).subset_cells_call shape ns out) refl;
  generate = λ k shape s out. content_answered generate_numbers (generate_answer k shape s (lengths_of out)) out ((load.refusals).generate k shape s out) refl;
  small_arrangement = λ d n k out. content_answered arrangement_numbers (arrangement_answer d n k (lengths_of out)) out ((arrange.refusals).arrange d n k out) refl;
  make_table = λ k n c out. table-answered make_table_numbers (make_answer k n c out) out ((table.refusals).make k n c out) refl;
  read_table = λ k n t out. content_answered read_table_numbers (read_answer k n t (lengths_of out)) out ((table.refusals).read k n t out) refl;
  set_cell = λ k n t c ms v. place_answered set_cell_numbers (λ u. tt) (set_answer k n t c ms v) t ((table.refusals).set k n t c ms v) refl;
  preview_cell = λ k n t c ms v. answer_answered set_cell_numbers (previewed k n t c ms v) ((table.refusals).preview k n t c ms v) refl;
  pack_cells = λ k n t most. place_answered pack_cells_numbers (λ u. length (moved_cells most n t)) (pack_answer k n t most) t ((table.refusals).pack k n t most) refl;
  guest_read_call = λ k shape seen c out. content_answered guest_read_numbers (guest_answer k shape seen c (lengths_of out)) out ((rights.refusals).guest_read_call k shape seen c out) refl;
  guest_edit_call = λ k n seen t c ms v. place_answered guest_edit_numbers (λ u. tt) (edit_answer k n seen t c ms v) t ((rights.refusals).guest_edit_call k n seen t c ms v) refl;
}
