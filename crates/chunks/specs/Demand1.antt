-- docs/SPEC.md, S8.1: demand 1, as one claim over the calls and the buffers lent to them, at every input.
-- The answer is an accepted result, or one refusal whose number stands in that call's list, and then every lent buffer is as it was before.
-- Assumes nothing.
use Rattle.std.specs.Prelude.{ℕ, ◌≡◌, Bool, true, false, ◌||◌, List, [], ◌∷◌, eqb}
use Rattle.array.specs.Answer.{Answer, gives, refuses, Outcome}
use Rattle.array.specs.Kind.{Kind, Place}
use Rattle.array.specs.Cells.{Value}
use Rattle.array.specs.Content.{Content, RaggedContent}
use Rattle.array.specs.Calls.{endianness_reversed, subset_cells}
use Rattle.codec.specs.Calls.{encoded, decoded, interleaved_decoded, interleaved_encoded}
use Rattle.load.specs.Calls.{generated}
use Rattle.arrange.specs.Calls.{arranged}
use Rattle.table.specs.Table.{Table}
use Rattle.table.specs.Calls.{made, read_out, cell_set, previewed, answered, cells_packed}
use Rattle.rights.specs.Calls.{guest_read, guest_edit}
use Rattle.chunks.specs.Calls.{extracted, merged, partially_decoded}

-- ---- the numbers of each call, in the order of their tests

abbrev pub encode_numbers : List ℕ
encode_numbers = 1 ∷ 2 ∷ 4 ∷ 5 ∷ 20 ∷ 6 ∷ []

abbrev pub decode_numbers : List ℕ
decode_numbers = 1 ∷ 2 ∷ 7 ∷ 8 ∷ 13 ∷ 14 ∷ 10 ∷ 5 ∷ 6 ∷ []

abbrev pub interleaved_numbers : List ℕ
interleaved_numbers = 2 ∷ 7 ∷ 9 ∷ 11 ∷ 5 ∷ 6 ∷ []

abbrev pub encode_interleaved_numbers : List ℕ
encode_interleaved_numbers = 1 ∷ 2 ∷ 4 ∷ 5 ∷ 20 ∷ 6 ∷ []

abbrev pub extract_numbers : List ℕ
extract_numbers = 1 ∷ 2 ∷ 3 ∷ 4 ∷ 5 ∷ 6 ∷ []

abbrev pub merge_numbers : List ℕ
merge_numbers = 1 ∷ 2 ∷ 3 ∷ 4 ∷ 5 ∷ 12 ∷ 6 ∷ []

abbrev pub partial_numbers : List ℕ
partial_numbers = 2 ∷ 3 ∷ 7 ∷ 8 ∷ 10 ∷ 5 ∷ 6 ∷ []

abbrev pub reverse_numbers : List ℕ
reverse_numbers = 1 ∷ []

abbrev pub subset_numbers : List ℕ
subset_numbers = 2 ∷ 3 ∷ 6 ∷ []

abbrev pub generate_numbers : List ℕ
generate_numbers = 1 ∷ 2 ∷ 6 ∷ []

abbrev pub arrangement_numbers : List ℕ
arrangement_numbers = 1 ∷ 19 ∷ 6 ∷ []

abbrev pub make_table_numbers : List ℕ
make_table_numbers = 1 ∷ 2 ∷ 4 ∷ 5 ∷ 6 ∷ []

abbrev pub read_table_numbers : List ℕ
read_table_numbers = 1 ∷ 2 ∷ 4 ∷ 5 ∷ 6 ∷ []

-- a setting's, and its preview's
abbrev pub set_cell_numbers : List ℕ
set_cell_numbers = 1 ∷ 2 ∷ 4 ∷ 5 ∷ 15 ∷ 16 ∷ []

abbrev pub pack_cells_numbers : List ℕ
pack_cells_numbers = 1 ∷ 2 ∷ 4 ∷ 5 ∷ []

abbrev pub guest_read_numbers : List ℕ
guest_read_numbers = 1 ∷ 2 ∷ 17 ∷ 4 ∷ 5 ∷ 6 ∷ []

abbrev pub guest_edit_numbers : List ℕ
guest_edit_numbers = 1 ∷ 2 ∷ 17 ∷ 4 ∷ 5 ∷ 15 ∷ 18 ∷ 16 ∷ []

-- ---- the claim

-- whether a number stands in the list
abbrev pub listed : List ℕ → ℕ → Bool
listed [] k = false
listed (n ∷ ns) k = eqb k n || listed ns k

abbrev pub AnsweredBy : {L B : Type 0} → List ℕ → B → Answer L → B → Type 0
AnsweredBy ns before (gives l) after = Unit {0}
AnsweredBy ns before (refuses k) after = (listed ns k ≡ true) × (after ≡ before)

abbrev pub Answered : {L B : Type 0} → List ℕ → B → Outcome L B → Type 0
Answered ns before o = AnsweredBy ns before o.answer o.buffers

pub record Demand1 : Type 0 where
  pub encode : (k : Kind) (shape : List ℕ) (c : Content) (out : List ℕ) → Answered encode_numbers out (encoded k shape c out)
  pub decode : (k : Kind) (shape s : List ℕ) (out : Content) → Answered decode_numbers out (decoded k shape s out)
  pub decode_interleaved : (n : ℕ) (s : List ℕ) (out : RaggedContent) → Answered interleaved_numbers out (interleaved_decoded n s out)
  pub encode_interleaved : (k : Kind) (shape : List ℕ) (c : Content) (out : List ℕ) → Answered encode_interleaved_numbers out (interleaved_encoded k shape c out)
  pub extract : (k : Kind) (shape ns : List ℕ) (c out : Content) → Answered extract_numbers out (extracted k shape ns c out)
  pub merge : (k : Kind) (shape ns : List ℕ) (c out : Content) → Answered merge_numbers out (merged k shape ns c out)
  pub partial_decode : (w : ℕ) (p : Place) (shape ns s : List ℕ) (out : RaggedContent) → Answered partial_numbers out (partially_decoded w p shape ns s out)
  pub reverse_endianness : (k : ℕ) (s : List ℕ) → Answered reverse_numbers s (endianness_reversed k s)
  pub subset_cells_call : (shape ns out : List ℕ) → Answered subset_numbers out (subset_cells shape ns out)
  pub generate : (k : Kind) (shape : List ℕ) (s : ℕ) (out : Content) → Answered generate_numbers out (generated k shape s out)
  pub small_arrangement : (d n k : ℕ) (out : Content) → Answered arrangement_numbers out (arranged d n k out)
  pub make_table : (k : Kind) (n : ℕ) (c : Content) (out : Table) → Answered make_table_numbers out (made k n c out)
  pub read_table : (k : Kind) (n : ℕ) (t : Table) (out : Content) → Answered read_table_numbers out (read_out k n t out)
  pub set_cell : (k : Kind) (n : ℕ) (t : Table) (c : ℕ) (ms : List ℕ) (v : Value) → Answered set_cell_numbers t (cell_set k n t c ms v)
  pub preview_cell : (k : Kind) (n : ℕ) (t : Table) (c : ℕ) (ms : List ℕ) (v : Value) → Answered set_cell_numbers tt (answered (previewed k n t c ms v))
  pub pack_cells : (k : Kind) (n : ℕ) (t : Table) (most : ℕ) → Answered pack_cells_numbers t (cells_packed k n t most)
  pub guest_read_call : (k : Kind) (shape rights : List ℕ) (c out : Content) → Answered guest_read_numbers out (guest_read k shape rights c out)
  pub guest_edit_call : (k : Kind) (n : ℕ) (rights : List ℕ) (t : Table) (c : ℕ) (ms : List ℕ) (v : Value)
      → Answered guest_edit_numbers t (guest_edit k n rights t c ms v)
