-- docs/SPEC.md, S6.15: what an exported call hands to its C caller: a status, the lengths, and the buffers.
-- The status is 0 for success, else the refusal number; the lengths are written on success only, in the order of S6.14.
-- Assumes nothing.
use Rattle.std.specs.Prelude.{ℕ, List, [], set}
use Rattle.array.specs.Answer.{Answer, gives, refuses, Outcome}
use Rattle.array.specs.Kind.{Form, fixed, ragged, Place}
use Rattle.array.specs.Content.{Content, RaggedContent}
use Rattle.array.specs.declared.answer.Lengths.{Lengths}
use Rattle.array.specs.declared.answer.RaggedLengths.{RaggedLengths}
use Rattle.migrate.specs.Calls.{Progress, nothing, entered, Lent}
use Rattle.table.specs.Table.{Table}
use Rattle.table.specs.declared.answer.TableLengths.{TableLengths}
use Rattle.table.specs.declared.answer.Preview.{Preview}

pub record Exported (B : Type 0) : Type 0 where
  pub status : ℕ
  pub lengths : List ℕ
  pub buffers : B

abbrev pub status_of : {L : Type 0} → Answer L → ℕ
status_of (gives n) = 0
status_of (refuses k) = k

abbrev pub one_length : Answer ℕ → List ℕ → List ℕ
one_length (gives n) old = set old 0 n
one_length (refuses k) old = old

abbrev pub two_lengths : Answer RaggedLengths → List ℕ → List ℕ
two_lengths (gives n) old = set (set old 0 n.values) 1 n.offsets
two_lengths (refuses k) old = old

abbrev pub three_lengths : Answer Lengths → List ℕ → List ℕ
three_lengths (gives n) old = set (set (set old 0 n.masks) 1 n.values) 2 n.offsets
three_lengths (refuses k) old = old

abbrev pub four_lengths : Answer TableLengths → List ℕ → List ℕ
four_lengths (gives n) old = set (set (set (set old 0 n.masks) 1 n.starts) 2 n.lengths) 3 n.store
four_lengths (refuses k) old = old

-- a preview names the sum of lengths and how many cells are not packed
abbrev pub preview_lengths : Answer Preview → List ℕ → List ℕ
preview_lengths (gives p) old = set (set old 0 p.total) 1 p.unpacked
preview_lengths (refuses k) old = old

-- a setting names nothing
abbrev pub no_length : Answer (Unit {0}) → List ℕ → List ℕ
no_length a old = old

-- an outcome handed over, its lengths put as `put` says
abbrev pub export_by : {L B : Type 0} → (Answer L → List ℕ → List ℕ) → Outcome L B → List ℕ → Exported B
export_by put o old = record { status = status_of o.answer; lengths = put o.answer old; buffers = o.buffers }

abbrev pub export_one : Outcome ℕ (List ℕ) → List ℕ → Exported (List ℕ)
export_one o old = export_by one_length o old

abbrev pub export_two : Outcome RaggedLengths RaggedContent → List ℕ → Exported RaggedContent
export_two o old = export_by two_lengths o old

abbrev pub export_three : Outcome Lengths Content → List ℕ → Exported Content
export_three o old = export_by three_lengths o old

abbrev pub export_four : Outcome TableLengths Table → List ℕ → Exported Table
export_four o old = export_by four_lengths o old

-- a packing call names how many it moved
abbrev pub export_moved : Outcome ℕ Table → List ℕ → Exported Table
export_moved o old = export_by one_length o old

abbrev pub export_preview : Outcome Preview (Unit {0}) → List ℕ → Exported (Unit {0})
export_preview o old = export_by preview_lengths o old

-- a step of a live table names the bytes that it entered, none where no chunk was old, and how many chunks are moved then
abbrev pub step_lengths : ℕ → Answer Progress → List ℕ → List ℕ
step_lengths moved (gives nothing) old = set (set old 0 0) 1 moved
step_lengths moved (gives (entered bytes now)) old = set (set old 0 bytes) 1 now
step_lengths moved (refuses k) old = old

abbrev pub export_step : ℕ → Outcome Progress Lent → List ℕ → Exported Lent
export_step moved o old = export_by (step_lengths moved) o old

abbrev pub export_set : Outcome (Unit {0}) Table → Exported Table
export_set o = export_by no_length o []

-- what came as numbers, and what is done with it; numbers that are refused leave the buffers as they were
abbrev pub with_given : {K L B : Type 0} → Answer K → B → (K → Outcome L B) → Outcome L B
with_given (gives k) old f = f k
with_given (refuses e) old f = record { answer = refuses e; buffers = old }

-- of a ragged form its index width and place; numbered_index gives no other
abbrev pub by_index : {L B : Type 0} → B → (ℕ → Place → Outcome L B) → Form → Outcome L B
by_index old f (ragged w p) = f w p
by_index old f (fixed k o) = record { answer = refuses 1; buffers = old }

-- what was handed out, as the left side of a promise
abbrev pub handed : {B : Type 0} → ℕ → List ℕ → B → Exported B
handed status lengths buffers = record { status = status; lengths = lengths; buffers = buffers }
