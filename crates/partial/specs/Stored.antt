-- Redundant by the law cut_read in partial/proofs/Outcomes.antt: ragged values (S4.3) cut where they are stored.
-- What a cut asks of an index that was found: read_found in partial/proofs/Stored.antt.
-- Assumes nothing.
use Rattle.std.specs.Prelude.{ℕ, List, []}
use Rattle.array.specs.declared.kind.IndexWidth.{IndexWidth}
use Rattle.array.specs.Answer.{Answer, unless}
use Rattle.array.specs.Cells.{Value}
use Rattle.array.specs.Content.{RaggedContent, end_to_end, size_test}
use Rattle.array.specs.declared.answer.RaggedLengths.{RaggedLengths}
use Rattle.array.specs.Buffers.{ragged_enough_test, if_room}
use Rattle.stored_index.specs.declared.Index.{Index}
use Rattle.cut_ragged.specs.declared.Source.{Source}
use Rattle.cut_ragged.specs.declared.Source.TheVariants.{Four, Eight}
use Rattle.cut_ragged.specs.Source.{source_values, SourceAsked}

-- how offsets of this width lie
abbrev pub source_of : IndexWidth → Source
source_of IndexWidth.Four = Four
source_of IndexWidth.Eight = Eight

-- the values of the cells js
abbrev pub stored_values : IndexWidth → List ℕ → Index → List ℕ → List Value
stored_values width s i js = source_values (source_of width) i.index i.from [] s js

-- values that are cut: 5 by the last stored offset, whatever they are, and 6 for outputs that are too short for them
abbrev pub cut_answer : ℕ → List Value → RaggedLengths → Answer RaggedContent
cut_answer last vs room = unless (size_test last) 5 (if_room (ragged_enough_test (end_to_end vs) room) (end_to_end vs))

-- n cells whose offsets and bytes are there
abbrev pub StoredAsked : IndexWidth → List ℕ → Index → ℕ → Type 0
StoredAsked width s i n = SourceAsked (source_of width) i.index i.from [] s n
