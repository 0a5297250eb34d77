-- docs/SPEC.md, S6.7: partial_decode is reading followed by a cut, as one claim over the three calls and the buffers lent to them.
-- decode of all cells, then extract of the subset from what was read. partial_decode tests the subset before any stored byte, so that
-- its 3 comes first; else answer and every lent byte are the same at every input, 6 of the last outputs included.
-- Assumes nothing.
use Rattle.std.specs.Prelude.{ℕ, ◌≡◌, List}
use Rattle.array.specs.Answer.{Answer, gives, refuses, map_answer, Outcome}
use Rattle.array.specs.Kind.{Kind, Place, ragged, byte_kind, FormOk}
use Rattle.array.specs.Shape.{ShapeOk}
use Rattle.array.specs.Subset.{NumbersOk}
use Rattle.array.specs.Content.{Content, RaggedContent}
use Rattle.array.specs.declared.answer.Lengths.{Lengths}
use Rattle.array.specs.declared.answer.RaggedLengths.{RaggedLengths}
use Rattle.array.specs.Buffers.{Taken, taken}
use Rattle.codec.specs.Calls.{decoded}
use Rattle.chunks.specs.Calls.{extracted, partially_decoded}

-- ---- the outputs without masks

abbrev pub ragged_of : Content → RaggedContent
ragged_of c = record { values = c.values; offsets = c.offsets }

abbrev pub ragged_lengths : Lengths → RaggedLengths
ragged_lengths n = record { values = n.values; offsets = n.offsets }

abbrev pub without_masks : Outcome Lengths Content → Outcome RaggedLengths RaggedContent
without_masks o = record { answer = map_answer ragged_lengths o.answer; buffers = ragged_of o.buffers }

-- ---- decode, then extract

-- ragged values of depth 0
abbrev pub flat : ℕ → Place → Kind
flat w p = byte_kind 0 (ragged w p)

-- a refusal of the first call stays, and the second is not made: its outputs are as they were
abbrev pub next_call : Answer Taken → (Content → Outcome Lengths Content) → Content → Outcome Lengths Content
next_call (gives t) call out = call t.content
next_call (refuses k) call out = record { answer = refuses k; buffers = out }

module _ (w : ℕ) (p : Place) (shape s : List ℕ) where
  -- an output that is long enough for what is read: 6 is not decode's answer
  abbrev pub LongEnough : Content → Type 0
  LongEnough read = (decoded (flat w p) shape s read).answer ≡ refuses 6 → ⊥

  abbrev pub read_then_cut : List ℕ → Content → Content → Outcome Lengths Content
  read_then_cut ns read out = next_call (taken (decoded (flat w p) shape s read)) (λ c. extracted (flat w p) shape ns c out) out

  pub record AsReadThenCut (ns : List ℕ) (read out : Content) : Type 0 where
    pub subset_first : ShapeOk shape → (NumbersOk shape ns → ⊥) → partially_decoded w p shape ns s (ragged_of out) ≡ record { answer = refuses 3; buffers = ragged_of out }
    pub else_equal : (ShapeOk shape → NumbersOk shape ns) → partially_decoded w p shape ns s (ragged_of out) ≡ without_masks (read_then_cut ns read out)

-- ---- the law

abbrev pub PartialDecode : Type 0
PartialDecode =
    (w : ℕ) (p : Place) → FormOk (ragged w p) → (shape s : List ℕ) (read : Content) → LongEnough w p shape s read
    → (ns : List ℕ) (out : Content) → AsReadThenCut w p shape s ns read out
