-- docs/SPEC.md, S6.10, S6.13: what a call leaves behind, its answer and the lent outputs as they are then. The left side of each contract.
-- Assumes nothing.
use Rattle.std.specs.Prelude.{ℕ, List, Result}
use Rattle.array.specs.declared.refusal.Refusal.{Refusal}
use Rattle.array.specs.Answer.{Outcome}
use Rattle.array.specs.Content.{Content, RaggedContent}
use Rattle.array.specs.declared.answer.Lengths.{Lengths}
use Rattle.array.specs.declared.answer.RaggedLengths.{RaggedLengths}
use Rattle.array.specs.Meaning.{told}

abbrev pub outcome : Result ℕ Refusal → List ℕ → Outcome ℕ (List ℕ)
outcome r out = record { answer = told r; buffers = out }

-- the lent slices as the definitions take them
abbrev pub content_ragged : List ℕ → List ℕ → RaggedContent
content_ragged v o = record { values = v; offsets = o }

abbrev pub outcome_ragged : Result RaggedLengths Refusal → List ℕ → List ℕ → Outcome RaggedLengths RaggedContent
outcome_ragged r v o = record { answer = told r; buffers = content_ragged v o }

abbrev pub content_array : List ℕ → List ℕ → List ℕ → Content
content_array m v o = record { masks = m; values = v; offsets = o }

abbrev pub outcome_array : Result Lengths Refusal → List ℕ → List ℕ → List ℕ → Outcome Lengths Content
outcome_array r m v o = record { answer = told r; buffers = content_array m v o }
