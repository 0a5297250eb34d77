-- docs/SPEC.md, S7.1 to S7.3, S16.4 to S16.6: the rules of the calls on live tables, each with its refusal, in their order.
-- Assumes nothing.
use Rattle.std.specs.Prelude.{ℕ, ◌+◌, ◌≤◌, ◌<◌, List, [], ◌∷◌, ◌++◌, length}
use Rattle.array.specs.Limits.{most_bytes}
use Rattle.array.specs.Shape.{volume, ShapeOk}
use Rattle.array.specs.Subset.{Subset, lengths, NumbersOk, ManyOk, cells_of_all}
use Rattle.array.specs.Content.{RaggedContent, end_to_end}
use Rattle.array.specs.Buffers.{ragged_lengths_of, RaggedEnough}
use Rattle.array.specs.Refusals.{Rule, InOrder, Given}
use Rattle.codec.specs.Refusals.{value_rules, older_rules}
use Rattle.chunks.specs.Gather.{Once}
use Rattle.migrate.specs.Live.{LiveTable, Stored, older, newer, new_form, read_chunks, chunk_subsets, chunk_count, moved_end, stored_chunks, ListsOk}
use Rattle.migrate.specs.Calls.{cut_values, migrate_extract, fresh, migrate_step}

-- of a chunk of n cells, by its own reader
abbrev pub stored_rules : Stored → ℕ → List Rule
stored_rules (older s) n = older_rules n s
stored_rules (newer s) n = value_rules new_form s n

abbrev pub read_rules : List Subset → List Stored → List Rule
read_rules [] cs = []
read_rules (b ∷ bs) [] = []
read_rules (b ∷ bs) (c ∷ cs) = stored_rules c (volume (lengths b)) ++ read_rules bs cs

-- of the table; `Asked` is the rule for the subset that a cut asks for
abbrev pub live_rules : Type 0 → LiveTable → List Rule
live_rules Asked t =
    (2, ShapeOk t.shape) ∷ (3, ManyOk t.shape t.subsets × Asked) ∷ (4, ListsOk t) ∷ (12, Once (volume t.shape) (cells_of_all t.shape (chunk_subsets t)))
    ∷ read_rules (chunk_subsets t) (stored_chunks t)

-- ---- the calls

abbrev pub migrate_extract_rules : LiveTable → List ℕ → RaggedContent → List Rule
migrate_extract_rules t ns out =
    let read = read_chunks (chunk_subsets t) (stored_chunks t) in
    live_rules (NumbersOk t.shape ns) t
    ++ (5, Given read (λ vss. length (end_to_end (cut_values t ns vss)).values ≤ most_bytes))
    ∷ (6, Given read (λ vss. RaggedEnough (end_to_end (cut_values t ns vss)) (ragged_lengths_of out))) ∷ []

-- the area need not hold anything where none is left
abbrev pub migrate_step_rules : LiveTable → List Rule
migrate_step_rules t =
    let read = read_chunks (chunk_subsets t) (stored_chunks t) in
    live_rules (Unit {0}) t ++ (6, Given read (λ vss. t.moved < chunk_count t → moved_end t + length (fresh t vss) ≤ length t.area)) ∷ []

pub record Refusals : Type 1 where
  pub extract : (t : LiveTable) (ns : List ℕ) (out : RaggedContent) → InOrder (migrate_extract_rules t ns out) (migrate_extract t ns out).answer
  pub step : (t : LiveTable) → InOrder (migrate_step_rules t) (migrate_step t).answer
