-- docs/SPEC.md, S16.5, S16.6: the calls on live tables: what each answers, with the refusals in order, and what it leaves in the lent buffers.
-- Assumes nothing.
use Rattle.std.specs.Prelude.{ℕ, suc, ◌+◌, true, List, [], length, get_or, set, leb, eqb}
use Rattle.array.specs.Answer.{Answer, gives, refuses, unless, and_then, map_answer, Outcome}
use Rattle.array.specs.Lists.{joined, pick}
use Rattle.array.specs.Shape.{volume}
use Rattle.array.specs.Subset.{subset_of, numbers_test, cells_in, cells_of_all}
use Rattle.array.specs.Cells.{Value}
use Rattle.array.specs.Content.{RaggedContent, end_to_end, size_test}
use Rattle.array.specs.declared.answer.RaggedLengths.{RaggedLengths}
use Rattle.array.specs.Buffers.{ragged_lengths_of, ragged_enough_test, ragged_outcome, if_room, over_at}
use Rattle.codec.specs.Values.{put_values}
use Rattle.chunks.specs.Gather.{gather, put_back}
use Rattle.migrate.specs.Live.{LiveTable, new_form, chunk_subsets, chunk_count, moved_end, chunk_values}

-- ---- migrate_extract: the cells of a subset, each from the chunk that holds it

-- vss are the values of each chunk
abbrev pub cut_values : LiveTable → List ℕ → List (List Value) → List Value
cut_values t ns vss =
    gather [] (put_back [] (volume t.shape) (cells_of_all t.shape (chunk_subsets t)) (joined vss)) (cells_in t.shape (subset_of (length t.shape) ns))

-- 5 goes by what is cut, however much the table has
abbrev pub cut_or_refused : LiveTable → List ℕ → RaggedLengths → List (List Value) → Answer RaggedContent
cut_or_refused t ns room vss =
    let cut = end_to_end (cut_values t ns vss) in
    unless (size_test (length cut.values)) 5 (if_room (ragged_enough_test cut room) cut)

unfoldable pub migrate_extract_answer : LiveTable → List ℕ → RaggedLengths → Answer RaggedContent
unfolding chunk_values
migrate_extract_answer t ns room = and_then (chunk_values (numbers_test t.shape ns) t) (cut_or_refused t ns room)

unfoldable pub migrate_extract : LiveTable → List ℕ → RaggedContent → Outcome RaggedLengths RaggedContent
unfolding migrate_extract_answer
migrate_extract t ns out = ragged_outcome (migrate_extract_answer t ns (ragged_lengths_of out)) out

-- ---- migrate_step: the lowest-numbered chunk still old is written anew, behind those moved before

-- none is left, or the string to enter
pub data Step : Type 0 where
  none_left : Step
  enters : List ℕ → Step

-- the new string of the chunk
abbrev pub fresh : LiveTable → List (List Value) → List ℕ
fresh t vss = put_values new_form (get_or vss t.moved [])

abbrev pub step_or_refused : LiveTable → List (List Value) → Answer Step
step_or_refused t vss =
    pick (eqb t.moved (chunk_count t)) (gives none_left)
    (if_room (leb (moved_end t + length (fresh t vss)) (length t.area)) (enters (fresh t vss)))

unfoldable pub migrate_step_answer : LiveTable → Answer Step
unfolding chunk_values put_values
migrate_step_answer t = and_then (chunk_values true t) (step_or_refused t)

-- success names the bytes entered and the number moved then, or says that none is left
pub data Progress : Type 0 where
  nothing : Progress
  entered : ℕ → ℕ → Progress

abbrev pub progress_of : ℕ → Step → Progress
progress_of m none_left = nothing
progress_of m (enters s) = entered (length s) (suc m)

-- what is lent in place
pub record Lent : Type 0 where
  pub moved_lengths : List ℕ
  pub area : List ℕ

abbrev pub lent_of : LiveTable → Lent
lent_of t = record { moved_lengths = t.moved_lengths; area = t.area }

abbrev pub lent_after : Answer Step → LiveTable → Lent
lent_after (gives none_left) t = lent_of t
lent_after (gives (enters s)) t = record { moved_lengths = set t.moved_lengths t.moved (length s); area = over_at (moved_end t) s t.area }
lent_after (refuses k) t = lent_of t

unfoldable pub migrate_step : LiveTable → Outcome Progress Lent
unfolding migrate_step_answer
migrate_step t = record { answer = map_answer (progress_of t.moved) (migrate_step_answer t); buffers = lent_after (migrate_step_answer t) t }
