-- Every answer is a result or a number of the call's list, and a refused call leaves every lent buffer as it was (specs/Demand1).
-- Assumes nothing.
use mathlib.Core.Path.{◌≡◌, refl, subst}
use mathlib.Core.Bool.{Bool, true, false, ◌||◌, false≢true}
use mathlib.Core.List.{List, [], ◌∷◌, ◌++◌}
use Prim.Native.Nat.{ℕ, zero, suc}
use lib.ListN.{take, drop}
use lib.Dec.{eqb}
use Rattle.array.specs.Answer.{Answer, gives, refuses, map_answer}
use Rattle.array.specs.Bytes.{unle}
use Rattle.array.specs.Subset.{Subset}
use Rattle.array.specs.Buffers.{ragged_lengths_of}
use Rattle.array.specs.Refusals.{Rule, InOrder}
use Rattle.array.proofs.Rules.{both, left_of_lem, right_of}
use Rattle.codec.specs.Refusals.{cell_rules}
use Rattle.chunks.specs.Demand1.{listed, Answered}
use Rattle.chunks.proofs.Demand1.{numbered, numbered_append, AnswersIn, answers_in, ragged_answered}
use Rattle.migrate.specs.Live.{LiveTable, Stored, older, newer, chunk_subsets, stored_chunks, chunk_values}
use Rattle.migrate.specs.Calls.{migrate_extract_answer, migrate_extract, Step, none_left, enters, progress_of, lent_of, lent_after, migrate_step_answer, migrate_step}
use Rattle.migrate.specs.Refusals.{stored_rules, read_rules}
use Rattle.migrate.specs.Demand1.{migrate_extract_numbers, migrate_step_numbers, Demand1}
use Rattle.migrate.proofs.Refusals.{live_order, refusals}

-- ---- the numbers of the check: 6 is not among them

abbrev check_numbers : List ℕ
check_numbers = 2 ∷ 3 ∷ 4 ∷ 12 ∷ 7 ∷ 9 ∷ 11 ∷ 8 ∷ 10 ∷ 5 ∷ []

cell_numbered : (n : ℕ) (s : List ℕ) → numbered check_numbers (cell_rules n s) ≡ true
cell_numbered zero s = refl
cell_numbered (suc n) s = cell_numbered n (drop (unle (take 4 s)) (drop 4 s))

stored_numbered : (c : Stored) (n : ℕ) → numbered check_numbers (stored_rules c n) ≡ true
stored_numbered (older s) n = numbered_append check_numbers (cell_rules n (drop 4 s)) _ (cell_numbered n (drop 4 s)) refl
stored_numbered (newer s) n = refl

read_numbered : (bs : List Subset) (cs : List Stored) → numbered check_numbers (read_rules bs cs) ≡ true
read_numbered [] cs = refl
read_numbered (b ∷ bs) [] = refl
read_numbered (b ∷ bs) (c ∷ cs) = numbered_append check_numbers (stored_rules c _) _ (stored_numbered c _) (read_numbered bs cs)

pub never_six : (t : LiveTable) → chunk_values true t ≡ refuses 6 → ⊥
never_six t e =
    false≢true
    (subst (AnswersIn check_numbers) e
    (answers_in check_numbers (live_order {Asked = Unit {0}} {asked = true} (λ u. refl) (λ q. tt) t) (read_numbered (chunk_subsets t) (stored_chunks t))))

-- ---- and with 6

listed_before : (ns ms : List ℕ) (k : ℕ) → listed ns k ≡ true → listed (ns ++ ms) k ≡ true
listed_before [] ms k e = absurd (false≢true e)
listed_before (n ∷ ns) ms k e = go (eqb k n) (listed_before ns ms k) e
  where
    go : (b : Bool) → (listed ns k ≡ true → listed (ns ++ ms) k ≡ true) → b || listed ns k ≡ true → b || listed (ns ++ ms) k ≡ true
    go true h e = refl
    go false h e = h e

wider : (rs : List Rule) → numbered check_numbers rs ≡ true → numbered migrate_step_numbers rs ≡ true
wider [] e = refl
wider (r ∷ rs) e =
    both (listed_before check_numbers (6 ∷ []) r.0 (left_of_lem (listed check_numbers r.0) (numbered check_numbers rs) e))
    (wider rs (right_of (listed check_numbers r.0) (numbered check_numbers rs) e))

all_numbered : (t : LiveTable) → numbered migrate_step_numbers (read_rules (chunk_subsets t) (stored_chunks t)) ≡ true
all_numbered t = wider (read_rules (chunk_subsets t) (stored_chunks t)) (read_numbered (chunk_subsets t) (stored_chunks t))

-- ---- the demand

step_answered : {rs : List Rule} (a : Answer Step) (t : LiveTable) → InOrder rs (map_answer (progress_of t.moved) a) → numbered migrate_step_numbers rs ≡ true
    → Answered migrate_step_numbers (lent_of t) (record { answer = map_answer (progress_of t.moved) a; buffers = lent_after a t })
step_answered (gives none_left) t h n = tt
step_answered (gives (enters s)) t h n = tt
step_answered (refuses k) t h n = (answers_in migrate_step_numbers h n, refl)

pub demand1 : Demand1
unfolding migrate_extract migrate_step
demand1 = record {
  extract_live = λ t ns out. ragged_answered migrate_extract_numbers (migrate_extract_answer t ns (ragged_lengths_of out)) out (refusals.extract t ns out)
      (numbered_append migrate_extract_numbers (read_rules (chunk_subsets t) (stored_chunks t)) _ (all_numbered t) refl);
  step_live = λ t. step_answered (migrate_step_answer t) t (refusals.step t)
      (numbered_append migrate_step_numbers (read_rules (chunk_subsets t) (stored_chunks t)) _ (all_numbered t) refl);
}
