-- Each refusal of the calls on live tables exactly when it is due.
-- Assumes nothing.
use mathlib.Core.Path.{◌≡◌, refl}
use mathlib.Core.Bool.{Bool, true, false}
use mathlib.Core.List.{List, [], ◌∷◌}
use Prim.Native.Nat.{ℕ, ◌+◌, ◌<◌, ◌≤◌}
use native.Mathlib.Omega.{arith}
use lib.ListN.{length}
use lib.Dec.{leb, eqb}
use lib.Arith.{lt_of_le-ne}
use borrow.Author.Tests.{le-leb, leb-true, eqb-true, eqb-false}
use Rattle.array.specs.Answer.{gives, unless}
use Rattle.array.specs.Lists.{pick}
use Rattle.array.specs.Shape.{volume}
use Rattle.array.specs.Subset.{Subset, many_test, numbers_test, cells_of_all}
use Rattle.array.specs.Cells.{Value}
use Rattle.array.specs.Content.{end_to_end}
use Rattle.array.specs.Buffers.{ragged_lengths_of}
use Rattle.array.specs.Refusals.{InOrder, Given, success, kept}
use Rattle.array.proofs.Refusals.{stage, stage_given, and_then_lem, named}
use Rattle.array.proofs.Rules.{both, left_of_lem, right_of}
use Rattle.array.proofs.Rules.{shape_test_lem, shape_ok, many_test_lem, many_ok, numbers_test_lem, numbers_ok, size_test_lem, size_ok, ragged_enough_test_lem, ragged_enough_ok}
use Rattle.codec.proofs.Refusals.{value_order, older_order}
use Rattle.chunks.proofs.Gather.{once_test_lem, once_ok}
use Rattle.migrate.specs.Live.{LiveTable, Stored, older, newer, new_form, read_stored, read_chunks, chunk_subsets, chunk_count, moved_end, stored_chunks, chunk_values}
use Rattle.migrate.specs.Calls.{cut_values, migrate_extract_answer, migrate_extract, none_left, enters, fresh, step_or_refused, progress_of, migrate_step_answer, migrate_step}
use Rattle.migrate.specs.Refusals.{stored_rules, read_rules, live_rules, Refusals}
use Rattle.migrate.proofs.Live.{lists_test_lem, lists_ok, Sound, sound}

stored_order : (c : Stored) (n : ℕ) → InOrder (stored_rules c n) (read_stored c n)
unfolding read_stored
stored_order (older s) n = older_order n s
stored_order (newer s) n = value_order new_form s n

read_order : (bs : List Subset) (cs : List Stored) → InOrder (read_rules bs cs) (read_chunks bs cs)
unfolding read_chunks
read_order [] cs = success
read_order (b ∷ bs) [] = success
read_order (b ∷ bs) (c ∷ cs) = and_then_lem (stored_order c _) (λ vs e. named (λ vss. vs ∷ vss) (read_order bs cs))

pub live_order : {Asked : Type 0} {asked : Bool} → (Asked → asked ≡ true) → (asked ≡ true → Asked) → (t : LiveTable) → InOrder (live_rules Asked t) (chunk_values asked t)
unfolding chunk_values
live_order {Asked} {asked} test ok t =
    let all : List ℕ = cells_of_all t.shape (chunk_subsets t) in
    stage 2 (shape_test_lem t.shape) (shape_ok t.shape)
    (stage 3 (λ p. both (many_test_lem t.shape t.subsets p.0) (test p.1))
    (λ e. (many_ok t.shape t.subsets (left_of_lem (many_test t.shape t.subsets) asked e), ok (right_of (many_test t.shape t.subsets) asked e)))
    (stage 4 (lists_test_lem t) (lists_ok t)
    (stage 12 (once_test_lem (volume t.shape) all) (once_ok (volume t.shape) all)
    (read_order (chunk_subsets t) (stored_chunks t)))))

-- ---- 6 of a step, where a chunk is left

module _ (t : LiveTable) (vss : List (List Value)) (s : Sound t vss) where
  abbrev Fits : List (List Value) → Type 0
  Fits us = t.moved < chunk_count t → moved_end t + length (fresh t us) ≤ length t.area

  abbrev long_enough : Bool
  long_enough = leb (moved_end t + length (fresh t vss)) (length t.area)

  room_order : InOrder ((6, Given (read_chunks (chunk_subsets t) (stored_chunks t)) Fits) ∷ []) (step_or_refused t vss)
  room_order = go (eqb t.moved (chunk_count t)) refl
    where
      go : (b : Bool) → eqb t.moved (chunk_count t) ≡ b
          → InOrder ((6, Given (read_chunks (chunk_subsets t) (stored_chunks t)) Fits) ∷ []) (pick b (gives none_left) (unless long_enough 6 (gives (enters (fresh t vss)))))
      go true e = kept (record { keeps = λ us q l. absurd (omega (arith, eqb-true t.moved (chunk_count t) e)) }) success
      go false e =
          stage_given 6 s.read (λ h. le-leb (moved_end t + length (fresh t vss)) (length t.area) (h (lt_of_le-ne s.lists.few (eqb-false t.moved (chunk_count t) e))))
          (λ q l. leb-true (moved_end t + length (fresh t vss)) (length t.area) q) success

-- ---- the calls

pub refusals : Refusals
unfolding migrate_extract migrate_extract_answer migrate_step migrate_step_answer
refusals = record {
  extract = λ t ns out. named ragged_lengths_of
      (and_then_lem (live_order (numbers_test_lem t.shape ns) (numbers_ok t.shape ns) t) (λ vss e.
      let r = (sound t (numbers_test t.shape ns) e).read in
      let cut = end_to_end (cut_values t ns vss) in
      stage_given 5 r (size_test_lem (length cut.values)) (size_ok (length cut.values))
      (stage_given 6 r (ragged_enough_test_lem cut (ragged_lengths_of out)) (ragged_enough_ok cut (ragged_lengths_of out)) success)));
  step = λ t. named (progress_of t.moved)
      (and_then_lem (live_order {asked = true} (λ u. refl) (λ e. tt) t) (λ vss e. room_order t vss (sound t true e)));
}
