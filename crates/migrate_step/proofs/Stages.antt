-- The step: one law for each answer, and what is known of the chunk that is moved.
-- Assumes nothing.
use mathlib.Core.Path.{◌≡◌, refl, sym, ap, ◌∙◌, subst}
use Prim.Native.Nat.{ℕ, suc, ◌+◌, ◌<◌, ◌≤◌}
use native.Mathlib.Omega.{arith}
use mathlib.Core.Bool.{Bool, true, false}
use mathlib.Core.List.{List, []}
use lib.ListN.{length, set, get_or}
use lib.Dec.{leb, ltb}
use borrow.Author.Tests.{eq-eqb, ne_eqb, ltb-true, ltb-false}
use Rattle.array.specs.Answer.{Answer, gives, refuses, and_then, map_answer, Outcome}
use Rattle.array.specs.Cells.{Value}
use Rattle.array.specs.Buffers.{if_room}
use Rattle.array.proofs.Answers.{went_on, same_given}
use Rattle.codec.specs.Values.{put_values}
use Rattle.codec.specs.Interleaved.{interleaved_values}
use Rattle.decode_interleaved.specs.Walk.{total_of, found, Walked}
use Rattle.decode_interleaved.proofs.Steps.{never}
use Rattle.decode_interleaved.proofs.Outcomes.{cells_read, count_read}
use Rattle.migrate.specs.Live.{LiveTable, strings, new_form, read_stored, chunk_subsets, chunk_count, moved_end, ListsOk, chunk_values}
use Rattle.migrate.specs.Calls.{Step, enters, fresh, step_or_refused, migrate_step_answer, Progress, nothing, entered, progress_of, Lent, lent_of, lent_after, migrate_step}
use Rattle.migrate.proofs.Chunks.{cells_at}
use Rattle.migrate.proofs.Live.{Sound, sound, few_cells, old_read}
use Rattle.migrate_check.specs.Chunks.{bytes_at}
use Rattle.migrate_step.specs.Strings.{cells_of, Counted, area_after, laid_at}

-- what is left behind where a string was written, or was not
abbrev pub lent_by : LiveTable → Answer ℕ → List ℕ → Lent
lent_by t (gives l) area = record { moved_lengths = set t.moved_lengths t.moved l; area = area }
lent_by t (refuses k) area = record { moved_lengths = t.moved_lengths; area = area }

abbrev pub step_by : LiveTable → Outcome ℕ (List ℕ) → Outcome Progress Lent
step_by t o = record { answer = map_answer (λ l. entered l (suc t.moved)) o.answer; buffers = lent_by t o.answer o.buffers }

module _ (t : LiveTable) where
  abbrev checked : Answer ℕ
  checked = map_answer (bytes_at t.moved) (chunk_values true t)

  -- what the definition leaves behind
  abbrev step_after : Answer Step → Outcome Progress Lent
  step_after a = record { answer = map_answer (progress_of t.moved) a; buffers = lent_after a t }

  pub not_checked : (k : ℕ) → refuses k ≡ checked → record { answer = refuses k; buffers = lent_of t } ≡ migrate_step t
  unfolding migrate_step migrate_step_answer
  not_checked k e = go (chunk_values true t) e
    where
      go : (a : Answer (List (List Value))) → refuses k ≡ map_answer (bytes_at t.moved) a
          → record { answer = refuses k; buffers = lent_of t } ≡ step_after (and_then a (step_or_refused t))
      go (gives vss) q = absurd (never (sym q) refl)
      go (refuses j) q = let same : k ≡ j = cc in ap (λ (i : ℕ). step_after (refuses i)) same

  -- the table's chunks are read
  pub record Passed (sum : ℕ) : Type 0 where
    pub values : List (List Value)
    pub given : chunk_values true t ≡ gives values
    pub bytes : sum ≡ bytes_at t.moved values

  pub passed : (sum : ℕ) → gives sum ≡ checked → Passed sum
  passed sum e =
      let g = went_on (chunk_values true t) (λ vss. gives (bytes_at t.moved vss)) (sym e) in
      record { values = g.0; given = g.1.0; bytes = sym (same_given g.1.1) }

module _ {t : LiveTable} {sum : ℕ} (p : Passed t sum) where
  whole : Sound t p.values
  whole = sound t true p.given

  pub lists : ListsOk t
  lists = whole.lists

  pub some_left : (t.moved ≡ length t.old_lengths → ⊥) → t.moved < length t.old_lengths
  some_left f = go (ltb t.moved (length t.old_lengths)) refl
    where
      go : (b : Bool) → ltb t.moved (length t.old_lengths) ≡ b → t.moved < length t.old_lengths
      go true e = ltb-true t.moved (length t.old_lengths) e
      go false e = let g : length t.old_lengths ≤ t.moved = ltb-false t.moved (length t.old_lengths) e in absurd (f (omega (arith, lists.few, lists.old_count)))

  pub all_moved : t.moved ≡ length t.old_lengths → record { answer = gives nothing; buffers = lent_of t } ≡ migrate_step t
  unfolding migrate_step migrate_step_answer
  all_moved e = rw (p.given, eq-eqb t.moved (chunk_count t) (e ∙ lists.old_count))

  module _ (h : t.moved < length t.old_lengths) where
    left : t.moved < chunk_count t
    left = omega (arith, lists.old_count)

    abbrev s : List ℕ
    s = get_or (strings t.old_lengths t.old) t.moved []

    abbrev n : ℕ
    n = cells_at (chunk_subsets t) t.moved

    read : interleaved_values n s ≡ gives (get_or p.values t.moved [])
    unfolding read_stored
    read = old_read whole left

    walked : Walked n s sum × (interleaved_values n s ≡ gives (found n s))
    walked = cells_read n s sum (few_cells whole left) (ap gives p.bytes ∙ sym (ap (map_answer total_of) read))

    pub counted : Counted s sum
    counted = record { long = (count_read n s read).0; cells = subst (λ (k : ℕ). Walked k s sum) (sym (count_read n s read).1) walked.0 }

    -- its cells, as the check read them
    same_cells : put_values new_form (cells_of s) ≡ fresh t p.values
    same_cells = ap (put_values new_form) (ap (λ (k : ℕ). found k s) (count_read n s read).1 ∙ same_given (sym walked.1 ∙ read))

    pub moved_on : step_by t (laid_at (moved_end t) (put_values new_form (cells_of s)) t.area) ≡ migrate_step t
    unfolding migrate_step migrate_step_answer
    moved_on =
        ap (λ (x : List ℕ). step_by t (laid_at (moved_end t) x t.area)) same_cells
        ∙ rw (p.given, ne_eqb t.moved (chunk_count t) (λ e. omega (arith, left))) (go (leb (moved_end t + length (fresh t p.values)) (length t.area)))
      where
        go : (b : Bool) → step_by t (record { answer = map_answer length (if_room b (fresh t p.values)); buffers = area_after (moved_end t) (if_room b (fresh t p.values)) t.area })
            ≡ step_after t (if_room b (enters (fresh t p.values)))
        go true = refl
        go false = refl
