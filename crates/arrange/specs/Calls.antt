-- docs/SPEC.md, S15.3: the call that gives an arrangement: its answer, with the refusals in order, and what it leaves in the outputs.
-- Assumes nothing.
use Rattle.std.specs.Prelude.{ℕ, ◌≤◌, Bool, ◌&&◌, leb, ltb}
use Rattle.array.specs.Answer.{Answer, unless, Outcome}
use Rattle.array.specs.Content.{Content}
use Rattle.array.specs.declared.answer.Lengths.{Lengths}
use Rattle.array.specs.Buffers.{lengths_of, enough_test, content_outcome, if_room}
use Rattle.arrange.specs.Arrangement.{arrangement_count, arrangement}

-- depth 0 to 2, 1 to 4 cells: refusal 1
pub record SmallOk (d n : ℕ) : Type 0 where
  pub shallow : d ≤ 2
  pub some_cells : 1 ≤ n
  pub few_cells : n ≤ 4

abbrev pub small_test : ℕ → ℕ → Bool
small_test d n = leb d 2 && leb 1 n && leb n 4

-- ---- arrangement: number k of n cells of depth d

unfoldable pub arrangement_answer : ℕ → ℕ → ℕ → Lengths → Answer Content
arrangement_answer d n k room =
    unless (small_test d n) 1
    (unless (ltb k (arrangement_count d n)) 19
    (if_room (enough_test (arrangement d n k) room) (arrangement d n k)))

unfoldable pub arranged : ℕ → ℕ → ℕ → Content → Outcome Lengths Content
unfolding arrangement_answer
arranged d n k out = content_outcome (arrangement_answer d n k (lengths_of out)) out
