-- Redundant by the law merge_steps in merge/proofs/Steps.antt: the checks of a merge (S6.6) but those of its cover and its outputs.
-- Assumes nothing.
use Rattle.std.specs.Prelude.{◌≡◌, ℕ, ◌≤◌, true, List, length}
use Rattle.array.specs.Limits.{most_bytes}
use Rattle.array.specs.Answer.{Answer, gives, unless}
use Rattle.array.specs.Kind.{Kind, KindOk, kind_test}
use Rattle.array.specs.Shape.{volume, shape_test}
use Rattle.array.specs.Subset.{Subset, subsets_of, many_test}
use Rattle.array.specs.Content.{Content, size_test}
use Rattle.merge_rules.specs.Chunks.{chunks_test}

-- 1, 2, 3, 4, 5, and how many cells the stores go by. Every value byte of a chunk list is in a cell
unfoldable pub check_answer : Kind → List ℕ → List ℕ → Content → Answer ℕ
check_answer k shape ns c =
    unless (kind_test k) 1
    (unless (shape_test shape) 2
    (unless (many_test shape ns) 3
    (unless (chunks_test k (subsets_of (length shape) ns) c) 4
    (unless (size_test (length c.values)) 5
    (gives (volume shape))))))

-- what is known where the checks passed
pub record MergeChecked (k : Kind) (shape : List ℕ) (bs : List Subset) (c : Content) (cells : ℕ) : Type 0 where
  pub kind : KindOk k
  pub counted : cells ≡ volume shape
  pub kept : chunks_test k bs c ≡ true
  pub small : length c.values ≤ most_bytes
