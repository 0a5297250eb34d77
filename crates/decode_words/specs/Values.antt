-- Redundant by the laws deep_written and values_within in decode_fixed/proofs/FixedLaws.antt: fixed values below a plane (S4.8).
-- Assumes nothing.
use Rattle.std.specs.Prelude.{ℕ, ◌+◌, ◌*◌, ◌≤◌, ◌≡◌, List, map, length, replicate}
use Rattle.array.specs.Lists.{joined, pieces}
use Rattle.array.specs.Kind.{Order, ordered}
use Rattle.codec.specs.Frame.{count_set}
use Rattle.codec.specs.Spread.{spread}

-- those of the set cells of the plane p lie end to end in q, and the others are zero bytes
abbrev pub values_over : ℕ → Order → List ℕ → List ℕ → List ℕ
values_over size o p q = joined (spread (replicate size 0) p (map (ordered o) (pieces size (count_set p) q)))

-- For a plane of which `cells` are set. It stands in four contracts, since it speaks of the room in `values`,
-- which is written to: clauses would see a struct that holds it as `out.exit.0.now`.
pub record ValuesWithin (values plane s : List ℕ) (at size cells : ℕ) : Type 0 where
  pub count : cells ≡ count_set plane
  pub room : length plane * size ≤ length values
  pub stored : at + cells * size ≤ length s
