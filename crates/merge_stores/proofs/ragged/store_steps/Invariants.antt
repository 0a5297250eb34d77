-- `store_steps` meets its contract: i lengths are copied, as if they lay there (proofs/LengthRows over array's Copying).
-- Assumes nothing.
use Rattle.array.specs.Lists.{from}
use Rattle.array.specs.Places.{offset_at, steps_at}
use Rattle.buffer.proofs.Copying.{Copying}
use Rattle.merge_stores.proofs.ragged.store_steps.Given as goal

abbrev pub invariant-loop-i : goal.invariant-loop-i
invariant-loop-i l = Copying l.initial.out l.at (steps_at (offset_at l.src) (from l.first l.n)) 0 l.n l.out l.i
