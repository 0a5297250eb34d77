-- `ragged::count_bytes` meets its contract, by the laws of Making.
-- Assumes nothing.
use Rattle.generate.specs.Cells.{lengthy}
use Rattle.generate.proofs.Making.{Counting}
use Rattle.generate.proofs.ragged.count_bytes.Given as goal

abbrev pub invariant-loop : goal.invariant-loop
invariant-loop l = Counting lengthy l.fn.load.depth l.fn.load.n l.initial.g.state l.g.state l.counter l.sum
