-- `interleaved_cells::copy_blocks` meets its contract: one block, or two by a law of Placing.
-- Assumes nothing.
use native.Mathlib.Omega.{arith}
use Rattle.interleaved_cells.proofs.Placing.{two_blocks}
use Rattle.interleaved_cells.proofs.copy_blocks.Goals as goal

pub returns-then-size-gt32 : goal.returns-then-size-gt32
returns-then-size-gt32 c =
    let a = c.args in
    record {
      count = 64;
      enough = omega (arith, c.requires);
      fits = omega (arith, c.requires, c.if-size-gt32.true);
      done = two_blocks a.bytes.now a.at a.to a.values.now (omega (arith, c.requires)) (omega (arith, c.requires, c.if-size-gt32.true))
          c.copy_few.ensures c.copy_few-then-size-gt32.ensures;
    }

pub returns-else-size-gt32 : goal.returns-else-size-gt32
returns-else-size-gt32 c =
    record { count = 32; enough = omega (arith, c.if-size-gt32.false); fits = omega (arith, c.requires); done = c.copy_few.ensures }
