-- `encode_values::put_values` meets its contract: a case for each form.
-- Assumes nothing.
use mathlib.Core.Path.{refl}
use native.Mathlib.Omega.{arith}
use Rattle.encode_cells.proofs.Placing.{laid_as}
use Rattle.encode_values.proofs.Forms.{fixed_writes, fixed_wrote}
use Rattle.encode_values.proofs.put_values.Goals as goal

pub overflow_mul-result : goal.overflow_mul-result
overflow_mul-result c = omega (arith, c.requires.room, fixed_wrote c.args.kind c.requires.ready c.in-Fixed.is refl c.requires.innermost c.args.live.counted)

pub returns-in-Fixed : goal.returns-in-Fixed
returns-in-Fixed c =
    let a = c.args in
    let r = c.requires.ready in
    record {
      wrote = fixed_wrote a.kind r c.in-Fixed.is refl c.requires.innermost a.live.counted;
      bytes = laid_as a.at a.out.now c.put_live.ensures (fixed_writes a.kind r c.in-Fixed.is refl c.requires.innermost);
    }
