-- `digits::states_of` meets its contract: by each depth that of `walk`.
use Rattle.std.proofs.Common.{◌≡◌, arith}
use Rattle.arrangement.proofs.digits.states_of.Goals as goal

pub returns-in-1 : goal.returns-in-1
returns-in-1 c = rw c.in-1.is c.walk-in-1.ensures

pub returns-in_default : goal.returns-in_default
returns-in_default c = let deepest : c.args.depth ≡ 2 = omega arith in rw deepest c.walk-in_default.ensures
