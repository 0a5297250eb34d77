-- `write_found` meets its contract: the reader's answer by what the walk found (FixedLaws), and what the copying rests on.
-- Assumes nothing.
use mathlib.Core.Path.{refl}
use native.Mathlib.Omega.{arith}
use Rattle.array.specs.Meaning.{order_of}
use Rattle.decode_fixed.proofs.FixedLaws.{found_passed, found_small, some_within, fixed_length, fixed_given}
use Rattle.decode_fixed.proofs.write_found.Goals as goal

pub overflow_sub-s : goal.overflow_sub-s
overflow_sub-s c = omega (arith, (found_passed c.requires.found).inside)

pub overflow_mul-found : goal.overflow_mul-found
overflow_mul-found c = omega (arith, found_small c.requires.found)

pub write_fixed-requires : goal.write_fixed-requires
write_fixed-requires c = record { within = some_within c.requires.found c.if-s-found.false; deep = c.requires.deep }

pub returns-then-s-found : goal.returns-then-s-found
returns-then-s-found c = λ offsets. rw (fixed_length (order_of c.args.order) c.requires.found c.if-s-found.true) refl

pub returns-else-s-found : goal.returns-else-s-found
returns-else-s-found c = λ offsets. rw (fixed_given (order_of c.args.order) c.requires.found c.if-s-found.false) (c.write_fixed.ensures offsets)
