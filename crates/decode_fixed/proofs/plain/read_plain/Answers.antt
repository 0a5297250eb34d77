-- `read_plain` meets its contract, by the laws of FixedLaws for values with no mask.
-- Assumes nothing.
use mathlib.Core.Path.{refl}
use native.Mathlib.Omega.{arith}
use Rattle.array.specs.Meaning.{order_of}
use Rattle.decode_planes.proofs.Small.{bytes_small}
use Rattle.decode_fixed.proofs.FixedLaws.{plain_length, plain_short, plain_written}
use Rattle.decode_fixed.proofs.plain.read_plain.Goals as goal

pub overflow_mul-bytes : goal.overflow_mul-bytes
overflow_mul-bytes c = omega (arith, bytes_small c.args.n c.args.size c.requires.0.few c.requires.1)

pub returns-then-s-bytes : goal.returns-then-s-bytes
returns-then-s-bytes c = λ x masks offsets. rw (plain_length (order_of c.args.order) x c.args.s.now c.requires.0 c.requires.1 c.if-s-bytes.true) refl

pub returns-then-values-bytes : goal.returns-then-values-bytes
returns-then-values-bytes c =
    let a = c.args in
    λ x masks offsets. plain_short (order_of a.order) x a.s.now c.requires.0 c.requires.1 c.if-s-bytes.false masks a.values.now offsets c.if-values-bytes.true

pub returns : goal.returns
returns c =
    let a = c.args in
    λ x masks offsets. plain_written (order_of a.order) x a.s.now c.requires.0 c.requires.1 c.if-s-bytes.false masks a.values.now offsets c.if-values-bytes.false
    c.copy_cells.ensures
