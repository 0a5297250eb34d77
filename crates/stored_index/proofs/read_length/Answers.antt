-- `read_length` meets its contract: too few bytes, or the field at its place.
-- Assumes nothing.
use Prim.Native.Nat.{◌+◌, ◌-◌}
use native.Mathlib.Omega.{arith}
use lib.ListN.{length}
use Rattle.array.specs.Meaning.{place_of}
use Rattle.buffer.proofs.Fields.{field_short}
use Rattle.codec.specs.Ragged.{length_at}
use Rattle.stored_index.proofs.read_length.Goals as goal

pub returns-then-size-lt8 : goal.returns-then-size-lt8
returns-then-size-lt8 c =
    let args = c.args in
    field_short 8 7 args.s.now (args.at + length_at (place_of args.place) (length args.s.now - args.at)) (omega arith)
