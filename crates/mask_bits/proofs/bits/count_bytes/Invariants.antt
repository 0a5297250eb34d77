-- `mask_bits::bits::count_bytes` meets its contract. The invariant: what is counted and the set bits of what is left make those of all bytes.
-- Assumes nothing.
use mathlib.Core.Path.{◌≡◌}
use Prim.Native.Nat.{◌+◌}
use lib.ListN.{drop}
use Rattle.mask_bits.specs.Bits.{bits_in}
use Rattle.mask_bits.proofs.bits.count_bytes.Given as goal

abbrev pub invariant-loop-b : goal.invariant-loop-b
invariant-loop-b l = l.set + bits_in (drop l.b-index l.bytes) ≡ bits_in l.bytes
