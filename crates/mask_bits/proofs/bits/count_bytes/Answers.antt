-- `mask_bits::bits::count_bytes` meets its contract. The invariant: what is counted and the set bits of what is left make those of all bytes.
-- Assumes nothing.
use mathlib.Core.Path.{◌≡◌, ap}
use Prim.Native.Nat.{ℕ, ◌+◌, ◌<◌}
use mathlib.Core.List.{List}
use native.Mathlib.Omega.{arith}
use lib.ListN.{length, get_or, drop}
use lib.Count.{ones}
use lib.Seq.{drop-cons}
use native.Mathlib.Numerals.{add-one}
use Rattle.mask_bits.specs.Bits.{bits_in}
use Rattle.mask_bits.proofs.Ones.{ones_byte}
use Rattle.mask_bits.proofs.bits.count_bytes.Goals as goal

byte_next : (s : List ℕ) (i : ℕ) → i < length s → get_or s i 0 < 256 → bits_in (drop i s) ≡ ones (get_or s i 0) + bits_in (drop (i + 1) s)
byte_next s i h b = omega (arith, ap bits_in (drop-cons s i 0 h), ap (λ (k : ℕ). bits_in (drop k s)) (add-one i), ones_byte (get_or s i 0) b)

pub overflow_add-set : goal.overflow_add-set
overflow_add-set c =
    let index = c.loop-b.b-index in
    omega (arith, byte_next c.args.bytes.now index (omega arith) (omega (arith, (c.type_inv.bytes index).fits)), c.requires)

pub loop-b-preserved : goal.loop-b-preserved
loop-b-preserved c =
    let index = c.loop-b.b-index in
    omega (arith, byte_next c.args.bytes.now index (omega arith) (omega (arith, (c.type_inv.bytes index).fits)))
