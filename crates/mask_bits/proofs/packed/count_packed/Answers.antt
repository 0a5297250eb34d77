-- `mask_bits::packed::count_packed` meets its contract: the set bits of a mask that passes its test are its set cells (Said).
-- Assumes nothing.
use mathlib.Core.Path.{◌≡◌, ap, ◌∙◌}
use Prim.Native.Nat.{ℕ}
use native.Mathlib.Omega.{arith}
use lib.ListN.{take, drop}
use Rattle.codec.specs.Mask.{bytes_for}
use Rattle.mask_bits.specs.Bits.{bits_in}
use Rattle.mask_bits.proofs.Said.{count_left, bits_few}
use Rattle.mask_bits.proofs.packed.count_packed.Goals as goal

pub count_bits-requires : goal.count_bits-requires
count_bits-requires c =
    let counted : let a = c.args in bits_in (take c.bytes_for.result (drop a.at a.s.now)) ≡ bits_in (take (bytes_for a.n) (drop a.at a.s.now)) = let a =
    c.args in ap (λ (k : ℕ). bits_in (take k (drop a.at a.s.now))) c.bytes_for.ensures in
    let a = c.args in
    omega (arith, c.bytes_for.ensures, c.requires.0, counted, bits_few a.s.now a.at a.n c.requires.0 c.requires.1, c.ranges.n)

pub returns : goal.returns
returns c =
    let counted : let a = c.args in bits_in (take c.bytes_for.result (drop a.at a.s.now)) ≡ bits_in (take (bytes_for a.n) (drop a.at a.s.now)) = let a =
    c.args in ap (λ (k : ℕ). bits_in (take k (drop a.at a.s.now))) c.bytes_for.ensures in
    let a = c.args in
    c.count_bits.ensures ∙ counted ∙ count_left a.s.now a.at a.n c.requires.0 c.requires.1
