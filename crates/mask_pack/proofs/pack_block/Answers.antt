-- `mask_pack::pack_block` meets its contract: the bits, laid over a block of zeros, are what they are padded to (Words).
-- Assumes nothing.
use mathlib.Core.Path.{◌≡◌, sym, ap, ap₂, subst⁻¹, ◌∙◌}
use mathlib.Core.List.{List, map}
use Prim.Native.Nat.{ℕ, ◌<◌}
use native.Mathlib.Omega.{arith}
use lib.ListN.{length, take, drop}
use Rattle.array.specs.Lists.{All, pieces}
use Rattle.array.specs.Bytes.{number}
use Rattle.array.specs.Buffers.{over_at}
use Rattle.array.specs.Cells.{bit_of}
use Rattle.codec.specs.Mask.{bytes_for}
use Rattle.codec.proofs.Masks.{bits_of_marks}
use Rattle.mask_bits.proofs.Parts.{length-part_bits}
use Rattle.mask_pack.proofs.Words.{block_bits, block_packed}
use Rattle.mask_pack.proofs.pack_block.Goals as goal

pub pack_words-requires : goal.pack_words-requires
pack_words-requires c =
    let bits : List ℕ = map bit_of (take c.args.count (drop c.args.at c.args.planes.now)) in (
      omega (arith, c.bytes_for.ensures, c.requires.0),
      omega (arith, c.bytes_for.ensures, c.requires.2, c.put_bits.auto.block),
      subst⁻¹ (All (λ b. b < 2)) c.put_bits.ensures (block_bits bits (bits_of_marks (take c.args.count (drop c.args.at c.args.planes.now)))),
    )

pub returns : goal.returns
returns c =
    let bits : List ℕ = map bit_of (take c.args.count (drop c.args.at c.args.planes.now)) in
    let length_bits : length bits ≡ c.args.count = length-part_bits c.args.planes.now c.args.at c.args.count c.requires.1 in
    let count : c.bytes_for.result ≡ bytes_for (length bits) = c.bytes_for.ensures ∙ ap bytes_for (sym length_bits) in
    c.pack_words.ensures
    ∙ ap (λ (m : List ℕ). over_at c.args.to m c.args.out.now)
    (ap₂ (λ (k : ℕ) (b : List ℕ). map (number 2) (pieces 8 k b)) count c.put_bits.ensures ∙ block_packed bits (omega (arith, length_bits, c.requires.2)))
