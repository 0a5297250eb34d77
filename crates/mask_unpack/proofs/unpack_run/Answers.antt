-- `mask_unpack::unpack_run` meets its contract: the run, and the cells behind it (Words).
-- Assumes nothing.
use mathlib.Core.Path.{sym, ap, ◌∙◌}
use mathlib.Core.List.{List}
use Prim.Native.Nat.{ℕ, ◌+◌, ◌-◌, ◌*◌}
use native.Mathlib.Omega.{arith}
use lib.ListN.{length, take, drop, length-replicate}
use Rattle.array.specs.Buffers.{over_at}
use Rattle.codec.specs.Mask.{bits_of}
use Rattle.mask_unpack.proofs.Words.{over-parts, bits_parts}
use Rattle.mask_unpack.proofs.unpack_run.Goals as goal

pub returns : goal.returns
returns c =
    let a = c.args in
    let xs : List ℕ = bits_of (take (a.words * 8) (drop a.at a.s.now)) in
    let ys : List ℕ = bits_of (take (a.whole - a.words * 8) (drop (a.at + a.words * 8) a.s.now)) in
    over-parts a.to xs ys a.planes.now (ap length c.requires.3 ∙ length-replicate (a.words * 64) a.mark) (omega (arith, c.requires.0, c.requires.2))
    (c.fill_bytes.ensures ∙ ap (λ (m : List ℕ). over_at a.to m a.planes.now) (sym c.requires.3)) c.unpack_whole.ensures
    ∙ ap (λ (m : List ℕ). over_at a.to m a.planes.now) (bits_parts a.s.now a.at (a.words * 8) a.whole c.requires.2)
