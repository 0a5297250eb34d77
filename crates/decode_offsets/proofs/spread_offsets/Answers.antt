-- `spread_offsets` meets its contract, by the laws of SpreadingOffsets.
-- Assumes nothing.
use mathlib.Core.Path.{refl, sym, ap, ◌∙◌, subst}
use Prim.Native.Nat.{ℕ, ◌+◌, ◌*◌}
use native.Mathlib.Omega.{arith}
use lib.ListN.{take, drop}
use Rattle.array.specs.Bytes.{unle}
use Rattle.array.specs.Buffers.{over}
use Rattle.decode_offsets.specs.Ends.{EndsStored}
use Rattle.decode_offsets.proofs.SpreadingOffsets.{ends_of, ends_begin, ends_end, ends_more}
use Rattle.decode_offsets.proofs.spread_offsets.Goals as goal

pub loop-k-init : goal.loop-k-init
loop-k-init c =
    let a = c.args in
    let ends_stored = subst (λ (w : ℕ). EndsStored w a.s.now a.at a.cells a.last) (sym c.width_bytes-w.ensures) c.requires.2 in
    ends_begin a.plane.now a.offsets.now ends_stored c.requires.1 (omega (arith, c.requires.0))

pub loop-k-preserved : goal.loop-k-preserved
loop-k-preserved c =
    let width : ℕ = c.width_bytes-w.result in
    let stored : ℕ = c.args.at + c.loop-k.k * width in
    let offset_is = c.le_at.ensures ∙ ap (λ (w : ℕ). unle (take w (drop stored c.args.s.now))) (sym c.width_bytes-w.ensures) in
    rw c.skip-k.ensures (ends_more c.loop-k.invariant c.loop-k-test.true c.mark_of-mark.ensures offset_is)

pub returns : goal.returns
returns c =
    let a = c.args in
    let ends_stored = subst (λ (w : ℕ). EndsStored w a.s.now a.at a.cells a.last) (sym c.width_bytes-w.ensures) c.requires.2 in
    ends_end c.loop-k.invariant c.loop-k-test.false ends_stored refl c.fill_ends.ensures
    ∙ ap (λ (w : ℕ). over (ends_of w a.plane.now a.s.now a.at) a.offsets.now) c.width_bytes-w.ensures
