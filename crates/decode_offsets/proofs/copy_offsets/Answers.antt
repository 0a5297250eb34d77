-- `copy_offsets` meets its contract, by the laws of CopyingOffsets.
-- Assumes nothing.
use mathlib.Core.Path.{sym, ap, ◌∙◌}
use Prim.Native.Nat.{ℕ, suc, ◌+◌, ◌*◌}
use native.Mathlib.Omega.{arith}
use lib.ListN.{take, drop}
use Rattle.array.specs.Bytes.{unle}
use Rattle.array.specs.Buffers.{over}
use Rattle.stored_index.specs.Index.{offsets_in}
use Rattle.decode_offsets.proofs.CopyingOffsets.{copied_begins, copied_more, copied_ends}
use Rattle.decode_offsets.proofs.copy_offsets.Goals as goal

pub loop-i-init : goal.loop-i-init
loop-i-init c = let a = c.args in copied_begins c.width_bytes-w.result a.n a.s.now a.offsets.now a.at c.requires.1

pub loop-i-preserved : goal.loop-i-preserved
loop-i-preserved c =
    let a = c.args in
    let w = c.width_bytes-w in
    let i = c.loop-i.i in
    let read = ap (λ (k : ℕ). unle (take k (drop (a.at + i * w.result) a.s.now))) w.ensures ∙ sym c.le_at.ensures in
    copied_more w.result a.n a.s.now a.offsets.now a.at c.loop-i.invariant (omega arith) c.le_at.result read

pub returns : goal.returns
returns c =
    let a = c.args in
    let w = c.width_bytes-w in
    copied_ends w.result a.n a.s.now a.offsets.now a.at c.loop-i.invariant (omega arith)
    ∙ ap (λ (k : ℕ). over (offsets_in k (suc a.n) (drop a.at a.s.now)) a.offsets.now) w.ensures
