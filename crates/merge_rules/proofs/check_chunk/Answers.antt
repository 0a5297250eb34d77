-- `check_chunk` meets its contract: what is left holds the chunk, and the slices are its own (proofs/OneChunk).
-- Assumes nothing.
use Prim.Native.Nat.{◌≤◌}
use lib.ListN.{length}
use Rattle.array.specs.Meaning.{kind_of, lent}
use Rattle.merge_rules.proofs.OneChunk.{Sized, size_known, chunk_breaks, chunk_keeps}
use Rattle.merge_rules.proofs.check_chunk.Goals.{In_ok-chunk}
use Rattle.merge_rules.proofs.check_chunk.Goals as goal

size : (c : In_ok-chunk) → let a = c.args in let t = c.in_ok-chunk.chunk in
    Sized (kind_of a.kind).form a.cells a.left.offsets.now t.bytes t.numbers × (t.numbers ≤ length a.left.offsets.now)
size c = size_known (kind_of c.args.kind).form c.args.cells c.args.left.offsets.now c.in_ok-chunk.ensures

pub returns-then-not-keeps_rules : goal.returns-then-not-keeps_rules
returns-then-not-keeps_rules c =
    let a = c.args in
    chunk_breaks (kind_of a.kind) a.cells (lent a.left) (size (goal.at.returns-then-not-keeps_rules c).In_ok-chunk).0
    c.keeps_rules.ensures c.if-not-keeps_rules.true-raw

pub returns : goal.returns
returns c =
    let a = c.args in
    chunk_keeps (kind_of a.kind) a.cells (lent a.left) (size (goal.at.returns c).In_ok-chunk).0
    c.keeps_rules.ensures c.if-not-keeps_rules.false-raw
