-- `endian::cells::copy_cell_16`: two words, the second first (Backing).
-- Assumes nothing.
use mathlib.Core.Path.{ap, ◌∙◌}
use mathlib.Core.List.{List}
use Prim.Native.Nat.{ℕ, ◌+◌}
use native.Mathlib.Omega.{arith}
use Rattle.std.proofs.Common.{rules}
use Rattle.array.specs.Buffers.{over_at}
use Rattle.array.specs.Kind.{big}
use Rattle.word.proofs.Words.{Slice, le_read}
use Rattle.endian.proofs.Backing.{two-parts}
use Rattle.endian.proofs.cells.copy_cell_16.Goals as goal

pub returns : goal.returns
returns c =
    let a = c.args in
    let p = c.requires in
    let f : Slice a.s.now = search rules in
    let high = le_read big a.s.now f (a.at + 8) 8 (omega arith) c.be8_at-high.ensures in
    let low = le_read big a.s.now f a.at 8 (omega arith) c.be8_at-low.ensures in
    two-parts a.out.now a.to a.s.now a.at 8 p.0 p.1
    (c.put_u64.ensures ∙ ap (λ (l : List ℕ). over_at a.to l a.out.now) high)
    (c.put_u64-2.ensures ∙ ap (λ (l : List ℕ). over_at (a.to + 8) l c.put_u64.new.out) low)
