-- `endian::cells::copy_word`: the bytes of the number written are those read, in the other order (Words).
-- Assumes nothing.
use mathlib.Core.Path.{ap, ◌∙◌}
use mathlib.Core.List.{List}
use Prim.Native.Nat.{ℕ}
use Rattle.std.proofs.Common.{rules}
use Rattle.array.specs.Buffers.{over_at}
use Rattle.array.specs.Kind.{big}
use Rattle.word.proofs.Words.{le_read}
use Rattle.endian.proofs.cells.copy_word.Goals as goal

pub returns : goal.returns
returns c =
    let a = c.args in
    c.put_word.ensures ∙ ap (λ (l : List ℕ). over_at a.to l a.out.now)
    (le_read big a.s.now (search rules) a.at a.size.bytes c.requires.1 c.big_at.ensures)
