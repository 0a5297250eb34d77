-- `endian::in_place::swap_words`: the bytes of each number written are those read, in the other order (Words).
-- Assumes nothing.
use mathlib.Core.Path.{ap, ap₂, ◌∙◌}
use mathlib.Core.List.{List}
use Prim.Native.Nat.{ℕ}
use Rattle.std.proofs.Common.{rules}
use Rattle.array.specs.Bytes.{le}
use Rattle.array.specs.Buffers.{over_at}
use Rattle.array.specs.Kind.{big}
use Rattle.word.proofs.Words.{Slice, le_read}
use Rattle.endian.proofs.in_place.swap_words.Goals as goal

pub returns : goal.returns
returns c =
    let a = c.args in
    let f : Slice a.bytes.now = search rules in
    let x = le_read big a.bytes.now f a.low 8 c.requires.0 c.be8_at-a.ensures in
    let y = le_read big a.bytes.now f a.high 8 c.requires.1 c.be8_at-b.ensures in
    c.put_u64-2.ensures ∙ ap (λ (o : List ℕ). over_at a.high (le 8 c.be8_at-a.result) o) c.put_u64.ensures
    ∙ ap₂ (λ (v w : List ℕ). over_at a.high v (over_at a.low w a.bytes.now)) x y
