-- `word::word_at`: by cases on the order; the bytes of the number are those read (Words).
-- Assumes nothing.
use mathlib.Core.Path.{sym, ap, ◌∙◌}
use lib.ListN.{take, drop}
use Rattle.array.specs.declared.kind.ByteOrder.{ByteOrder}
use Rattle.std.proofs.Common.{rules}
use Rattle.array.specs.Kind.{little, big, ordered}
use Rattle.array.specs.Meaning.{order_of}
use Rattle.word.proofs.Words.{le_read}
use Rattle.word.proofs.word_at.Goals as goal

pub returns-in-Little : goal.returns-in-Little
returns-in-Little c =
    let a = c.args in
    le_read little a.s.now (search rules) a.at a.size.bytes c.requires c.little_at.ensures
    ∙ ap (λ (o : ByteOrder). ordered (order_of o) (take a.size.bytes (drop a.at a.s.now))) (sym c.in-Little.is)

pub returns-in-Big : goal.returns-in-Big
returns-in-Big c =
    let a = c.args in
    le_read big a.s.now (search rules) a.at a.size.bytes c.requires c.big_at.ensures ∙ ap
    (λ (o : ByteOrder). ordered (order_of o) (take a.size.bytes (drop a.at a.s.now))) (sym c.in-Big.is)
