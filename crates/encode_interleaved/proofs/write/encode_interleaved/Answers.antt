-- `interleaved::write::encode_interleaved` meets its contract: each way it ends has a law in Writes.
-- Assumes nothing.
use mathlib.Core.Path.{sym, ap, ◌∙◌}
use Rattle.array.specs.Answer.{gives}
use Rattle.encode_interleaved.proofs.Writes.{write_past}
use Rattle.encode_interleaved.proofs.write.encode_interleaved.Goals as goal

pub returns-then-cells-eq1 : goal.returns-then-cells-eq1
returns-then-cells-eq1 c =
    c.encode_one.ensures
    ∙ write_past _ _ _ _ (sym c.if-not-is_interleaved.ensures) (ap gives (sym c.if-cells-eq1.true) ∙ c.in_ok-cells.ensures)

pub returns : goal.returns
returns c = c.encode_cells.ensures ∙ write_past _ _ _ _ (sym c.if-not-is_interleaved.ensures) c.in_ok-cells.ensures
