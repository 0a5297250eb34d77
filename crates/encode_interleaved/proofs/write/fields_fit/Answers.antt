-- `interleaved::write::fields_fit` meets its contract, by the laws of Fitting.
-- Assumes nothing.
use mathlib.Core.Path.{◌∙◌}
use Rattle.encode_interleaved.proofs.Fitting.{ends_rise, fields_few, fields_by_steps}
use Rattle.encode_interleaved.proofs.write.fields_fit.Goals as goal

pub returns-then-values-le-MOST_FIELD : goal.returns-then-values-le-MOST_FIELD
returns-then-values-le-MOST_FIELD c = fields_few c.requires c.if-values-le-MOST_FIELD.true

pub lengths_fit-requires : goal.lengths_fit-requires
lengths_fit-requires c = ends_rise c.requires

pub returns : goal.returns
returns c = c.lengths_fit.ensures ∙ fields_by_steps c.requires
