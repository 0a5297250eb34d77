-- `generator::Generator::draw` meets its contract: the code's numbers are the definition's.
-- Assumes nothing.
use borrow.Author.Rules.{rules}
use Rattle.load.specs.Generator.{draw}
use Rattle.generate.proofs.generator.Generator.draw.Goals as goal

pub returns : goal.returns
unfolding draw
returns c = search rules
