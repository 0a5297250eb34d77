-- Redundant by the contract of `generate::generate`, generate/src/lib.rt: what the code's draws mean (S12.1).
-- Assumes nothing.
use Rattle.generate.specs.declared.generator.Drawn.{Drawn}
use Rattle.load.specs.Generator.{Drew}

abbrev pub drew : {A : Type 0} → Drawn A → Drew A
drew r = record { made = r.made; state = r.next.state }
