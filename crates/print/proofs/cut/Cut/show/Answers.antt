use Rattle.print.proofs.Cutting.{shown_cut}
use Rattle.print.proofs.cut.Cut.show.Goals as goal

pub returns : goal.returns
returns g c = shown_cut g.row.N _ _ _ c.write.ensures.writes
