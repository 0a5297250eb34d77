-- Redundant by the contract of `generate::generate`, generate/src/lib.rt: the cells of a load (S12.2), and how many value bytes they have.
-- Assumes nothing.
use Rattle.std.specs.Prelude.{ℕ, List}
use Rattle.array.specs.Kind.{Form}
use Rattle.array.specs.Cells.{Cell}
use Rattle.generate.specs.declared.loads.Load.{Load}
use Rattle.generate.specs.Cells.{cells_from, bytes_from}

abbrev pub cells_of : Form → (l : Load) → List (Cell l.depth)
cells_of f l = cells_from f l.depth l.n l.first.state

abbrev pub bytes_of : Form → Load → ℕ
bytes_of f l = bytes_from f l.depth l.n l.first.state
