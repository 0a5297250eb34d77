-- `cell_of` meets its contract: the next cell of either form (proofs/Reading).
-- Assumes nothing.
use mathlib.Core.Path.{◌≡◌, sym, subst}
use Prim.Native.Nat.{ℕ, ◌<◌}
use native.Mathlib.Omega.{arith}
use mathlib.Core.List.{List}
use Rattle.array.specs.Cells.{Value}
use Rattle.migrate_check.specs.Chunks.{stored_of}
use Rattle.migrate_check.specs.declared.stored.Stored.{Stored}
use Rattle.migrate_cells.specs.Reading.{MoreCells, CellsLeft, NextCell}
use Rattle.migrate_cells.proofs.Reading.{older_next, newer_next}
use Rattle.migrate_cells.proofs.cell.cell_of.Goals as goal

more_as : {x y : Stored} {i at : ℕ} → x ≡ y → MoreCells (stored_of x) i at → MoreCells (stored_of y) i at
more_as {i = i} {at} e m = subst (λ (z : Stored). MoreCells (stored_of z) i at) e m

pub older_cell-requires : goal.older_cell-requires
older_cell-requires c = let m = more_as c.in-Older.is c.requires in let n = older_next _ m.count c.args.i c.args.at m.values m.more m.left in omega (arith, n.fits)

pub newer_cell-requires-clause-room : goal.newer_cell-requires-clause-room
newer_cell-requires-clause-room c = let m = more_as c.in-Newer.is c.requires in omega (arith, m.left.room, m.more)

pub newer_cell-requires-clause-rises : goal.newer_cell-requires-clause-rises
newer_cell-requires-clause-rises c = let m = more_as c.in-Newer.is c.requires in m.left.rises c.args.i m.more

pub returns-in-Older : goal.returns-in-Older
returns-in-Older c =
    let r = c.older_cell.result in
    subst (λ (z : Stored). (n : ℕ) (vs : List Value) → c.args.i < n → CellsLeft (stored_of z) n c.args.i c.args.at vs → NextCell (stored_of z) n c.args.i r.begin r.size vs) (sym c.in-Older.is)
    (rw (c.older_cell.ensures.begin, c.older_cell.ensures.size) (λ n vs h e. older_next c.in-Older.bytes.now n c.args.i c.args.at vs h e))

pub returns-in-Newer : goal.returns-in-Newer
returns-in-Newer c =
    let r = c.newer_cell.result in
    subst (λ (z : Stored). (n : ℕ) (vs : List Value) → c.args.i < n → CellsLeft (stored_of z) n c.args.i c.args.at vs → NextCell (stored_of z) n c.args.i r.begin r.size vs) (sym c.in-Newer.is)
    (rw (c.newer_cell.ensures.begin, c.newer_cell.ensures.size) (λ n vs h l. newer_next c.in-Newer.bytes.now n c.args.i c.args.at vs h l))
