-- `cells::copy_values` meets its contract, by the laws of Reading.
-- Assumes nothing.
use mathlib.Core.Path.{sym}
use native.Mathlib.Omega.{arith}
use Rattle.table.specs.Meaning.{lent_table}
use Rattle.table_read.proofs.Reading.{goes_on, read_begins, value_room, read_values, read_offsets, reading_ended}
use Rattle.table_read.proofs.Reading.{Ready, ready_is, ready_again, ready_more}
use Rattle.table_read.proofs.cells.copy_values.Goals.{then-not-goes_on, else-not-goes_on}
use Rattle.table_read.proofs.cells.copy_values.Goals as goal

pub loop-at-init : goal.loop-at-init
loop-at-init c = read_begins c.requires

pub copy_many-requires : goal.copy_many-requires
copy_many-requires c =
    let inv = c.loop-at.invariant in (value_room inv, inv.stored)

pub loop-at-preserved : goal.loop-at-preserved
loop-at-preserved c =
    let a = c.args in
    let l = c.loop-at in
    let j = c.if-not-goes_on in
    let ready : Ready a.cells (lent_table a.table) a.out_values.now a.out_offsets.now j.out_values l.out_offsets l.at j.to j.first j.waiting =
    elim j.branch [
      | then-not-goes_on w ↦ ready_is (ready_again l.invariant c.requires.cells c.loop-at-test.true w.copy_many.ensures) w.out_values-is w.to-is w.first-is w.waiting-is
      | else-not-goes_on w ↦ ready_is (record { reading = l.invariant; goes = goes_on (lent_table a.table) l.at _ (sym w.if-not-goes_on.ensures) })
          w.out_values-is w.to-is w.first-is w.waiting-is
    ] in
    ready_more ready c.requires.cells c.loop-at-test.true

pub copy_many-requires-2 : goal.copy_many-requires-2
copy_many-requires-2 c =
    let inv = c.loop-at.invariant in (value_room inv, inv.stored)

pub returns : goal.returns
returns c =
    let inv = reading_ended c.loop-at.invariant c.loop-at-test.false in
    record { values = read_values inv (omega arith) c.copy_many-2.ensures; offsets = read_offsets inv (omega arith) }
