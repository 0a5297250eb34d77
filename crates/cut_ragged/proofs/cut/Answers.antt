-- `cut` meets its contract: what the cut needs, the first offset with the others behind it (proofs/Ragged), and the laws of its answer (proofs/Outcomes).
-- Assumes nothing.
use Prim.Native.Nat.{◌≤◌}
use mathlib.Core.Path.{sym, ◌∙◌}
use native.Mathlib.Omega.{arith}
use lib.ListN.{length, length-set}
use Rattle.array.specs.Subset.{pairs}
use Rattle.array.specs.Content.{end_to_end}
use Rattle.array.specs.Offsets.{ends}
use Rattle.array.specs.Outcome.{content_ragged}
use Rattle.array.specs.Places.{bytes_at}
use Rattle.subset.specs.Cells.{cells_of}
use Rattle.subset.proofs.Rows.{asked_count}
use Rattle.cut_ragged.specs.Source.{begins_in, values_in}
use Rattle.cut_ragged.proofs.Counting.{bytes_most}
use Rattle.cut_ragged.proofs.Ragged.{first_then}
use Rattle.cut_ragged.proofs.Outcomes.{need_values, need_offsets, all_put}
use Rattle.cut_ragged.proofs.cut.Goals as goal
use Rattle.cut_ragged.proofs.cut.Goals.{then-short+else-values-need, else-short, Else-offsets-many}

-- the output has room: its bytes were counted, or it is as long as the source
room : (c : Else-offsets-many) → bytes_at (begins_in c.args.src) (cells_of c.args.subset) ≤ length c.args.values.now
room c =
    let s = c.args.subset in
    let most = bytes_most s.shape.now (pairs s.starts.now s.lens.now) c.requires.rises s.asked.within.inside in
    elim c.if-short.branch [
      | then-short+else-values-need w ↦ omega (arith, w.count_bytes-need.ensures, w.if-values-need.false)
      | else-short w ↦ omega (arith, most, c.requires.data_room, w.if-short.false)
    ]

pub copy_rows-total-requires : goal.copy_rows-total-requires
copy_rows-total-requires c =
    let a = c.args in
    record {
      asked = c.requires;
      room = omega (arith, need_values a.src a.subset c.requires, room (goal.at.copy_rows-total-requires c).Else-offsets-many);
      room_offsets = simp length-set (omega (arith, asked_count a.subset.asked, c.if-offsets-many.false));
    }

pub returns : goal.returns
returns c =
    let a = c.args in
    let e = c.copy_rows-total.ensures in
    let h = c.if-offsets-many.false in
    let values = values_in a.src (cells_of a.subset) in
    all_put (end_to_end values) (content_ragged a.values.now a.offsets.now) (sym e.total) (need_offsets a.src a.subset c.requires)
    (omega (arith, e.total, need_values a.src a.subset c.requires, room (goal.at.returns c).Else-offsets-many)) h
    e.values (e.offsets ∙ first_then a.offsets.now 0 (ends 0 values) (omega (arith, h)))
