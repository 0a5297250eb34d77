-- `partial_decode` meets its contract: each refusal in its order (proofs/Outcomes), then the cut of what the check found (proofs/Stored).
-- Assumes nothing.
use mathlib.Core.Path.{sym, ap, ◌∙◌}
use Rattle.array.specs.Shape.{volume}
use Rattle.array.specs.Meaning.{width_of, place_of}
use Rattle.array.proofs.Rules.{numbers_ok}
use Rattle.valid.proofs.ShapeLaws.{Counted, counted}
use Rattle.stored_index.specs.Index.{found_in}
use Rattle.partial.proofs.Stored.{Read, read_found}
use Rattle.partial.proofs.Outcomes.{cut_read}
use Rattle.partial.proofs.vlen_partial.partial_decode.Goals.{In_ok-cells, In_ok-index}
use Rattle.partial.proofs.vlen_partial.partial_decode.Goals as goal

shaped : (c : In_ok-cells) → Counted c.args.shape.now c.in_ok-cells.cells
shaped c = counted _ _ c.in_ok-cells.ensures

read : (c : In_ok-index) → let a = c.args in Read a.width (place_of a.place) a.bytes.now (volume a.shape.now) c.in_ok-index.index
read c =
    let a = c.args in
    let s = shaped (goal.at.new-requires c).In_ok-cells in
    read_found a.width (place_of a.place) a.bytes.now (volume a.shape.now) c.in_ok-index.index
    (sym (c.in_ok-index.ensures ∙ ap (found_in (width_of a.width) (place_of a.place) a.bytes.now 0) s.is))

pub new-requires : goal.new-requires
new-requires c = ((shaped (goal.at.new-requires c).In_ok-cells).shaped, numbers_ok _ _ (sym c.if-not-subset_fits.ensures))

pub cut_stored-requires : goal.cut_stored-requires
cut_stored-requires c = rw c.new.ensures.shape (read (goal.at.cut_stored-requires c).In_ok-index).stored

pub returns : goal.returns
returns c =
    let a = c.args in
    rw (c.new.ensures.shape, c.new.ensures.said) at c.cut_stored.ensures
    ∙ cut_read a.width (place_of a.place) a.shape.now a.subset.now a.bytes.now _ (shaped (goal.at.returns c).In_ok-cells).passes (sym c.if-not-subset_fits.ensures)
    c.in_ok-index.index (read (goal.at.returns c).In_ok-index)
