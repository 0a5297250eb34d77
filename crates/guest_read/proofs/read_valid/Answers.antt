-- `read_valid` meets its contract, by the form of the values: order, width and place do not show in what is seen.
-- Assumes nothing.
use mathlib.Core.Path.{sym, ap, ◌∙◌, subst}
use Rattle.array.specs.Content.{ValuesOk}
use Rattle.array.specs.Kind.{Form}
use Rattle.array.specs.Buffers.{put_into}
use Rattle.array.specs.Meaning.{form_of, lent}
use Rattle.array.specs.Outcome.{content_array}
use Rattle.guest_read.specs.Seen.{seen_of}
use Rattle.guest_read.proofs.read_valid.Goals as goal

pub read_fixed-requires : goal.read_fixed-requires
read_fixed-requires c = (subst (λ (f : Form). ValuesOk f c.args.guest.level.cells (lent c.args.array)) (ap form_of c.in-Fixed.is) c.requires).0

pub read_ragged-requires : goal.read_ragged-requires
read_ragged-requires c = subst (λ (f : Form). ValuesOk f c.args.guest.level.cells (lent c.args.array)) (ap form_of c.in-Ragged.is) c.requires

pub returns-in-Fixed : goal.returns-in-Fixed
returns-in-Fixed c =
    let a = c.args in
    c.read_fixed.ensures a.out_offsets.now
    ∙ sym (ap (λ (f : Form). put_into (seen_of f a.guest a.array.values.now a.array.offsets.now) (content_array a.out_masks.now a.out_values.now a.out_offsets.now)) (ap form_of c.in-Fixed.is))

pub returns-in-Ragged : goal.returns-in-Ragged
returns-in-Ragged c =
    let a = c.args in
    c.read_ragged.ensures
    ∙ sym (ap (λ (f : Form). put_into (seen_of f a.guest a.array.values.now a.array.offsets.now) (content_array a.out_masks.now a.out_values.now a.out_offsets.now)) (ap form_of c.in-Ragged.is))
