-- `cut_values` meets its contract, by the form: cells of one size, or ragged ones with their offsets.
-- Assumes nothing.
use Prim.Native.Nat.{ℕ, ◌+◌, ◌*◌, ◌≤◌}
use mathlib.Core.Path.{◌≡◌, refl, ap, ◌∙◌}
use native.Mathlib.Omega.{arith}
use lib.ListN.{length}
use Rattle.array.specs.declared.kind.Values.{Values}
use Rattle.array.specs.Kind.{fixed}
use Rattle.array.specs.Shape.{volume}
use Rattle.array.specs.Content.{RaggedContent}
use Rattle.array.specs.Outcome.{content_ragged}
use Rattle.array.specs.Meaning.{order_of, form_of}
use Rattle.subset.specs.Cells.{cells_of}
use Rattle.subset.proofs.Rows.{asked_below, asked_count}
use Rattle.cut_ragged.proofs.Outcomes.{no_values, all_put}
use Rattle.extract.specs.Asked.{values_cut, ValuesAsked}
use Rattle.extract.proofs.Walk.{fixed_long}
use Rattle.extract.proofs.cut_values.Goals.{In-Fixed}
use Rattle.extract.proofs.cut_values.Goals as goal

-- what is asked of cells of one size
source : (c : In-Fixed) → 0 + volume c.args.subset.shape.now * c.in-Fixed.size ≤ length c.args.values.now
source c =
    let a = c.args in
    let asked : (form : Values) → a.form ≡ form → ValuesAsked (form_of form) a.values.now a.offsets.now a.subset.shape.now = λ form e. rw e at c.requires in
    asked _ c.in-Fixed.is

abbrev cut_now : In-Fixed → RaggedContent
cut_now c = let a = c.args in values_cut (fixed c.in-Fixed.size (order_of c.in-Fixed.field-1)) a.values.now a.offsets.now (cells_of a.subset)

long : (c : In-Fixed) → length (cut_now c).values ≡ c.args.subset.count * c.in-Fixed.size
long c =
    let a = c.args in
    fixed_long 0 c.in-Fixed.size (volume a.subset.shape.now) a.values.now (cells_of a.subset) (source c) (asked_below a.subset.asked)
    ∙ ap (λ (n : ℕ). n * c.in-Fixed.size) (asked_count a.subset.asked)

pub returns-then-out_values-bytes : goal.returns-then-out_values-bytes
returns-then-out_values-bytes c =
    let p = (goal.at.returns-then-out_values-bytes c).In-Fixed in
    rw c.in-Fixed.is (no_values (cut_now p) (content_ragged c.args.out_values.now c.args.out_offsets.now) (long p) c.if-out_values-bytes.true)

pub returns-else-out_values-bytes : goal.returns-else-out_values-bytes
returns-else-out_values-bytes c =
    let p = (goal.at.returns-else-out_values-bytes c).In-Fixed in
    rw c.in-Fixed.is
    (all_put (cut_now p) (content_ragged c.args.out_values.now c.args.out_offsets.now) (long p) refl c.if-out_values-bytes.false (omega arith) c.copy_cells.ensures refl)
