-- The stages of the call: what it leaves behind where the kind or the shape is refused, and that else the cells that are drawn decide.
-- Assumes nothing.
use mathlib.Core.Path.{◌≡◌, refl, sym, ap, ◌∙◌}
use mathlib.Core.Bool.{true, false}
use mathlib.Core.List.{List}
use Prim.Native.Nat.{ℕ}
use Rattle.array.specs.Kind.{Kind, Form, kind_test, byte_kind}
use Rattle.array.specs.Answer.{refuses}
use Rattle.valid.specs.ShapeCells.{shape_answer}
use Rattle.array.specs.Content.{Content, layout}
use Rattle.array.proofs.Putting.{refused}
use Rattle.valid.proofs.ShapeLaws.{Counted, not_counted}
use Rattle.load.specs.Calls.{generate_answer, generated}
use Rattle.load.specs.Law.{SameSize}
use Rattle.load.proofs.Law.{load_same}
use Rattle.generate.specs.Cells.{cells_from}
use Rattle.array.specs.Buffers.{put_into}

module _ (k : Kind) (shape : List ℕ) (s : ℕ) (out : Content) where
  pub by_kind : kind_test k ≡ false → refused 1 out ≡ generated k shape s out
  unfolding generated generate_answer
  by_kind e = rw e

  module _ (e : kind_test k ≡ true) where
    pub by_shape : {number : ℕ} → refuses number ≡ shape_answer shape → refused number out ≡ generated k shape s out
    unfolding generated generate_answer
    by_shape {number} f = let n = not_counted shape number f in rw (e, n.0, n.1)

    -- the form may differ in byte order, index width or index place
    pub by_cells : {n : ℕ} → Counted shape n → (f : Form) → SameSize k.form f → generated k shape s out ≡ put_into (layout f k.depth (cells_from f k.depth n s)) out
    unfolding generated generate_answer
    by_cells c f a =
        rw (e, c.passes)
        (ap (λ (l : Content). put_into l out) (load_same k (byte_kind k.depth f) shape s refl a)
        ∙ ap (λ (m : ℕ). put_into (layout f k.depth (cells_from f k.depth m s)) out) (sym c.is))
