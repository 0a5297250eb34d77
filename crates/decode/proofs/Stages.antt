-- The stages of the call: what it leaves behind where the kind or the shape is refused, and that else the reading decides.
-- Assumes nothing.
use mathlib.Core.Path.{◌≡◌, refl, sym, subst}
use mathlib.Core.Bool.{Bool, true, false}
use mathlib.Core.List.{List, [], ◌∷◌}
use Prim.Native.Nat.{ℕ, ◌≤◌}
use native.Mathlib.Nat.{le_refl, mul-le-mul}
use native.Mathlib.Omega.{arith}
use Rattle.array.specs.Answer.{refuses}
use Rattle.array.specs.Limits.{most_cells}
use Rattle.array.specs.Lists.{All}
use Rattle.array.specs.Kind.{Kind, Form, kind_test}
use Rattle.array.specs.Shape.{volume, shape_test}
use Rattle.valid.specs.ShapeCells.{shape_answer}
use Rattle.array.proofs.Rules.{shape_ok}
use Rattle.codec.specs.Mask.{mask_form}
use Rattle.codec.specs.Calls.{read_in, decode_answer, decoded}
use Rattle.array.specs.Outcome.{content_array}
use Rattle.array.proofs.Putting.{refused}
use Rattle.valid.proofs.ShapeLaws.{Counted, not_counted}
use Rattle.array.specs.Buffers.{read_outcome}

-- ---- the outcome, by the stages

module _ (k : Kind) (shape s m v o : List ℕ) where
  pub by_kind : kind_test k ≡ false → refused 1 (content_array m v o) ≡ decoded k shape s (content_array m v o)
  unfolding decoded decode_answer
  by_kind e = rw e

  module _ (e : kind_test k ≡ true) where
    pub by_shape : {number : ℕ} → refuses number ≡ shape_answer shape → refused number (content_array m v o) ≡ decoded k shape s (content_array m v o)
    unfolding decoded decode_answer
    by_shape {number} f = let n = not_counted shape number f in rw (e, n.0, n.1)

    pub by_reading : {n : ℕ} → Counted shape n → {f : Form} → k.form ≡ f
        → decoded k shape s (content_array m v o) ≡ read_outcome (content_array m v o) (read_in (mask_form k.masks) f k.depth n s)
    unfolding decoded decode_answer
    by_reading c ef = rw (e, c.passes, ef, c.is)
