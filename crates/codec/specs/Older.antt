-- docs/SPEC.md, S8.8: what is written in the older form reads as the array's rest form.
-- Nothing is refused where each cell fits its length field and the outputs are long enough, and the written length is that of S5.5.
-- Assumes nothing.
use Rattle.std.specs.Prelude.{ℕ, ◌≤◌, ◌≡◌, List, length}
use Rattle.array.specs.Answer.{gives}
use Rattle.array.specs.Kind.{Kind, Masks, Place, ragged}
use Rattle.array.specs.Shape.{volume}
use Rattle.array.specs.Content.{Content, RaggedContent, Valid, values_in, rest_form}
use Rattle.array.specs.Buffers.{ragged_lengths_of, RaggedEnough, list_outcome, ragged_outcome}
use Rattle.codec.specs.Carried.{FieldsFit}
use Rattle.codec.specs.Interleaved.{interleaved_length}
use Rattle.codec.specs.Calls.{interleaved_decoded, interleaved_form, interleaved_encoded}

-- the kinds of the older form
abbrev pub flat_kind : Masks → ℕ → Place → Kind
flat_kind x w p = record { depth = 0; masks = x; form = ragged w p }

module _ (k : Kind) (shape : List ℕ) (A : Content) where
  abbrev pub older_length : ℕ
  older_length = interleaved_length (values_in k.form (volume shape) A)

  -- values and offsets of the rest form
  abbrev pub rest_ragged : RaggedContent
  rest_ragged = record { values = (rest_form k (volume shape) A).values; offsets = (rest_form k (volume shape) A).offsets }

  -- written into out, and exactly what was written read into back
  pub record OlderWay (out : List ℕ) (back : RaggedContent) : Type 0 where
    pub writes : interleaved_encoded k shape A out ≡ list_outcome (gives (interleaved_form k (volume shape) A)) out
    pub long : length (interleaved_form k (volume shape) A) ≡ older_length
    pub reads : interleaved_decoded (volume shape) (interleaved_form k (volume shape) A) back ≡ ragged_outcome (gives rest_ragged) back

abbrev pub OlderReturns : Type 0
OlderReturns =
    (x : Masks) (w : ℕ) (p : Place) (shape : List ℕ) (A : Content) → Valid (flat_kind x w p) shape A → FieldsFit (values_in (ragged w p) (volume shape) A)
    → (out : List ℕ) → older_length (flat_kind x w p) shape A ≤ length out
    → (back : RaggedContent) → RaggedEnough (rest_ragged (flat_kind x w p) shape A) (ragged_lengths_of back)
    → OlderWay (flat_kind x w p) shape A out back
