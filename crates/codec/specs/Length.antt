-- Redundant by the law written_length_lem in codec/proofs/Lengths.antt: the written length (S4.10), the sum over the levels, outermost first.
-- Assumes nothing.
use Rattle.std.specs.Prelude.{ℕ, zero, suc, ◌+◌, ◌*◌, List, [], ◌∷◌, length}
use Rattle.array.specs.Lists.{joined}
use Rattle.array.specs.Kind.{Kind, Form, fixed, ragged}
use Rattle.array.specs.Cells.{Value, Cell}
use Rattle.array.specs.Content.{Content, cells_of}
use Rattle.codec.specs.Mask.{MaskForm, mask_form}
use Rattle.codec.specs.Frame.{keep}

-- the index length, the index of n + 1 offsets, and the value bytes
abbrev pub ragged_length : ℕ → ℕ → ℕ → ℕ
ragged_length w n bytes = 8 + w * suc n + bytes

abbrev pub values_length : Form → List Value → ℕ
values_length (fixed k o) vs = length vs * k
values_length (ragged w p) vs = ragged_length w (length vs) (length (joined vs))

-- nothing where no cell is left
abbrev pub length_or_none : {A : Type 0} → (List A → ℕ) → List A → ℕ
length_or_none f [] = 0
length_or_none f (x ∷ xs) = f (x ∷ xs)

unfoldable pub frame_length : MaskForm → Form → (d : ℕ) → List (Cell d) → ℕ
frame_length mf f zero cs = values_length f cs
frame_length mf f (suc d) cs = 16 + mf.size (length cs) + length_or_none (frame_length mf f d) (keep cs)

-- the written length of an array of n cells
abbrev pub written_length : Kind → ℕ → Content → ℕ
written_length k n c = frame_length (mask_form k.masks) k.form k.depth (cells_of k n c)
