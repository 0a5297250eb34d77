-- docs/SPEC.md, S12.4: what holds of a load.
-- It is a valid array in rest form, of bytes, determined by the depth, the cell size or raggedness, the shape and the start number.
-- Assumes nothing.
use Rattle.std.specs.Prelude.{ℕ, ◌<◌, ◌≡◌, List}
use Rattle.array.specs.Answer.{gives}
use Rattle.array.specs.Lists.{All}
use Rattle.array.specs.Kind.{Kind, KindOk, Form, fixed, ragged}
use Rattle.array.specs.Shape.{volume, ShapeOk}
use Rattle.array.specs.Content.{Content, Valid, rest_form}
use Rattle.array.specs.Buffers.{lengths_of, Enough, content_outcome}
use Rattle.load.specs.Load.{load_of}
use Rattle.load.specs.Calls.{generated}

-- forms that differ at most in byte order, index width or index place
abbrev pub SameSize : Form → Form → Type 0
SameSize (fixed k o) (fixed k' o') = k ≡ k'
SameSize (fixed k o) (ragged w p) = ⊥
SameSize (ragged w p) (fixed k o) = ⊥
SameSize (ragged w p) (ragged w' p') = Unit {0}

pub record LoadLaw (k : Kind) (shape : List ℕ) (s : ℕ) : Type 0 where
  pub valid : Valid k shape (load_of k shape s)
  pub rests : rest_form k (volume shape) (load_of k shape s) ≡ load_of k shape s
  pub bytes : All (λ b. b < 256) (load_of k shape s).values
  -- nothing but 6 is refused
  pub given : (out : Content) → Enough (load_of k shape s) (lengths_of out) → generated k shape s out ≡ content_outcome (gives (load_of k shape s)) out
  -- the same array, answer and bytes for every kind that is alike
  pub determined : (j : Kind) → KindOk j → j.depth ≡ k.depth → SameSize j.form k.form → (out : Content) → generated j shape s out ≡ generated k shape s out

abbrev pub Loads : Type 0
Loads = (k : Kind) → KindOk k → (shape : List ℕ) → ShapeOk shape → (s : ℕ) → LoadLaw k shape s
