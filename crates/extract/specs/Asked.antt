-- Redundant by the laws cut_values_asked and cut_planes_asked in extract/proofs/Cutting.antt: what the walks over a subset's rows ask.
-- Assumes nothing.
use Rattle.std.specs.Prelude.{◌≡◌, ℕ, ◌+◌, ◌*◌, ◌≤◌, List, length}
use Rattle.array.specs.Lists.{joined}
use Rattle.array.specs.Kind.{Kind, Form, fixed, ragged}
use Rattle.array.specs.Shape.{volume}
use Rattle.array.specs.Content.{Content, RaggedContent, ContentOk, offsets_for}
use Rattle.array.specs.Places.{begins_at, values_at}
use Rattle.cut_ragged.specs.declared.Source.TheVariants.{Numbers}
use Rattle.cut_ragged.specs.Source.{SourceAsked}

-- cells of one size: the array's lie in the source from base on, the subset's have room in the output from `to` on
pub record CellsAsked (out : List ℕ) (to : ℕ) (src : List ℕ) (base size : ℕ) (shape : List ℕ) (count : ℕ) : Type 0 where
  pub source : base + volume shape * size ≤ length src
  pub room : to + count * size ≤ length out

-- planes of so many cells
pub record PlanesAsked (out src : List ℕ) (depth cells : ℕ) (shape : List ℕ) (count : ℕ) : Type 0 where
  pub shallow : depth ≤ 255
  pub whole : cells ≡ volume shape
  pub source : length src ≡ depth * cells
  pub room : depth * count ≤ length out

-- values of either form, of the cells of a shape
abbrev pub ValuesAsked : Form → List ℕ → List ℕ → List ℕ → Type 0
ValuesAsked (fixed k o) values os shape = 0 + volume shape * k ≤ length values
ValuesAsked (ragged w p) values os shape = SourceAsked Numbers 0 0 os values (volume shape)

-- those of the cells js, with the offsets of ragged ones
abbrev pub values_cut : Form → List ℕ → List ℕ → List ℕ → RaggedContent
values_cut form values os js = record { values = joined (values_at (begins_at form os) values js); offsets = offsets_for form (values_at (begins_at form os) values js) }

-- an array that keeps the rules, of so many cells
pub record ArrayAsked (k : Kind) (cells : ℕ) (shape : List ℕ) (c : Content) : Type 0 where
  pub whole : cells ≡ volume shape
  pub content : ContentOk k (volume shape) c
