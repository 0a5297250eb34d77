-- docs/SPEC.md, S3.4, S3.5: a subset cut from an array.
-- The masks and values of its cells, in row order, hidden values kept, ragged values end to end from offset 0.
-- Assumes nothing.
use Rattle.std.specs.Prelude.{ℕ, List}
use Rattle.array.specs.Kind.{Kind}
use Rattle.array.specs.Shape.{volume}
use Rattle.array.specs.Subset.{Subset, cells_in}
use Rattle.array.specs.Cells.{Cell}
use Rattle.array.specs.Content.{Content, layout, cells_of, null_cell}
use Rattle.chunks.specs.Gather.{gather}

abbrev pub cells_at : (k : Kind) → List ℕ → Content → Subset → List (Cell k.depth)
cells_at k shape c b = gather (null_cell k) (cells_of k (volume shape) c) (cells_in shape b)

abbrev pub cut_of : Kind → List ℕ → Content → Subset → Content
cut_of k shape c b = layout k.form k.depth (cells_at k shape c b)
