-- Redundant by the law ragged_given in decode_ragged/proofs/RaggedLaws.antt: what is read (S4.7 to S4.9), by positions in the stored bytes s.
-- Once the walk and the check have passed, for n cells below d levels whose masks lie as mf or x says; and what the copying rests on.
-- Assumes nothing.
use Rattle.std.specs.Prelude.{ℕ, ◌≡◌, List, [], take, drop}
use Rattle.array.specs.Kind.{Masks, ragged, at_start}
use Rattle.array.specs.Offsets.{slices_from}
use Rattle.array.specs.Content.{Content, layout}
use Rattle.codec.specs.Mask.{MaskForm, mask_form}
use Rattle.stored_index.specs.declared.Index.{Index}
use Rattle.stored_frames.specs.Stored.{cells_from, MasksWithin, innermost_count}
use Rattle.stored_index.specs.Index.{ends_in, IndexWithin}
use Rattle.decode_planes.specs.Limited.{Limited}

-- ---- ragged values below masks, with the index i that was found

unfoldable pub nested_from : MaskForm → ℕ → ℕ → List ℕ → ℕ → Index → Content
nested_from mf w d s n i = layout (ragged w at_start) d (cells_from mf [] d s 0 n (slices_from 0 (ends_in w s i) (take i.last (drop i.from s))))

pub record RaggedWithin (x : Masks) (w d : ℕ) (s : List ℕ) (n : ℕ) (i : Index) : Type 0 where
  pub limits : Limited d n
  pub masks : MasksWithin (mask_form x) d s 0 n
  pub count : i.cells ≡ innermost_count (mask_form x) d s n
  pub index : IndexWithin w s i
