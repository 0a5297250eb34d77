-- docs/SPEC.md, S3.6, S3.8: a chunk list, in which subsets, masks, values and offsets each lie end to end, and the merge of it.
-- Each chunk has its own planes, outermost first, and its own offsets, counted from the start of its own value bytes.
-- Assumes nothing.
use Rattle.std.specs.Prelude.{ℕ, suc, ◌*◌, ◌≡◌, Bool, ◌&&◌, List, [], ◌∷◌, ◌++◌, length, take, drop, eqb}
use Rattle.array.specs.Answer.{Answer, gives, unless, and_then}
use Rattle.array.specs.Kind.{Kind, Form, fixed, ragged}
use Rattle.array.specs.Shape.{volume}
use Rattle.array.specs.Subset.{Subset, lengths, cells_of_all}
use Rattle.array.specs.Offsets.{last}
use Rattle.array.specs.Cells.{Cell}
use Rattle.array.specs.Content.{Content, layout, cells_of, array_test, null_cell}
use Rattle.chunks.specs.Gather.{put_back}

abbrev pub no_content : Content
no_content = record { masks = []; values = []; offsets = [] }

-- one chunk after another
abbrev pub follow : Content → Content → Content
follow a b = record { masks = a.masks ++ b.masks; values = a.values ++ b.values; offsets = a.offsets ++ b.offsets }

-- ---- the first chunk, of m cells, and the later ones

abbrev pub offset_count : Form → ℕ → ℕ
offset_count (fixed k o) m = 0
offset_count (ragged w p) m = suc m

-- a ragged chunk has as many value bytes as its last offset says
abbrev pub value_count : Form → ℕ → List ℕ → ℕ
value_count (fixed k o) m os = m * k
value_count (ragged w p) m os = last os

abbrev pub first_chunk : Kind → ℕ → Content → Content
first_chunk k m c =
    let os = take (offset_count k.form m) c.offsets in
    record { masks = take (k.depth * m) c.masks; values = take (value_count k.form m os) c.values; offsets = os }

abbrev pub later_chunks : Kind → ℕ → Content → Content
later_chunks k m c =
    let os = take (offset_count k.form m) c.offsets in
    record {
      masks = drop (k.depth * m) c.masks;
      values = drop (value_count k.form m os) c.values;
      offsets = drop (offset_count k.form m) c.offsets;
    }

-- ---- the cells of all chunks, in the list's order; refusal 4 where a chunk breaks the array's rules or something is left over

pub record Nothing (c : Content) : Type 0 where
  pub without_masks_lem : length c.masks ≡ 0
  pub no_values : length c.values ≡ 0
  pub no_offsets : length c.offsets ≡ 0

abbrev pub nothing_test : Content → Bool
nothing_test c = eqb (length c.masks) 0 && eqb (length c.values) 0 && eqb (length c.offsets) 0

unfoldable pub chunk_cells : (k : Kind) → List Subset → Content → Answer (List (Cell k.depth))
chunk_cells k [] c = unless (nothing_test c) 4 (gives [])
chunk_cells k (b ∷ bs) c =
    let m = volume (lengths b) in
    unless (array_test k m (first_chunk k m c)) 4
    (and_then (chunk_cells k bs (later_chunks k m c)) (λ cs. gives (cells_of k m (first_chunk k m c) ++ cs)))

-- the chunks' cells, each in its place of the shape
abbrev pub merge_of : (k : Kind) → List ℕ → List Subset → List (Cell k.depth) → Content
merge_of k shape bs cs = layout k.form k.depth (put_back (null_cell k) (volume shape) (cells_of_all shape bs) cs)
