-- What a ragged merge asks follows from the checks: a chunk list that gives cells, subsets that cover, and room for the value bytes.
-- Assumes nothing.
use mathlib.Core.Path.{◌≡◌, sym, ap, ◌∙◌}
use Prim.Native.Nat.{ℕ, ◌<◌, ◌≤◌}
use mathlib.Core.List.{List}
use lib.ListN.{length}
use Rattle.array.specs.Places.{sum}
use Rattle.array.specs.Cells.{Cell}
use Rattle.array.specs.Content.{Content, leaves}
use Rattle.array.specs.Limits.{most_bytes}
use Rattle.array.specs.Kind.{Masks, ragged, Place}
use Rattle.array.specs.Shape.{volume}
use Rattle.array.specs.Subset.{Subset, cells_of_all}
use Rattle.chunks.specs.Gather.{Once}
use Rattle.merge_stores.specs.Ragged.{RaggedMergeAsked}
use Rattle.merge_stores.proofs.Blocks.{length-joined}
use Rattle.merge_stores.proofs.FirstChunk.{Chunked, all_values}
use Rattle.merge_stores.proofs.RaggedTies.{length_chunks, ragged_lengths_lem}

pub ragged_asked : (x : Masks) (w d : ℕ) (p : Place) {sh : List ℕ} {bs : List Subset} → Once (volume sh) (cells_of_all sh bs)
    → {c : Content} {cs : List (Cell d)} → Chunked (record { depth = d; masks = x; form = ragged w p }) bs c cs
    → (outv outo : List ℕ) {n : ℕ} → n ≡ volume sh → n < length outo → length c.values ≤ most_bytes → length c.values ≤ length outv
    → RaggedMergeAsked sh bs outv outo c.values c.offsets n
ragged_asked x w d p {sh} {bs} once {c} {cs} e outv outo {n} counted room small enough =
    record {
      once = once;
      counted = counted;
      room = room;
      lengths_fit = length_chunks x w d p bs e;
      summed = ap sum (sym (ragged_lengths_lem x w d p bs e)) ∙ sym (length-joined (leaves d cs)) ∙ ap length (all_values bs e);
      small = small;
      enough = enough;
    }
