-- Redundant by the law encode_encodable in encode/proofs/Encodes.antt: what the writing leans on, valid content of a sound kind (S1.9).
-- To measure it, its masks and offsets are enough: encodable_measured in encode_values/proofs/Forms.antt.
-- Assumes nothing.
use Rattle.std.specs.Prelude.{ℕ, suc, ◌*◌, ◌≤◌, ◌≡◌, List, length}
use Rattle.array.specs.Limits.{most_bytes, most_cells, most_depth, most_size}
use Rattle.array.specs.Kind.{Kind, KindOk, Form, fixed, ragged}
use Rattle.array.specs.Offsets.{last, Rising}
use Rattle.array.specs.Content.{Content, ContentOk}

-- It stands in five contracts, and no struct carries it: lengths ask less (Measured), and a frame and its values have their cells by a level,
-- so that each would take kind, cells and array out of the struct again.
pub record Encodable (k : Kind) (n : ℕ) (c : Content) : Type 0 where
  pub kind : KindOk k
  pub some : 1 ≤ n
  pub few : n ≤ most_cells
  pub content : ContentOk k n c
  pub small : length c.values ≤ most_bytes

abbrev pub MeasuresOk : Form → ℕ → List ℕ → Type 0
MeasuresOk (fixed k o) n os = k ≤ most_size
MeasuresOk (ragged w p) n os = (length os ≡ suc n) × Rising os × (last os ≤ most_bytes)

pub record Measured (k : Kind) (n : ℕ) (masks os : List ℕ) : Type 0 where
  pub shallow : k.depth ≤ most_depth
  pub some : 1 ≤ n
  pub few : n ≤ most_cells
  pub planes : k.depth * n ≤ length masks
  pub sizes : MeasuresOk k.form n os
