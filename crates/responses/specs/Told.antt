-- Redundant: no promise of a call rests on it, only the gate's programs do. The lengths that answers name, as three lengths.
-- Assumes nothing.
use Rattle.std.specs.Prelude.{ℕ}
use Rattle.text.specs.Scan.{between}
use Rattle.array.specs.Content.{Content}
use Rattle.array.specs.declared.answer.Lengths.{Lengths}
use Rattle.array.specs.declared.answer.RaggedLengths.{RaggedLengths}

abbrev pub only_values : ℕ → Lengths
only_values n = record { masks = 0; values = n; offsets = 0 }

abbrev pub only_offsets : ℕ → Lengths
only_offsets n = record { masks = 0; values = 0; offsets = n }

abbrev pub no_masks : RaggedLengths → Lengths
no_masks n = record { masks = 0; values = n.values; offsets = n.offsets }

-- the lists of an array up to three lengths
abbrev pub up_to : Lengths → Content → Content
up_to n c = record { masks = between 0 n.masks c.masks; values = between 0 n.values c.values; offsets = between 0 n.offsets c.offsets }
