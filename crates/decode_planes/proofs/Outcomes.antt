-- The outcomes of the need and of the copying, by the parts of the content, as array's law of a result that is put says them (Putting).
-- Assumes nothing.
use mathlib.Core.Path.{◌≡◌, refl, sym}
use mathlib.Core.List.{List}
use Prim.Native.Nat.{ℕ, ◌≤◌, ◌<◌}
use native.Mathlib.Omega.{arith}
use lib.ListN.{length}
use Rattle.std.specs.Prelude.{Err}
use Rattle.array.specs.declared.refusal.Refusal.{Refusal}
use Rattle.array.proofs.Answers.{wrote}
use Rattle.array.specs.Answer.{gives}
use Rattle.array.specs.Content.{Content}
use Rattle.array.specs.Buffers.{over, read_outcome}
use Rattle.array.specs.Outcome.{content_array, outcome_array}
use Rattle.array.proofs.Putting.{without_masks_lem, no_values, no_offsets, put}

module _ (c : Content) (m v o : List ℕ) where
  pub short_masks : length m < length c.masks → outcome_array (Err Refusal.Output) m v o ≡ read_outcome (content_array m v o) (gives c)
  short_masks h = without_masks_lem c (content_array m v o) (length c.masks) refl h

  pub short_values : length v < length c.values → outcome_array (Err Refusal.Output) m v o ≡ read_outcome (content_array m v o) (gives c)
  short_values h = no_values c (content_array m v o) (length c.values) refl h

  pub short_offsets : length o < length c.offsets → outcome_array (Err Refusal.Output) m v o ≡ read_outcome (content_array m v o) (gives c)
  short_offsets h = no_offsets c (content_array m v o) (length c.offsets) refl h

  pub all_written : length c.masks ≤ length m → length c.values ≤ length v → length c.offsets ≤ length o → {a b e : ℕ} {m' v' o' : List ℕ}
      → a ≡ length c.masks → b ≡ length c.values → e ≡ length c.offsets → m' ≡ over c.masks m → v' ≡ over c.values v → o' ≡ over c.offsets o
      → outcome_array (wrote a b e) m' v' o' ≡ read_outcome (content_array m v o) (gives c)
  all_written h i j {a} {b} {e} {m'} {v'} {o'} ea eb ee em ev eo =
      put c (content_array m v o) a b e (sym ea) (sym eb) (sym ee) (omega arith) (omega arith) (omega arith) m' v' o' em ev eo
