-- The law's hypotheses can be met: a ragged kind of depth 2 with packed masks, and one with bytes that is alike, of a shape of 2 × 2.
-- Assumes nothing.
use mathlib.Core.Path.{◌≡◌, refl}
use mathlib.Core.Logic.{inl, inr}
use Prim.Native.Nat.{ℕ}
use native.Mathlib.Omega.{arith}
use mathlib.Core.List.{List, [], ◌∷◌}
use lib.Dec.{lit≤}
use Rattle.array.specs.Answer.{gives}
use Rattle.array.specs.Limits.{most_cells}
use Rattle.array.specs.Kind.{Kind, KindOk, as_bytes, as_bits, ragged, at_start, at_end}
use Rattle.array.specs.Shape.{ShapeOk}
use Rattle.array.specs.Content.{Content}
use Rattle.load.specs.Generator.{draw, draw_bytes}
use Rattle.load.specs.Load.{draw_value, draw_cell, draw_cells}
use Rattle.load.specs.Calls.{generated}
use Rattle.load.specs.Law.{LoadLaw}
use Rattle.load.specs.Lines.{array}
use Rattle.load.proofs.Law.{loads}

abbrev kind : Kind
kind = record { depth = 2; masks = as_bits; form = ragged 4 at_end }

abbrev alike : Kind
alike = record { depth = 2; masks = as_bytes; form = ragged 8 at_start }

abbrev shape : List ℕ
shape = 2 ∷ 2 ∷ []

sound : KindOk kind
sound = record { shallow = lit≤ tt; sound = inl refl }

alike_sound : KindOk alike
alike_sound = record { shallow = lit≤ tt; sound = inr refl }

shaped : ShapeOk shape
unfolding most_cells
shaped = record { some_sides = lit≤ tt; few_sides = lit≤ tt; sides = omega arith; few_cells = lit≤ tt }

law : LoadLaw kind shape 7
law = loads kind sound shape shaped 7

abbrev lent : Content
lent = array (9 ∷ 9 ∷ 9 ∷ 9 ∷ 9 ∷ 9 ∷ 9 ∷ 9 ∷ []) (9 ∷ 9 ∷ 9 ∷ 9 ∷ 9 ∷ 9 ∷ []) (9 ∷ 9 ∷ 9 ∷ 9 ∷ 9 ∷ [])

abbrev made : Content
made = array (0 ∷ 1 ∷ 1 ∷ 0 ∷ 0 ∷ 0 ∷ 1 ∷ 0 ∷ []) (0x69 ∷ 0x98 ∷ 0x9B ∷ 0xE3 ∷ 0x09 ∷ 9 ∷ []) (0 ∷ 0 ∷ 0 ∷ 5 ∷ 5 ∷ [])

pub given : generated kind shape 7 lent ≡ record { answer = gives (record { masks = 8; values = 5; offsets = 5 }); buffers = made }
unfolding draw draw_bytes draw_value draw_cell draw_cells
given = law.given lent (record { for_masks = lit≤ tt; for_values = lit≤ tt; for_offsets = lit≤ tt })

pub same : generated alike shape 7 lent ≡ generated kind shape 7 lent
same = law.determined alike alike_sound refl tt lent
