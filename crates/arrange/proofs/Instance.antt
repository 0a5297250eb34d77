-- The law's hypotheses can be met: a ragged kind of depth 2 with packed masks, and a shape of 1 × 2.
-- Assumes nothing.
use mathlib.Core.Path.{◌≡◌, refl}
use mathlib.Core.Logic.{inl}
use Prim.Native.Nat.{ℕ}
use mathlib.Core.List.{List, [], ◌∷◌}
use lib.Dec.{lit≤, lit<}
use Rattle.array.specs.Answer.{gives}
use Rattle.array.specs.Limits.{most_cells, most_bytes}
use Rattle.array.specs.Kind.{Kind, as_bits, ragged, at_end}
use Rattle.array.specs.Content.{Content}
use Rattle.array.proofs.Rules.{kind_ok, shape_ok, array_ok}
use Rattle.arrange.specs.Calls.{arranged}
use Rattle.arrange.specs.Law.{SmallRest, JustOne, Complete}
use Rattle.arrange.specs.Lines.{array}
use Rattle.arrange.proofs.Law.{arrangements}

abbrev kind : Kind
kind = record { depth = 2; masks = as_bits; form = ragged 4 at_end }

abbrev shape : List ℕ
shape = 1 ∷ 2 ∷ []

pub law : Complete kind shape
unfolding most_cells
law = arrangements 2 as_bits 4 at_end (lit≤ tt) (inl refl) shape (shape_ok shape refl) (lit≤ tt)

-- two bytes, and a null at the inner level
abbrev two : Content
two = array (1 ∷ 1 ∷ 1 ∷ 0 ∷ []) (0 ∷ 0 ∷ []) (0 ∷ 2 ∷ 2 ∷ [])

pub small : SmallRest kind shape two
unfolding most_cells most_bytes
small = record {
  valid = record { kind = kind_ok kind refl; shaped = shape_ok shape refl; content = array_ok kind 2 two refl; small = lit≤ tt };
  rests = refl;
  zeros = (refl, (refl, tt));
  short = (lit≤ tt, (lit≤ tt, tt));
}

abbrev pub one : JustOne 2 2 two
one = law.every_one two small

pub is_25 : 25 ≡ one.number
is_25 = one.only 25 (lit< tt) refl

pub given : arranged 2 2 25 (array (9 ∷ 9 ∷ 9 ∷ 9 ∷ []) (9 ∷ 9 ∷ []) (9 ∷ 9 ∷ 9 ∷ [])) ≡ record { answer = gives (record { masks = 4; values = 2; offsets = 3 }); buffers = two }
given = law.given 25 (lit< tt) (array (9 ∷ 9 ∷ 9 ∷ 9 ∷ []) (9 ∷ 9 ∷ []) (9 ∷ 9 ∷ 9 ∷ [])) (record { for_masks = lit≤ tt; for_values = lit≤ tt; for_offsets = lit≤ tt })
