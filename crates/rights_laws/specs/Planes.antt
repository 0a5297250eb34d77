-- docs/SPEC.md, S14.8: what two rights planes show both, and a plane as an array, which is cut and merged as any other.
-- Assumes nothing.
use Rattle.std.specs.Prelude.{ℕ, ◌&&◌, List, [], ◌∷◌}
use Rattle.array.specs.Lists.{pick}
use Rattle.array.specs.Kind.{Kind, byte_kind, fixed, little}
use Rattle.array.specs.Cells.{set_test}
use Rattle.array.specs.Content.{Content}

-- the plane that shows what both show, cell by cell
abbrev pub both : List ℕ → List ℕ → List ℕ
both [] ss = []
both (r ∷ rs) [] = []
both (r ∷ rs) (s ∷ ss) = pick (set_test r && set_test s) 1 0 ∷ both rs ss

-- a plane's bytes are the values of an array of depth 0 with cells of one byte
abbrev pub plane_kind : Kind
plane_kind = byte_kind 0 (fixed 1 little)

abbrev pub plane_array : List ℕ → Content
plane_array rights = record { masks = []; values = rights; offsets = [] }
