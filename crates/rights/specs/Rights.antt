-- docs/SPEC.md, S14.1 to S14.3: a rights plane, and what a guest sees of an array.
-- Assumes nothing.
use Rattle.std.specs.Prelude.{ℕ, Bool, List, [], ◌∷◌, get_or, ltb}
use Rattle.array.specs.Lists.{pick}
use Rattle.array.specs.Kind.{Kind}
use Rattle.array.specs.Cells.{set_test}
use Rattle.array.specs.Content.{Content, StrictBytes, strict_bytes_test, rest_form}

-- a rights plane of n cells has one byte a cell, each 00 or 01: refusal 4
abbrev pub RightsOk : ℕ → List ℕ → Type 0
RightsOk n rights = StrictBytes n rights

abbrev pub rights_test : ℕ → List ℕ → Bool
rights_test n rights = strict_bytes_test n rights

-- whether it shows cell j
abbrev pub permits : List ℕ → ℕ → Bool
permits rights j = set_test (get_or rights j 0)

-- only a kind with masks can hide a cell: refusal 17
abbrev pub masked_test : Kind → Bool
masked_test k = ltb 0 k.depth

-- the outermost mask, which comes first, cleared where the plane is not 01
abbrev pub cleared : List ℕ → List ℕ → List ℕ
cleared [] ms = ms
cleared (r ∷ rs) [] = []
cleared (r ∷ rs) (m ∷ ms) = pick (set_test r) m 0 ∷ cleared rs ms

abbrev pub hidden_by : List ℕ → Content → Content
hidden_by rights c = record { masks = cleared rights c.masks; values = c.values; offsets = c.offsets }

-- what a guest sees of n cells: the rest form, with the outermost mask cleared
abbrev pub guest_form : Kind → ℕ → List ℕ → Content → Content
guest_form k n rights c = rest_form k n (hidden_by rights c)
