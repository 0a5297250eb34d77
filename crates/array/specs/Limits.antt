-- docs/SPEC.md, S1.2, S1.3, S1.7: the limits, each under one name.
-- Assumes nothing.
use Rattle.std.specs.Prelude.{ℕ}

-- mask levels
abbrev pub most_depth : ℕ
most_depth = 4

-- bytes of a fixed cell
abbrev pub most_size : ℕ
most_size = 64

-- sides of a shape
abbrev pub most_sides : ℕ
most_sides = 4

-- cells of a shape, and of the interleaved form
unfoldable pub most_cells : ℕ
most_cells = 65536

-- value bytes of an array, of a merge and of a stored form
unfoldable pub most_bytes : ℕ
most_bytes = 8589934592
