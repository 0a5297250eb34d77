-- docs/SPEC.md, S6.8, S6.9: reverse_endianness and subset_cells, what each answers, and what it leaves in the lent buffers.
-- Assumes nothing.
use Rattle.std.specs.Prelude.{ℕ, ◌*◌, ◌/◌, List, ◌++◌, map, reverse, length, drop, leb}
use Rattle.array.specs.Answer.{Answer, gives, refuses, unless, Outcome}
use Rattle.array.specs.Kind.{fixed, little, form_test}
use Rattle.array.specs.Lists.{joined, pieces}
use Rattle.array.specs.Shape.{shape_test}
use Rattle.array.specs.Subset.{subset_of, numbers_test, cells_in}
use Rattle.array.specs.Buffers.{list_outcome, if_room}

-- ---- reverse_endianness (S6.8)

-- how many bytes of a string lie in whole cells of size k
abbrev pub whole_cells : ℕ → List ℕ → ℕ
whole_cells k s = length s / k * k

-- the first n cells of size k, each reversed
abbrev pub reversed_cells : ℕ → ℕ → List ℕ → List ℕ
reversed_cells k n s = joined (map reverse (pieces k n s))

-- each whole cell of size k reversed, a shorter tail left
abbrev pub cells_reversed : ℕ → List ℕ → List ℕ
cells_reversed k s = reversed_cells k (length s / k) s ++ drop (whole_cells k s) s

-- Each whole cell of the lent bytes reversed in place. Success names the length of the
-- whole cells; the shorter tail is left. A size that no fixed kind has is refusal 1.
unfoldable pub reverse_answer : ℕ → List ℕ → Answer ℕ
reverse_answer k s = unless (form_test (fixed k little)) 1 (gives (whole_cells k s))

abbrev pub bytes_reversed : ℕ → Answer ℕ → List ℕ → List ℕ
bytes_reversed k (gives n) s = cells_reversed k s
bytes_reversed k (refuses r) s = s

unfoldable pub endianness_reversed : ℕ → List ℕ → Outcome ℕ (List ℕ)
unfolding reverse_answer
endianness_reversed k s = record { answer = reverse_answer k s; buffers = bytes_reversed k (reverse_answer k s) s }

-- ---- subset_cells (S6.9): the numbers of the cells of a subset, in row order

unfoldable pub cells_answer : List ℕ → List ℕ → ℕ → Answer (List ℕ)
cells_answer shape ns room =
    let cells = cells_in shape (subset_of (length shape) ns) in
    unless (shape_test shape) 2
    (unless (numbers_test shape ns) 3
    (if_room (leb (length cells) room) cells))

unfoldable pub subset_cells : List ℕ → List ℕ → List ℕ → Outcome ℕ (List ℕ)
unfolding cells_answer
subset_cells shape ns out = list_outcome (cells_answer shape ns (length out)) out
