-- The test of a live table's lists: what each step of it says.
-- Assumes nothing.
use mathlib.Core.Path.{◌≡◌, refl, sym, ◌∙◌}
use Prim.Native.Nat.{ℕ, ◌+◌, ◌*◌, ◌/◌, ◌<◌, ◌≤◌}
use native.Mathlib.Omega.{arith}
use mathlib.Core.Bool.{Bool, true, false}
use lib.ListN.{length, length-map}
use lib.Dec.{leb}
use borrow.Author.Tests.{le-leb, lt-leb, eq-eqb}
use Rattle.std.specs.Prelude.{Option, Some, None, is_some, MatchOption}
use Rattle.array.specs.Lists.{pieces}
use Rattle.array.specs.Subset.{subset_of}
use Rattle.array.specs.Places.{sum}
use Rattle.array.proofs.Lists.{length-pieces}
use Rattle.migrate.specs.Live.{LiveTable, chunk_count, moved_end, ListsOk, lists_test}
use Rattle.migrate.proofs.Live.{lists_ok}

-- a chunk for each start and length a side
pub chunk_count_is : (t : LiveTable) → chunk_count t ≡ length t.subsets / (2 * length t.shape)
chunk_count_is t =
    let r : ℕ = length t.shape in
    length-map (pieces (2 * r) (length t.subsets / (2 * r)) t.subsets) (subset_of r) ∙ length-pieces (2 * r) (length t.subsets / (2 * r)) t.subsets

pub lists_break : (t : LiveTable) → (ListsOk t → ⊥) → false ≡ lists_test t
lists_break t f = go (lists_test t) refl
  where
    go : (b : Bool) → lists_test t ≡ b → false ≡ b
    go true e = absurd (f (lists_ok t e))
    go false e = refl

-- whether what is left behind is there
pub left_there : (o : Option ℕ) (size need : ℕ) → MatchOption o (size < need) (λ left. left + need ≡ size) → is_some o ≡ leb need size
left_there (Some left) size need p = sym (le-leb need size (omega arith))
left_there None size need p = sym (lt-leb need size p)

pub lists_by : (t : LiveTable) → length t.old_lengths ≡ chunk_count t → length t.moved_lengths ≡ chunk_count t → sum t.old_lengths ≡ length t.old → t.moved ≤ chunk_count t
    → leb (moved_end t) (length t.area) ≡ lists_test t
lists_by t a b c d =
    rw (eq-eqb (length t.old_lengths) (chunk_count t) a, eq-eqb (length t.moved_lengths) (chunk_count t) b, eq-eqb (sum t.old_lengths) (length t.old) c, le-leb t.moved (chunk_count t) d)
