-- `valid::array_bytes::rise_from_zero` meets its contract. The invariants: the test of all offsets is the test of those that are left.
-- Assumes nothing.
use mathlib.Core.Path.{◌≡◌}
use mathlib.Core.List.{◌++◌}
use Prim.Native.Nat.{suc, ◌%◌}
use lib.ListN.{length, take, drop}
use Rattle.std.specs.Slice.Iter.{chunks_exact_rest, chunks_exact_size}
use Rattle.array.specs.Offsets.{rising_test, rising_from_test}
use Rattle.valid.proofs.array_bytes.rise_from_zero.Given as goal

abbrev pub invariant-loop-four : goal.invariant-loop-four
invariant-loop-four l =
    let left = chunks_exact_rest l.four-iterator in
    (chunks_exact_size l.four-iterator ≡ 4) × (length left % 4 ≡ 0)
    × (rising_test (take (suc l.n) l.offsets) ≡ rising_from_test l.last (left ++ l.rest))

abbrev pub invariant-loop-next : goal.invariant-loop-next
invariant-loop-next l = rising_test (take (suc l.n) l.offsets) ≡ rising_from_test l.last (drop l.next-index l.rest)
