-- The range of a cell's size, by the test of a fixed form.
-- Assumes nothing.
use mathlib.Core.Path.{◌≡◌}
use mathlib.Core.Bool.{true, false}
use Prim.Native.Nat.{ℕ, ◌≤◌, ◌<◌}
use native.Mathlib.Omega.{arith}
use borrow.Author.Tests.{le-leb, lt-leb}
use Rattle.array.specs.Kind.{fixed, Order, form_test}

pub size_fits : (k : ℕ) (o : Order) → 1 ≤ k → k ≤ 64 → form_test (fixed k o) ≡ true
size_fits k o p q = rw (le-leb 1 k p, le-leb k 64 q)

pub size_none : {k : ℕ} (o : Order) → k ≡ 0 → form_test (fixed k o) ≡ false
size_none o e = rw e

pub size_over : (k : ℕ) (o : Order) → 64 < k → form_test (fixed k o) ≡ false
size_over k o h = let p : 1 ≤ k = omega arith in rw (le-leb 1 k p, lt-leb k 64 h)
