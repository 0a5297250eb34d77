-- The size of values of a form.
-- Assumes nothing.
use mathlib.Core.Path.{◌≡◌, refl}
use Prim.Native.Nat.{ℕ, ◌≤◌}
use native.Mathlib.Omega.{arith}
use mathlib.Core.List.{List}
use lib.ListN.{length, length-replicate, length-reverse}
use Rattle.array.specs.Lists.{All}
use Rattle.array.specs.Cells.{Value}
use Rattle.array.specs.Kind.{Form, fixed, ragged, Order, little, big, ordered, null_of}

-- a value has the size of a fixed form
abbrev pub OfSize : Form → Value → Type 0
OfSize (fixed k o) v = length v ≡ k
OfSize (ragged w p) v = Unit {0}

abbrev pub SizedAs : Form → List Value → Type 0
SizedAs f vs = All (OfSize f) vs

pub length-ordered : (o : Order) (v : Value) → length (ordered o v) ≡ length v
length-ordered little v = refl
length-ordered big v = length-reverse v

pub null_sized : (f : Form) → OfSize f (null_of f)
null_sized (fixed k o) = length-replicate k 0
null_sized (ragged w p) = tt

-- a null value is no longer than one of the form
pub null_least : (f : Form) (v : Value) → OfSize f v → length (null_of f) ≤ length v
null_least (fixed k o) v e = omega (arith, length-replicate {A = ℕ} k 0)
null_least (ragged w p) v e = omega arith
