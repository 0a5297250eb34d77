-- A state and its cell: the cell is small and in rest form, and each such cell has just one state.
-- Assumes nothing.
use mathlib.Core.Path.{◌≡◌, refl, ap}
use Prim.Native.Nat.{ℕ, zero, suc, ◌<◌, ◌≤◌}
use native.Mathlib.Omega.{arith}
use mathlib.Core.List.{[], ◌∷◌}
use lib.ListN.{length, replicate, length-replicate}
use Rattle.array.specs.Lists.{All}
use Rattle.array.specs.Cells.{Value, Cell, Strict, leaf, rest}
use Rattle.array.proofs.RestLaws.{leaf_blank, StrictCell, strict_blank}
use Rattle.arrange.specs.Arrangement.{states, state_cell}

abbrev pub Zeros : Value → Type 0
Zeros v = All (λ b. b ≡ 0) v

pub record SmallCell (d : ℕ) (c : Cell d) : Type 0 where
  pub strict : StrictCell d c
  pub rests : rest [] d c ≡ c
  pub zeros : Zeros (leaf d c)
  pub short : length (leaf d c) ≤ 3

-- ---- from a state to its cell

zeros-replicate : (n : ℕ) → Zeros (replicate n 0)
zeros-replicate zero = tt
zeros-replicate (suc n) = (refl, zeros-replicate n)

pub state_small : (d i : ℕ) → i < states d → SmallCell d (state_cell d i)
state_small zero i h = record { strict = tt; rests = refl; zeros = zeros-replicate i; short = omega (arith, length-replicate {A = ℕ} i 0) }
state_small (suc d) zero h = record {
  strict = (omega arith, strict_blank [] d);
  rests = refl;
  zeros = leaf_blank [] Zeros d tt;
  short = leaf_blank [] (λ v. length v ≤ 3) d (omega arith);
}
state_small (suc d) (suc i) h =
    let r : SmallCell d (state_cell d i) = state_small d i (omega arith) in
    record { strict = (omega arith, r.strict); rests = ap (λ (x : Cell d). (1, x)) r.rests; zeros = r.zeros; short = r.short }

-- ---- from a cell to its state

abbrev state_by : ℕ → ℕ → ℕ
state_by zero i = zero
state_by (suc m) i = suc i

abbrev pub state_of : (d : ℕ) → Cell d → ℕ
state_of zero v = length v
state_of (suc d) c = state_by c.0 (state_of d c.1)

pub state_again : (d i : ℕ) → state_of d (state_cell d i) ≡ i
state_again zero i = length-replicate i 0
state_again (suc d) zero = refl
state_again (suc d) (suc i) = ap suc (state_again d i)

replicate_zeros : (v : Value) → Zeros v → replicate (length v) 0 ≡ v
replicate_zeros [] p = refl
replicate_zeros (b ∷ v) p = let e : replicate (length v) 0 ≡ v = replicate_zeros v p.1 in cc p.0

pub record Stated (d : ℕ) (c : Cell d) : Type 0 where
  pub below : state_of d c < states d
  pub again : state_cell d (state_of d c) ≡ c

pub small_stated : (d : ℕ) (c : Cell d) → SmallCell d c → Stated d c
small_stated zero v p = record { below = omega (arith, p.short); again = replicate_zeros v p.zeros }
small_stated (suc d) c p = one (small_stated d) c.0 c.1 p.strict.0 p.strict.1 p.rests p.zeros p.short
  where
    one : ((r : Cell d) → SmallCell d r → Stated d r) → (m : ℕ) (r : Cell d) → Strict m → StrictCell d r → rest [] (suc d) (m, r) ≡ (m, r)
        → Zeros (leaf d r) → length (leaf d r) ≤ 3 → Stated (suc d) (m, r)
    one f zero r h s e z l = record { below = omega arith; again = ap (λ (x : Cell (suc d)). (0, x.1)) e }
    one f (suc zero) r h s e z l =
        let q : Stated d r = f r (record { strict = s; rests = ap (λ (x : Cell (suc d)). x.1) e; zeros = z; short = l }) in
        record { below = omega (arith, q.below); again = ap (λ (x : Cell d). (1, x)) q.again }
    one f (suc (suc m)) r h s e z l = absurd (omega arith)
