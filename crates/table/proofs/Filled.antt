-- Cells that have bytes: what holds of each of them, and of each two that lie apart.
-- Assumes nothing.
use Prim.Native.Nat.{ℕ, ◌≤◌, ◌<◌}
use native.Mathlib.Omega.{arith}
use mathlib.Core.Path.{◌≡◌, refl, sym, ap}
use mathlib.Core.Logic.{inl, inr, ⊎_elim}
use mathlib.Core.Bool.{Bool, true, false}
use lib.Dec.{ltb}
use lib.Arith.{lt_of_le-ne}
use borrow.Author.Tests.{lt-ltb, ltb-true, ltb-false}
use Rattle.array.specs.Lists.{from, All, count}
use Rattle.table.specs.Table.{ending, filled_by, Clear, Apart}
use Rattle.table.proofs.Order.{All-count, same_or_not}
use Rattle.table.proofs.Each.{below_all, all_below, to_passing, of_passing, apart_all}

-- cell i, one of n, has bytes
abbrev pub Full : (ℕ → ℕ) → ℕ → ℕ → Type 0
Full len n i = (i < n) × (0 < len i)

module _ (start len : ℕ → ℕ) (n : ℕ) where
  -- a rule for each of them
  pub all_full : (P : ℕ → Type 0) → ((i : ℕ) → Full len n i → P i) → All P (filled_by start len n)
  all_full P h = to_passing P (λ j. ltb 0 (len j)) (from 0 n) (all_below (λ j. ltb 0 (len j) ≡ true → P j) n (λ j l t. h j (l, ltb-true 0 (len j) t)))

  pub full_all : (P : ℕ → Type 0) → All P (filled_by start len n) → (i : ℕ) → Full len n i → P i
  full_all P p i h = below_all (λ j. ltb 0 (len j) ≡ true → P j) n (of_passing P (λ j. ltb 0 (len j)) (from 0 n) p) i h.0 (lt-ltb 0 (len i) h.1)

  pub full_some : (i : ℕ) → Full len n i → 1 ≤ count i (filled_by start len n)
  full_some = full_all (λ i. 1 ≤ count i (filled_by start len n)) (All-count (λ i. 1 ≤ count i (filled_by start len n)) (filled_by start len n) (λ i h. h))

-- cells with bytes that lie apart: of two the lower one ends at the other's start or before, and no two start at one place
pub record Parted (start len : ℕ → ℕ) (n : ℕ) : Type 0 where
  pub lower : (i j : ℕ) → Full len n i → Full len n j → start i < start j → ending start len i ≤ start j
  pub differ : (i j : ℕ) → Full len n i → Full len n j → start i ≡ start j → i ≡ j

module _ (start len : ℕ → ℕ) (n : ℕ) (p : Apart start len (filled_by start len n)) where
  clear_of : (i j : ℕ) → Full len n i → Full len n j → (i ≡ j → ⊥) → Clear start len i j
  clear_of i j a b h = go (ltb i j) refl
    where
      go : (t : Bool) → ltb i j ≡ t → Clear start len i j
      go true e = apart_all start len n p i j (ltb-true i j e) b.0 a.1 b.1
      go false e = ⊎_elim (λ c. inr c) (λ c. inl c) (apart_all start len n p j i (lt_of_le-ne (ltb-false i j e) (λ q. h (sym q))) a.0 b.1 a.1)

  pub parted : Parted start len n
  parted = record {
    lower = λ i j a b h. ⊎_elim (λ c. c) (λ c. absurd (omega arith)) (clear_of i j a b (λ e. omega (arith, ap start e)));
    differ = λ i j a b h.
        ⊎_elim (λ e. e) (λ e. ⊎_elim (λ c. absurd (omega arith)) (λ c. absurd (omega arith)) (clear_of i j a b e)) (same_or_not i j);
  }
