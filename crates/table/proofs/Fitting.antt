-- Bytes counted: of cells that pass a test, and of cells that lie below a place, which has room for them.
-- Assumes nothing.
use Prim.Native.Nat.{ℕ, ◌+◌, ◌≤◌, ◌<◌, max}
use native.Mathlib.Omega.{arith}
use mathlib.Core.Path.{◌≡◌, refl}
use mathlib.Core.Logic.{◌⊎◌, inl, inr}
use mathlib.Core.Bool.{Bool, true, false, false≢true}
use mathlib.Core.List.{List, [], ◌∷◌, map}
use lib.Dec.{leb, ltb}
use borrow.Author.Tests.{lt-ltb, le-ltb, ltb-true, ltb-false}
use Rattle.array.specs.Lists.{pick, passing, All, count}
use Rattle.array.specs.Places.{sum}
use Rattle.array.proofs.Geometry.{passing_all}
use Rattle.table.specs.Table.{ending, filled_by, Apart}
use Rattle.table.specs.Lying.{put_among, lying_by, packed_at}
use Rattle.table.specs.Order.{Follow}
use Rattle.table.proofs.Order.{same_or_not, count_other, lying_lies, lies_all, lies_follow}
use Rattle.table.proofs.Filled.{Full, all_full, full_some, parted}

-- ---- bytes of the cells that pass

abbrev pub bytes_by : (ℕ → ℕ) → (ℕ → Bool) → List ℕ → ℕ
bytes_by len f js = sum (map len (passing f js))

module _ (len : ℕ → ℕ) where
  pub bytes_next : (f : ℕ → Bool) (x : ℕ) (xs : List ℕ) → bytes_by len f (x ∷ xs) ≡ pick (f x) (len x) 0 + bytes_by len f xs
  bytes_next f x xs = go (f x)
    where
      go : (b : Bool) → sum (map len (pick b (x ∷ passing f xs) (passing f xs))) ≡ pick b (len x) 0 + bytes_by len f xs
      go true = refl
      go false = omega arith

  module _ (f g : ℕ → Bool) (h : (m : ℕ) → f m ≡ true → g m ≡ true) where
    pick-le : (x : ℕ) → pick (f x) (len x) 0 ≤ pick (g x) (len x) 0
    pick-le x = go (f x) (g x) (h x)
      where
        go : (b c : Bool) → (b ≡ true → c ≡ true) → pick b (len x) 0 ≤ pick c (len x) 0
        go true true e = omega arith
        go true false e = absurd (false≢true (e refl))
        go false c e = omega arith

    pub bytes_le : (js : List ℕ) → bytes_by len f js ≤ bytes_by len g js
    bytes_le [] = omega arith
    bytes_le (x ∷ xs) = omega (arith, bytes_next f x xs, bytes_next g x xs, pick-le x, bytes_le xs)

    -- with a cell that passes the wider test alone
    pub bytes_more : (i : ℕ) → f i ≡ false → g i ≡ true → (js : List ℕ) → 1 ≤ count i js → bytes_by len f js + len i ≤ bytes_by len g js
    bytes_more i out within [] c = absurd (omega arith)
    bytes_more i out within (x ∷ xs) c = go (same_or_not i x) (bytes_more i out within xs)
      where
        go : (i ≡ x) ⊎ (i ≡ x → ⊥) → (1 ≤ count i xs → bytes_by len f xs + len i ≤ bytes_by len g xs)
            → bytes_by len f (x ∷ xs) + len i ≤ bytes_by len g (x ∷ xs)
        go (inl e) next =
            let p : pick (f x) (len x) 0 ≡ 0 = rw (← e, out) in
            let q : pick (g x) (len x) 0 ≡ len i = rw (← e, within) in
            omega (arith, bytes_next f x xs, bytes_next g x xs, bytes_le xs)
        go (inr e) next = omega (arith, bytes_next f x xs, bytes_next g x xs, pick-le x, next (omega (arith, count_other i x xs e)))

module _ (start len : ℕ → ℕ) where
  -- in the order in which they lie
  bytes_put_lem : (f : ℕ → Bool) (j : ℕ) (js : List ℕ) → bytes_by len f (put_among start len j js) ≡ bytes_by len f (j ∷ js)
  bytes_put_lem f j [] = refl
  bytes_put_lem f j (i ∷ is) = go (leb (start j) (start i)) (bytes_put_lem f j is)
    where
      go : (b : Bool) → bytes_by len f (put_among start len j is) ≡ bytes_by len f (j ∷ is)
          → bytes_by len f (pick b (j ∷ i ∷ is) (i ∷ put_among start len j is)) ≡ bytes_by len f (j ∷ i ∷ is)
      go true e = refl
      go false e = omega (arith, bytes_next len f i (put_among start len j is), bytes_next len f j (i ∷ is), bytes_next len f i is, bytes_next len f j is)

  pub bytes_lying : (f : ℕ → Bool) (js : List ℕ) → bytes_by len f (lying_by start len js) ≡ bytes_by len f js
  bytes_lying f [] = refl
  bytes_lying f (j ∷ js) = omega (arith, bytes_put_lem f j (lying_by start len js), bytes_next len f j js, bytes_next len f j (lying_by start len js), bytes_lying f js)

  -- ---- a place that none of the cells crosses has room for those below it

  follow_fits : (x at : ℕ) (js : List ℕ) → Follow start len at js → All (λ i. start i < x → ending start len i ≤ x) js
      → at + bytes_by len (λ i. ltb (start i) x) js ≤ max at x
  follow_fits x at [] f p = omega arith
  follow_fits x at (j ∷ js) f p = go (ltb (start j) x) refl (follow_fits x (ending start len j) js f.1 p.1)
    where
      go : (b : Bool) → ltb (start j) x ≡ b → ending start len j + bytes_by len (λ i. ltb (start i) x) js ≤ max (ending start len j) x
          → at + bytes_by len (λ i. ltb (start i) x) (j ∷ js) ≤ max at x
      go true e r =
          let w : pick (ltb (start j) x) (len j) 0 ≡ len j = rw e in
          omega (arith, bytes_next len (λ i. ltb (start i) x) j js, p.0 (ltb-true (start j) x e))
      go false e r =
          let w : pick (ltb (start j) x) (len j) 0 ≡ 0 = rw e in
          omega (arith, bytes_next len (λ i. ltb (start i) x) j js, ltb-false (start j) x e)

module _ (start len : ℕ → ℕ) (n : ℕ) where
  abbrev cells : List ℕ
  cells = filled_by start len n

  -- the packed start of a cell is at or behind the packed end of one that lies lower
  pub packed_rises : (i j : ℕ) → Full len n i → start i < start j → packed_at start len cells i + len i ≤ packed_at start len cells j
  packed_rises i j a h =
      bytes_more len (λ m. ltb (start m) (start i)) (λ m. ltb (start m) (start j))
      (λ m t. lt-ltb (start m) (start j) (omega (arith, ltb-true (start m) (start i) t)))
      i (le-ltb (start i) (start i) (omega arith)) (lt-ltb (start i) (start j) h) cells (full_some start len n i a)

  -- and all cells have room behind it
  pub packed-within : (i : ℕ) → Full len n i → packed_at start len cells i + len i ≤ sum (map len cells)
  packed-within i a =
      let whole : bytes_by len (λ m. true) cells ≡ sum (map len cells) = rw (passing_all (λ m. true) cells (all_full start len n (λ m. true ≡ true) (λ m b. refl))) in
      omega (arith, bytes_more len (λ m. ltb (start m) (start i)) (λ m. true) (λ m t. refl) i (le-ltb (start i) (start i) (omega arith)) refl cells (full_some start len n i a))

  module _ (p : Apart start len cells) where
    pub bytes_fit : (x : ℕ) → ((i : ℕ) → Full len n i → start i < x → ending start len i ≤ x) → bytes_by len (λ i. ltb (start i) x) cells ≤ x
    bytes_fit x h =
        let lies = lying_lies start len n in
        let below : All (λ i. start i < x → ending start len i ≤ x) (lying_by start len cells) =
        lies_all lies (λ i. start i < x → ending start len i ≤ x) (all_full start len n (λ i. start i < x → ending start len i ≤ x) h) in
        omega (arith, bytes_lying start len (λ i. ltb (start i) x) cells, follow_fits start len x 0 (lying_by start len cells) (lies_follow lies p) below)

    pub packed_low : (j : ℕ) → Full len n j → packed_at start len cells j ≤ start j
    packed_low j b = bytes_fit (start j) (λ i a h. (parted start len n p).lower i j a b h)
