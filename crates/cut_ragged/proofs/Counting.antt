-- The bytes of a subset's cells, counted row by row. They are at most those of all cells of the shape, so that no sum wraps, however
-- many bytes are stored.
-- Assumes nothing.
use mathlib.Core.Path.{◌≡◌, ap, ◌∙◌}
use mathlib.Core.Bool.{Bool, true, false}
use Prim.Native.Nat.{ℕ, zero, suc, ◌+◌, ◌-◌, ◌≤◌}
use native.Mathlib.Omega.{arith}
use mathlib.Core.List.{List, ◌∷◌}
use lib.ListN.{drop}
use Rattle.array.specs.Lists.{pick, from, passing}
use Rattle.array.specs.Shape.{volume}
use Rattle.array.specs.Subset.{Subset, SubsetOk, cells_in, coordinates, inside_test}
use Rattle.array.proofs.Geometry.{cells_are}
use Rattle.subset.specs.Walk.{row_of, Left, RowAt}
use Rattle.subset.proofs.Rows.{left-ends}
use Rattle.array.specs.Places.{Rises, bytes_at}
use Rattle.array.proofs.Places.{bytes_append, run_rises, run_total}

-- ---- at most those of all cells

module _ {off : ℕ → ℕ} {v : ℕ} (r : Rises off v) where
  -- of the cells of a run, those that pass a test
  passing_most : (f : ℕ → Bool) (a n : ℕ) → a + n ≤ v → off a + bytes_at off (passing f (from a n)) ≤ off (a + n)
  passing_most f a zero h = omega (arith, run_rises r a zero h)
  passing_most f a (suc n) h =
      let q : suc a + n ≡ a + suc n = omega arith in
      go (f a) (r a (omega arith)) (passing_most f (suc a) n (omega arith)) (ap off q)
    where
      go : (c : Bool) → off a ≤ off (suc a) → off (suc a) + bytes_at off (passing f (from (suc a) n)) ≤ off (suc a + n) → off (suc a + n) ≡ off (a + suc n)
          → off a + bytes_at off (pick c (a ∷ passing f (from (suc a) n)) (passing f (from (suc a) n))) ≤ off (a + suc n)
      go true up h e = omega arith
      go false up h e = omega arith

pub bytes_most : {off : ℕ → ℕ} (shape : List ℕ) (b : Subset) → Rises off (volume shape) → SubsetOk shape b → bytes_at off (cells_in shape b) ≤ off (volume shape)
bytes_most {off} shape b r p =
    let f : ℕ → Bool = λ i. inside_test b (coordinates shape i) in
    let whole : 0 + volume shape ≡ volume shape = omega arith in
    omega (arith, ap (bytes_at off) (cells_are shape b p), passing_most r f 0 (volume shape) (omega arith), ap off whole)

-- ---- the loop: the bytes of the cells before `at` are counted

pub record Counting (off : ℕ → ℕ) (cs : List ℕ) (cells n at total : ℕ) : Type 0 where
  pub geo : Left cs cells n at
  pub same : bytes_at off cs ≡ total + bytes_at off (drop at cs)

pub counting_begins : (off : ℕ → ℕ) {cs : List ℕ} {cells n : ℕ} → Left cs cells n 0 → Counting off cs cells n 0 0
counting_begins off g = record { geo = g; same = omega arith }

module _ {off : ℕ → ℕ} {cs : List ℕ} {cells m at total : ℕ} (c : Counting off cs cells m at total) where
  pub counting_ends : cells ≤ at → total ≡ bytes_at off cs
  counting_ends h = omega (arith, c.same, ap (bytes_at off) (left-ends c.geo h))

  pub counting_more : {sh ls : List ℕ} {a n : ℕ} → RowAt sh ls cs cells at a n → Rises off (volume sh) → Counting off cs cells (row_of ls) (at + n) (total + (off (a + n) - off a))
  counting_more {a = a} {n = n} q r =
      let t : bytes_at off (drop at cs) ≡ (off (a + n) - off a) + bytes_at off (drop (at + n) cs) =
      ap (bytes_at off) q.next ∙ bytes_append off (from a n) (drop (at + n) cs)
      ∙ ap (λ (x : ℕ). x + bytes_at off (drop (at + n) cs)) (run_total r a n q.inside) in
      record { geo = q.rest; same = omega (arith, c.same, t) }
