-- The rules for a working table (docs/SPEC.md, S13.3, S13.4) cell by cell, and its cells as cells in rest form.
-- Assumes nothing.
use mathlib.Core.Path.{◌≡◌, refl, sym, ap, ap₂, ◌∙◌, subst}
use mathlib.Core.Logic.{inl, inr, ⊎_elim}
use Prim.Native.Nat.{ℕ, zero, suc, ◌+◌, ◌*◌, ◌≤◌, ◌<◌}
use native.Mathlib.Omega.{arith}
use mathlib.Core.Bool.{Bool, true, false, false≢true}
use mathlib.Core.List.{List, [], ◌∷◌, map}
use lib.ListN.{length, drop, length-drop}
use lib.Seq.{length-take-le}
use lib.Dec.{ltb, eqb}
use lib.Arith.{lt_of_le-ne}
use borrow.Author.Tests.{lt-ltb, ltb-true, ltb-false, eqb-true, eqb-false}
use Rattle.std.specs.List.{sum_by}
use Rattle.std.proofs.lemmas.List.Recursion.{is_sum_by}
use Rattle.array.specs.Lists.{from, pick, passing, All, count}
use Rattle.array.specs.Cells.{Value, Cell, Strict, leaf, rest}
use Rattle.array.specs.Places.{mask_at, shown_by, cell_by, sum}
use Rattle.array.proofs.Lists.{All-get_or, in_place_lem}
use Rattle.array.proofs.Geometry.{All-from}
use Rattle.array.proofs.RestLaws.{StrictCell, leaf_by, rest_by_lem}
use Rattle.table.specs.Table.{Table, start_of, length_of, bytes_of, cell_of, OrZero, RestMasks, RestBy, Placed, filled_by, Clear, Apart, TableOk}
use Rattle.table.proofs.Order.{All-count, count-All, filled_some, filled_below, filled_once, apart_each, each_apart}

-- ---- a sum, as what an iterator sums up

pub sum_is : (xs : List ℕ) → sum xs ≡ sum_by (λ x. x) xs
sum_is xs = is_sum_by sum (λ x. x) refl (λ _ _. refl) xs

-- ---- a rule for every number of a run, and for those that pass a test

pub from_all : (P : ℕ → Type 0) (a n : ℕ) → All P (from a n) → (i : ℕ) → a ≤ i → i < a + n → P i
from_all P a zero p i l h = absurd (omega arith)
from_all P a (suc n) p i l h = go (eqb a i) refl (λ k. from_all P (suc a) n p.1 i k (omega arith))
  where
    go : (b : Bool) → eqb a i ≡ b → (suc a ≤ i → P i) → P i
    go true e f = subst P (eqb-true a i e) p.0
    go false e f = f (lt_of_le-ne l (eqb-false a i e))

pub below_all : (P : ℕ → Type 0) (n : ℕ) → All P (from 0 n) → (j : ℕ) → j < n → P j
below_all P n p j h = from_all P 0 n p j (omega arith) (omega arith)

pub all_below : (P : ℕ → Type 0) (n : ℕ) → ((j : ℕ) → j < n → P j) → All P (from 0 n)
all_below P n f = All-from P 0 n (λ j l h. f j (omega arith))

module _ {A : Type 0} (P : A → Type 0) (f : A → Bool) where
  pub to_passing : (xs : List A) → All (λ x. f x ≡ true → P x) xs → All P (passing f xs)
  to_passing [] p = tt
  to_passing (x ∷ xs) p = go (f x) refl (to_passing xs p.1)
    where
      go : (b : Bool) → f x ≡ b → All P (passing f xs) → All P (pick b (x ∷ passing f xs) (passing f xs))
      go true e q = (p.0 e, q)
      go false e q = q

  pub of_passing : (xs : List A) → All P (passing f xs) → All (λ x. f x ≡ true → P x) xs
  of_passing [] p = tt
  of_passing (x ∷ xs) p = go (f x) p (of_passing xs)
    where
      go : (b : Bool) → All P (pick b (x ∷ passing f xs) (passing f xs)) → (All P (passing f xs) → All (λ y. f y ≡ true → P y) xs)
          → (b ≡ true → P x) × All (λ y. f y ≡ true → P y) xs
      go true q g = ((λ e. q.0), g q.1)
      go false q g = ((λ e. absurd (false≢true e)), g q)

-- ---- cells that share no byte, two by two

module _ (start len : ℕ → ℕ) (n : ℕ) where
  abbrev cells : List ℕ
  cells = filled_by start len n

  abbrev Pairs : Type 0
  Pairs = (i j : ℕ) → i < j → j < n → 0 < len i → 0 < len j → Clear start len i j

  counted : (i : ℕ) → i < n → 0 < len i → 1 ≤ count i cells
  counted i h p =
      below_all (λ j. ltb 0 (len j) ≡ true → 1 ≤ count j cells) n
      (of_passing (λ j. 1 ≤ count j cells) (λ j. ltb 0 (len j)) (from 0 n) (All-count (λ j. 1 ≤ count j cells) cells (λ j l. l))) i h (lt-ltb 0 (len i) p)

  pub apart_all : Apart start len cells → Pairs
  apart_all p i j h l x y = apart_each start len cells p i j (counted i (omega arith) x) (counted j l y) (λ e. omega arith)

  pub all_apart : Pairs → Apart start len cells
  all_apart p =
      each_apart start len cells (filled_once start len n)
      (λ i j a b ne. go i j ne (below i a) (below j b) (some i a) (some j b) (ltb i j) refl)
    where
      below : (i : ℕ) → 1 ≤ count i cells → i < n
      below = count-All (λ i. i < n) cells (filled_below start len n)

      some : (i : ℕ) → 1 ≤ count i cells → 0 < len i
      some = count-All (λ i. 0 < len i) cells (filled_some start len n)

      go : (i j : ℕ) → (i ≡ j → ⊥) → i < n → j < n → 0 < len i → 0 < len j → (b : Bool) → ltb i j ≡ b → Clear start len i j
      go i j ne a b x y true e = p i j (ltb-true i j e) b x y
      go i j ne a b x y false e = ⊎_elim (λ c. inr c) (λ c. inl c) (p j i (lt_of_le-ne (ltb-false i j e) (λ q. ne (sym q))) a y x)

-- ---- a cell in rest form, by its mask bytes and its length

or_zero : (b : Bool) (x : ℕ) → OrZero b x → pick b x 0 ≡ x
or_zero true x p = refl
or_zero false x p = sym p

is_or_zero : (b : Bool) (x : ℕ) → pick b x 0 ≡ x → OrZero b x
is_or_zero true x e = tt
is_or_zero false x e = sym e

rest_mask_lem : (m : ℕ → ℕ) (d : ℕ) → RestMasks m d → (l : ℕ) → l < d → OrZero (shown_by m l) (m l)
rest_mask_lem m zero p l h = absurd (omega arith)
rest_mask_lem m (suc d) p l h = go (eqb l d) refl (λ k. rest_mask_lem m d p.0 l k)
  where
    go : (b : Bool) → eqb l d ≡ b → (l < d → OrZero (shown_by m l) (m l)) → OrZero (shown_by m l) (m l)
    go true e f = subst (λ (i : ℕ). OrZero (shown_by m i) (m i)) (sym (eqb-true l d e)) p.1
    go false e f = f (lt_of_le-ne (omega arith) (eqb-false l d e))

masks_rest : (m : ℕ → ℕ) (d : ℕ) → ((l : ℕ) → l < d → OrZero (shown_by m l) (m l)) → RestMasks m d
masks_rest m zero f = tt
masks_rest m (suc d) f = (masks_rest m d (λ l h. f l (omega arith)), f d (omega arith))

-- cells by equal mask bytes are equal, and the other way round
pub cell_same : (m m' : ℕ → ℕ) (v : Value) (d l : ℕ) → ((i : ℕ) → l ≤ i → i < l + d → m i ≡ m' i) → cell_by m v d l ≡ cell_by m' v d l
cell_same m m' v zero l e = refl
cell_same m m' v (suc d) l e =
    ap₂ (λ (x : ℕ) (r : Cell d). (x, r)) (e l (omega arith) (omega arith)) (cell_same m m' v d (suc l) (λ i a b. e i (omega arith) (omega arith)))

cell_masks : (m m' : ℕ → ℕ) (v v' : Value) (d l : ℕ) → cell_by m v d l ≡ cell_by m' v' d l → (i : ℕ) → l ≤ i → i < l + d → m i ≡ m' i
cell_masks m m' v v' zero l e i a b = absurd (omega arith)
cell_masks m m' v v' (suc d) l e i a b = go (eqb l i) refl (λ k. cell_masks m m' v v' d (suc l) (ap (λ (c : Cell (suc d)). c.1) e) i k (omega arith))
  where
    go : (t : Bool) → eqb l i ≡ t → (suc l ≤ i → m i ≡ m' i) → m i ≡ m' i
    go true u f = subst (λ (k : ℕ). m k ≡ m' k) (eqb-true l i u) (ap (λ (c : Cell (suc d)). c.0) e)
    go false u f = f (lt_of_le-ne a (eqb-false l i u))

module _ (m : ℕ → ℕ) (d : ℕ) (v : Value) where
  pub by_rests : RestBy m d (length v) → rest [] d (cell_by m v d 0) ≡ cell_by m v d 0
  by_rests p =
      rest_by_lem [] m v d
      ∙ cell_same (λ l. pick (shown_by m l) (m l) 0) m (pick (shown_by m d) v []) d 0 (λ i a b. or_zero (shown_by m i) (m i) (rest_mask_lem m d p.0 i (omega arith)))
      ∙ ap (λ (w : Value). cell_by m w d 0) (go (shown_by m d) v p.1)
    where
      go : (b : Bool) (w : Value) → OrZero b (length w) → pick b w [] ≡ w
      go true w q = refl
      go false [] q = refl
      go false (x ∷ w) q = absurd (omega arith)

  pub rests_by : rest [] d (cell_by m v d 0) ≡ cell_by m v d 0 → RestBy m d (length v)
  rests_by e =
      let same : cell_by (λ l. pick (shown_by m l) (m l) 0) (pick (shown_by m d) v []) d 0 ≡ cell_by m v d 0 = sym (rest_by_lem [] m v d) ∙ e in (
        masks_rest m d (λ l h. is_or_zero (shown_by m l) (m l) (cell_masks (λ l. pick (shown_by m l) (m l) 0) m (pick (shown_by m d) v []) v d 0 same l (omega arith) (omega arith))),
        go (shown_by m d) (sym (leaf_by (λ l. pick (shown_by m l) (m l) 0) (pick (shown_by m d) v []) d 0) ∙ ap (leaf d) same ∙ leaf_by m v d 0),
      )
    where
      go : (b : Bool) → pick b v [] ≡ v → OrZero b (length v)
      go true q = tt
      go false q = ap length (sym q)

pub strict_by_lem : (m : ℕ → ℕ) (v : Value) → ((i : ℕ) → Strict (m i)) → (d l : ℕ) → StrictCell d (cell_by m v d l)
strict_by_lem m v s zero l = tt
strict_by_lem m v s (suc d) l = (s l, strict_by_lem m v s d (suc l))

-- ---- a table that keeps the rules

module _ {d n : ℕ} {t : Table} (ok : TableOk d n t) where
  pub cell_placed : (j : ℕ) → j < n → Placed (length t.store) (start_of t j) (length_of t j)
  cell_placed = below_all (λ j. Placed (length t.store) (start_of t j) (length_of t j)) n ok.placed

  pub cell_resting : (j : ℕ) → j < n → RestBy (λ l. mask_at n t.masks l j) d (length_of t j)
  cell_resting = below_all (λ j. RestBy (λ l. mask_at n t.masks l j) d (length_of t j)) n ok.rests

  pub cells_clear : (i j : ℕ) → i < j → j < n → 0 < length_of t i → 0 < length_of t j → Clear (start_of t) (length_of t) i j
  cells_clear i j h k x y = apart_all (start_of t) (length_of t) n ok.apart i j h k x y

  pub bytes_long : (j : ℕ) → j < n → length (bytes_of t j) ≡ length_of t j
  bytes_long j h =
      length-take-le (length_of t j) (drop (start_of t j) t.store) (omega (arith, (cell_placed j h).0, length-drop (start_of t j) t.store))

  pub cell_rests : (j : ℕ) → j < n → rest [] d (cell_of d n t j) ≡ cell_of d n t j
  cell_rests j h =
      by_rests (λ l. mask_at n t.masks l j) d (bytes_of t j)
      (subst (RestBy (λ l. mask_at n t.masks l j) d) (sym (bytes_long j h)) (cell_resting j h))

  pub cell_strict : (j : ℕ) → StrictCell d (cell_of d n t j)
  cell_strict j = strict_by_lem (λ l. mask_at n t.masks l j) (bytes_of t j) (λ l. All-get_or Strict 0 (omega arith) t.masks ok.strict (l * n + j)) d 0

  pub lengths_are : map (length_of t) (from 0 n) ≡ t.lengths
  lengths_are = ap (λ (k : ℕ). map (length_of t) (from 0 k)) (sym ok.lengths_fit) ∙ in_place_lem 0 t.lengths
