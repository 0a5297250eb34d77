-- Cells moved to their packed starts, the lowest-lying first: each keeps its bytes, the table its rules, and the others are left to move.
-- Assumes nothing.
use Prim.Native.Nat.{ℕ, ◌+◌, ◌-◌, ◌≤◌, ◌<◌}
use native.Mathlib.Omega.{arith}
use mathlib.Core.Path.{◌≡◌, refl, sym, ap, subst, ◌∙◌}
use mathlib.Core.Logic.{◌⊎◌, inl, inr}
use mathlib.Core.Bool.{Bool, true, false}
use mathlib.Core.List.{List, ◌∷◌, ◌++◌, append_assoc}
use lib.ListN.{length, take, drop, length-append, length-set}
use lib.Seq.{take_at, drop_at, length-take-le, drop-append-add, drop-drop, get_or-set_same, get_or-set_other}
use lib.Dec.{ltb}
use lib.Arith.{lt_of_le-ne}
use borrow.Author.Tests.{lt-ltb, ltb-true, ltb-false}
use Rattle.array.specs.Buffers.{over_at}
use Rattle.array.proofs.Lists.{take_within}
use Rattle.array.proofs.Over.{over_at_length}
use Rattle.table.specs.Table.{Table, start_of, length_of, bytes_of, OrZero, Placed, TableOk}
use Rattle.table.specs.Lying.{packed_start, displaced, move_to}
use Rattle.table.proofs.Order.{same_or_not}
use Rattle.table.proofs.Each.{all_below, cell_placed, bytes_long}
use Rattle.table.proofs.Filled.{Full, parted}
use Rattle.table.proofs.Fitting.{packed_low}
use Rattle.table.proofs.Shifting.{first_full, under, shifted_apart, shifted_packed, shifted_left}

-- ---- bytes laid over a store: those before, those there, those behind

module _ (p : ℕ) (xs s : List ℕ) (h : p ≤ length s) where
  front : length (take p s) ≡ p
  front = length-take-le p s h

  pub over-before : (a m : ℕ) → a + m ≤ p → take m (drop a (over_at p xs s)) ≡ take m (drop a s)
  over-before a m l =
      let same : take p (over_at p xs s) ≡ take p s =
      ap (take p) (append_assoc (take p s) xs (drop (length (take p s ++ xs)) s)) ∙ take_at (take p s) (xs ++ drop (length (take p s ++ xs)) s) p front in
      sym (take_within a m p (over_at p xs s) l) ∙ ap (λ (r : List ℕ). take m (drop a r)) same ∙ take_within a m p s l

  pub over_there : (m : ℕ) → length xs ≡ m → take m (drop p (over_at p xs s)) ≡ xs
  over_there m e =
      ap (λ (r : List ℕ). take m (drop p r)) (append_assoc (take p s) xs (drop (length (take p s ++ xs)) s))
      ∙ ap (take m) (drop_at (take p s) (xs ++ drop (length (take p s ++ xs)) s) p front)
      ∙ take_at xs (drop (length (take p s ++ xs)) s) m e

  pub over_behind : (a : ℕ) → p + length xs ≤ a → drop a (over_at p xs s) ≡ drop a s
  over_behind a l =
      let f : List ℕ = take p s ++ xs in
      let k : length f + (a - length f) ≡ a = omega (arith, length-append (take p s) xs, front) in
      ap (λ (m : ℕ). drop m (f ++ drop (length f) s)) (sym k)
      ∙ drop-append-add f (drop (length f) s) (a - length f)
      ∙ drop-drop (a - length f) (length f) s
      ∙ ap (λ (m : ℕ). drop m s) k

-- ---- one cell moved

-- what moving leaves as it was
pub record Moved (d n : ℕ) (t u : Table) : Type 0 where
  pub sound : TableOk d n u
  pub masks : u.masks ≡ t.masks
  pub lengths : u.lengths ≡ t.lengths
  pub size : length u.store ≡ length t.store
  pub bytes : (i : ℕ) → i < n → bytes_of u i ≡ bytes_of t i

module _ {d n : ℕ} {t : Table} (ok : TableOk d n t) {j : ℕ} {rest : List ℕ} (e : displaced t n ≡ j ∷ rest) where
  abbrev place : ℕ
  place = packed_start t n j

  abbrev after : Table
  after = move_to place j t

  abbrev len : ℕ → ℕ
  len = length_of t

  full : Full len n j
  full = first_full (start_of t) len n ok.apart j rest e

  moved : start_of after j ≡ place
  moved = get_or-set_same t.starts j place 0 (omega (arith, full.0, ok.starts_fit))

  kept : (i : ℕ) → (i ≡ j → ⊥) → start_of after i ≡ start_of t i
  kept i c = get_or-set_other t.starts j i place 0 c

  low : place ≤ start_of t j
  low = packed_low (start_of t) len n ok.apart j full

  fits : start_of t j + len j ≤ length t.store
  fits = (cell_placed ok j full.0).0

  same_size : length after.store ≡ length t.store
  same_size = over_at_length place (bytes_of t j) t.store (omega (arith, bytes_long ok j full.0, low, fits))

  -- the bytes of a cell that stays
  stays : (i : ℕ) → Full len n i → (i ≡ j → ⊥) → take (len i) (drop (start_of t i) after.store) ≡ take (len i) (drop (start_of t i) t.store)
  stays i a c = go (ltb (start_of t i) (start_of t j)) refl
    where
      go : (b : Bool) → ltb (start_of t i) (start_of t j) ≡ b
          → take (len i) (drop (start_of t i) after.store) ≡ take (len i) (drop (start_of t i) t.store)
      go true q =
          let l : start_of t i + len i ≤ start_of t j = (parted (start_of t) len n ok.apart).lower i j a full (ltb-true (start_of t i) (start_of t j) q) in
          over-before place (bytes_of t j) t.store (omega (arith, low, fits)) (start_of t i) (len i)
          (omega (arith, moved, kept i c, under (start_of t) len n ok.apart j rest e (start_of after) moved kept i j a full l))
      go false q =
          let l : start_of t j < start_of t i =
          lt_of_le-ne (ltb-false (start_of t i) (start_of t j) q) (λ z. c (sym ((parted (start_of t) len n ok.apart).differ j i full a z))) in
          let m : start_of t j + len j ≤ start_of t i = (parted (start_of t) len n ok.apart).lower j i full a l in
          ap (take (len i))
          (over_behind place (bytes_of t j) t.store (omega (arith, low, fits)) (start_of t i) (omega (arith, low, bytes_long ok j full.0)))

  same_bytes : (i : ℕ) → i < n → bytes_of after i ≡ bytes_of t i
  same_bytes i l = go (same_or_not i j) (same_or_not (len i) 0)
    where
      there : bytes_of after j ≡ bytes_of t j
      there =
          ap (λ (m : ℕ). take (len j) (drop m after.store)) moved
          ∙ over_there place (bytes_of t j) t.store (omega (arith, low, fits)) (len j) (bytes_long ok j full.0)

      go : (i ≡ j) ⊎ (i ≡ j → ⊥) → (len i ≡ 0) ⊎ (len i ≡ 0 → ⊥) → bytes_of after i ≡ bytes_of t i
      go (inl c) z = ap (bytes_of after) c ∙ there ∙ ap (bytes_of t) (sym c)
      go (inr c) (inl z) =
          ap (λ (m : ℕ). take m (drop (start_of after i) after.store)) z ∙ ap (λ (m : ℕ). take m (drop (start_of t i) t.store)) (sym z)
      go (inr c) (inr z) = ap (λ (m : ℕ). take (len i) (drop m after.store)) (kept i c) ∙ stays i (l, omega (arith, z)) c

  after_placed : (i : ℕ) → i < n → Placed (length after.store) (start_of after i) (len i)
  after_placed i l = go (same_or_not i j)
    where
      go : (i ≡ j) ⊎ (i ≡ j → ⊥) → Placed (length after.store) (start_of after i) (len i)
      go (inl c) = (
        omega (arith, same_size, low, fits, moved, ap (start_of after) c, ap len c),
        subst (λ (b : Bool). OrZero b (start_of after i)) (sym (lt-ltb 0 (len i) (omega (arith, full.1, ap len c)))) tt,
      )
      go (inr c) = (
        omega (arith, same_size, kept i c, (cell_placed ok i l).0),
        subst (OrZero (ltb 0 (len i))) (sym (kept i c)) (cell_placed ok i l).1,
      )

  pub moved_one : Moved d n t after
  moved_one = record {
    sound = record {
      masks_fit = ok.masks_fit;
      starts_fit = length-set t.starts j place ∙ ok.starts_fit;
      lengths_fit = ok.lengths_fit;
      strict = ok.strict;
      rests = ok.rests;
      placed = all_below (λ i. Placed (length after.store) (start_of after i) (len i)) n after_placed;
      apart = shifted_apart (start_of t) len n ok.apart j rest e (start_of after) moved kept;
    };
    masks = refl;
    lengths = refl;
    size = same_size;
    bytes = same_bytes;
  }

  pub moved_left : displaced after n ≡ rest
  moved_left = shifted_left (start_of t) len n ok.apart j rest e (start_of after) moved kept

  pub moved_packed : (i : ℕ) → Full len n i → packed_start after n i ≡ packed_start t n i
  moved_packed = shifted_packed (start_of t) len n ok.apart j rest e (start_of after) moved kept
