-- A cell set to other masks and bytes (specs/Laws, Sets): the table works on, that cell is the one that was set, and no other changes.
-- Assumes nothing.
use mathlib.Core.Path.{◌≡◌, refl, sym, ap, ap₂, ◌∙◌, subst}
use mathlib.Core.Logic.{◌⊎◌, inl, inr}
use Prim.Native.Nat.{ℕ, zero, suc, ◌+◌, ◌-◌, ◌*◌, ◌≤◌, ◌<◌}
use native.Mathlib.Nat.{zero-mul, suc-mul, zero-add, add-zero}
use native.Mathlib.Omega.{arith}
use mathlib.Core.Bool.{Bool, true, false}
use mathlib.Core.List.{List, [], ◌∷◌, map}
use lib.ListN.{length, get_or, take, drop, set, length-append, length-map, length-set, get_or-append}
use lib.Seq.{get_or-append-add, get_or-set_same, get_or-set_other}
use lib.Dec.{leb, ltb, eqb}
use borrow.Author.Tests.{le-leb, leb-true, lt-ltb, ltb-true, ltb-false, eq-eqb, ne_eqb}
use Rattle.array.specs.Answer.{Answer, gives, map_answer}
use Rattle.array.specs.Lists.{from, pick, All}
use Rattle.array.specs.Kind.{Kind}
use Rattle.array.specs.Cells.{Value, Cell, Strict, leaf, rest}
use Rattle.array.specs.Places.{mask_at, planes_by, cell_by, shown_by, sum}
use Rattle.array.proofs.Answers.{pass}
use Rattle.array.proofs.Lists.{length_from_lem, at_from, All-get_or, All-of, All-append, All-image}
use Rattle.array.proofs.LayoutLaws.{strict_masks}
use Rattle.array.proofs.Over.{over_at_length}
use Rattle.array.proofs.RestLaws.{masks_in, cell_by_lem, StrictCell, strict_rest, rest_again}
use Rattle.array.proofs.Rules.{both, strict_bytes_test_lem}
use Rattle.table.specs.Table.{Table, start_of, length_of, bytes_of, cell_of, OrZero, RestBy, Placed, ending, filled, Clear, TableOk}
use Rattle.table.specs.Lying.{top_of, packed_whole}
use Rattle.table.specs.Setting.{SettingOk, setting_of, setting_masks, given_up, masked, placed_at, bytes_put, settled, sum_after}
use Rattle.table.specs.Calls.{in_place, set_answer, cell_set}
use Rattle.table.specs.Laws.{Working, SetLaw, Sets}
use Rattle.table.proofs.Rules.{table_kind_test_lem, count_test_lem, table_test_lem, store_test_lem}
use Rattle.table.proofs.Order.{same_or_not}
use Rattle.table.proofs.Filled.{full_all}
use Rattle.table.proofs.Moving.{over-before, over_there, Moved}
use Rattle.table.proofs.Packing.{moved_none, top_above, packed-whole}
use Rattle.table.proofs.Each.{all_below, all_apart, cell_same, rests_by, strict_by_lem, cell_placed, cell_resting, cells_clear, bytes_long, cell_rests}

-- ---- one number of a list set

pub sum-set : (xs : List ℕ) (c v : ℕ) → c < length xs → sum (set xs c v) + get_or xs c 0 ≡ sum xs + v
sum-set [] c v h = absurd (omega arith)
sum-set (x ∷ xs) zero v h = omega arith
sum-set (x ∷ xs) (suc c) v h = omega (arith, sum-set xs c v (omega arith))

-- ---- mask bytes by level and cell

module _ (m : ℕ → ℕ → ℕ) (n : ℕ) where
  pub length_planes : (d l : ℕ) → length (planes_by m d l (from 0 n)) ≡ d * n
  length_planes zero l = sym (zero-mul n)
  length_planes (suc d) l =
      omega (
        arith,
        length-append (map (m l) (from 0 n)) (planes_by m d (suc l) (from 0 n)),
        length-map (from 0 n) (m l),
        length_from_lem 0 n,
        length_planes d (suc l),
        suc-mul d n,
      )

  pub planes_at_lem : (d l i j : ℕ) → i < d → j < n → mask_at n (planes_by m d l (from 0 n)) i j ≡ m (l + i) j
  planes_at_lem zero l i j h k = absurd (omega arith)
  planes_at_lem (suc d) l zero j h k =
      let e : zero * n + j ≡ j = omega (arith, zero-mul n) in
      let long : length (map (m l) (from 0 n)) ≡ n = length-map (from 0 n) (m l) ∙ length_from_lem 0 n in
      ap (λ (p : ℕ). get_or (planes_by m (suc d) l (from 0 n)) p 0) e
      ∙ get_or-append (map (m l) (from 0 n)) (planes_by m d (suc l) (from 0 n)) 0 j (omega arith)
      ∙ at_from 0 (m l) n 0 j k ∙ ap₂ m (sym (add-zero l)) (zero-add j)
  planes_at_lem (suc d) l (suc i) j h k =
      let long : length (map (m l) (from 0 n)) ≡ n = length-map (from 0 n) (m l) ∙ length_from_lem 0 n in
      let e : suc i * n + j ≡ length (map (m l) (from 0 n)) + (i * n + j) = omega (arith, suc-mul i n) in
      let q : suc l + i ≡ l + suc i = omega arith in
      ap (λ (p : ℕ). get_or (planes_by m (suc d) l (from 0 n)) p 0) e
      ∙ get_or-append-add (map (m l) (from 0 n)) (planes_by m d (suc l) (from 0 n)) (i * n + j) 0
      ∙ planes_at_lem d (suc l) i j (omega arith) k ∙ ap (λ (i : ℕ). m i j) q

  all_planes : (P : ℕ → Type 0) → ((l j : ℕ) → P (m l j)) → (d l : ℕ) → All P (planes_by m d l (from 0 n))
  all_planes P f zero l = tt
  all_planes P f (suc d) l =
      All-append P (map (m l) (from 0 n)) (planes_by m d (suc l) (from 0 n)) (All-image P (m l) (from 0 n) (All-of (λ j. P (m l j)) (f l) (from 0 n))) (all_planes P f d (suc l))

-- those of one cell
pub masks_of_one : (d : ℕ) (x : Cell d) (l : ℕ) → get_or (setting_masks d x) l 0 ≡ masks_in d x l
masks_of_one zero x l = refl
masks_of_one (suc d) x zero = refl
masks_of_one (suc d) x (suc l) = masks_of_one d x.1 l

-- ---- the top

pub above : (t : Table) (n j : ℕ) → j < n → 0 < length_of t j → ending (start_of t) (length_of t) j ≤ top_of t n
above t n j h p =
    full_all (start_of t) (length_of t) n (λ i. ending (start_of t) (length_of t) i ≤ top_of t n) (top_above (start_of t) (length_of t) (filled t n)) j (h, p)

-- ---- what a setting of cell c to x leaves

pub record Settles (d n c : ℕ) (x : Cell d) (t u : Table) : Type 0 where
  pub sound : TableOk d n u
  pub size : length u.store ≡ length t.store
  pub cells : (j : ℕ) → j < n → cell_of d n u j ≡ pick (eqb j c) x (cell_of d n t j)
  pub total : sum u.lengths ≡ sum_after d c x t

-- cells that lie as before
clear_same : (start len start' len' : ℕ → ℕ) (i j : ℕ) → start i ≡ start' i → len i ≡ len' i → start j ≡ start' j → len j ≡ len' j
    → Clear start len i j → Clear start' len' i j
clear_same start len start' len' i j a b e f (inl h) = inl (omega arith)
clear_same start len start' len' i j a b e f (inr h) = inr (omega arith)

placed_same : {size size' s s' l l' : ℕ} → size ≡ size' → s ≡ s' → l ≡ l' → Placed size s l → Placed size' s' l'
placed_same {size} {size'} {s} {s'} {l} {l'} a b e p =
    (omega (arith, p.0), subst (λ (m : ℕ). OrZero (ltb 0 m) s') e (subst (OrZero (ltb 0 l)) b p.1))

module _ {d n : ℕ} {t : Table} (ok : TableOk d n t) (c : ℕ) (low : c < n) (x : Cell d) (strict : StrictCell d x) (rests : rest [] d x ≡ x) where
  -- its bytes given up, its masks new
  abbrev base : Table
  base = masked d n c (setting_masks d x) (given_up c t)

  abbrev mask : ℕ → ℕ → ℕ
  mask l j = pick (eqb j c) (get_or (setting_masks d x) l 0) (mask_at n t.masks l j)

  pub mask_here : (l : ℕ) → l < d → mask_at n base.masks l c ≡ masks_in d x l
  mask_here l h =
      planes_at_lem mask n d 0 l c h low ∙ ap (λ (i : ℕ). mask i c) (zero-add l)
      ∙ ap (λ (b : Bool). pick b (get_or (setting_masks d x) l 0) (mask_at n t.masks l c)) (eq-eqb c c refl) ∙ masks_of_one d x l

  pub mask_other : (j l : ℕ) → l < d → j < n → (j ≡ c → ⊥) → mask_at n base.masks l j ≡ mask_at n t.masks l j
  mask_other j l h k ne =
      planes_at_lem mask n d 0 l j h k ∙ ap (λ (i : ℕ). mask i j) (zero-add l)
      ∙ ap (λ (b : Bool). pick b (get_or (setting_masks d x) l 0) (mask_at n t.masks l j)) (ne_eqb j c ne)

  -- with its value the new masks are the cell that is set, with theirs the others' those that were
  cell_here : (v : Value) → leaf d x ≡ v → cell_by (λ l. mask_at n base.masks l c) v d 0 ≡ x
  cell_here v e =
      cell_same (λ l. mask_at n base.masks l c) (masks_in d x) v d 0 (λ l a b. mask_here l (omega arith))
      ∙ ap (λ (w : Value). cell_by (masks_in d x) w d 0) (sym e) ∙ sym (cell_by_lem d x)

  cell_other : (j : ℕ) → j < n → (j ≡ c → ⊥) → (v : Value) → v ≡ bytes_of t j → cell_by (λ l. mask_at n base.masks l j) v d 0 ≡ cell_of d n t j
  cell_other j h ne v e =
      cell_same (λ l. mask_at n base.masks l j) (λ l. mask_at n t.masks l j) v d 0 (λ l a b. mask_other j l (omega arith) h ne)
      ∙ ap (λ (w : Value). cell_by (λ l. mask_at n t.masks l j) w d 0) e

  rest_here : RestBy (λ l. mask_at n base.masks l c) d (length (leaf d x))
  rest_here = rests_by (λ l. mask_at n base.masks l c) d (leaf d x) (subst (λ (y : Cell d). rest [] d y ≡ y) (sym (cell_here (leaf d x) refl)) rests)

  rest_none : RestBy (λ l. mask_at n base.masks l c) d 0
  rest_none = (rest_here.0, go (shown_by (λ l. mask_at n base.masks l c) d))
    where
      go : (b : Bool) → OrZero b 0
      go true = tt
      go false = refl

  rest_other : (j : ℕ) → j < n → (j ≡ c → ⊥) → RestBy (λ l. mask_at n base.masks l j) d (length_of t j)
  rest_other j h ne =
      subst (RestBy (λ l. mask_at n base.masks l j) d) (bytes_long ok j h)
      (rests_by (λ l. mask_at n base.masks l j) d (bytes_of t j) (subst (λ (y : Cell d). rest [] d y ≡ y) (sym (cell_other j h ne (bytes_of t j) refl)) (cell_rests ok j h)))

  start_here : start_of base c ≡ 0
  start_here = get_or-set_same t.starts c 0 0 (omega (arith, ok.starts_fit))

  pub start_other : (j : ℕ) → (j ≡ c → ⊥) → start_of base j ≡ start_of t j
  start_other j ne = get_or-set_other t.starts c j 0 0 ne

  pub length_here : length_of base c ≡ 0
  length_here = get_or-set_same t.lengths c 0 0 (omega (arith, ok.lengths_fit))

  pub length_other : (j : ℕ) → (j ≡ c → ⊥) → length_of base j ≡ length_of t j
  length_other j ne = get_or-set_other t.lengths c j 0 0 ne

  base_strict : All Strict base.masks
  base_strict = all_planes mask n Strict (λ l j. go l j (eqb j c)) d 0
    where
      go : (l j : ℕ) (b : Bool) → Strict (pick b (get_or (setting_masks d x) l 0) (mask_at n t.masks l j))
      go l j true = All-get_or Strict 0 (omega arith) (setting_masks d x) (strict_masks d (x ∷ []) (strict, tt)) l
      go l j false = All-get_or Strict 0 (omega arith) t.masks ok.strict (l * n + j)

  pub base_ok : TableOk d n base
  base_ok = record {
    masks_fit = length_planes mask n d 0;
    starts_fit = length-set t.starts c 0 ∙ ok.starts_fit;
    lengths_fit = length-set t.lengths c 0 ∙ ok.lengths_fit;
    strict = base_strict;
    rests = all_below (λ j. RestBy (λ l. mask_at n base.masks l j) d (length_of base j)) n (λ j h. resting j h (same_or_not j c));
    placed = all_below (λ j. Placed (length t.store) (start_of base j) (length_of base j)) n (λ j h. placing j h (same_or_not j c));
    apart = all_apart (start_of base) (length_of base) n (λ i j h k p q. clearing i j h k p q (same_or_not i c) (same_or_not j c));
  }
    where
      resting : (j : ℕ) → j < n → (j ≡ c) ⊎ (j ≡ c → ⊥) → RestBy (λ l. mask_at n base.masks l j) d (length_of base j)
      resting j h (inl e) =
          subst (λ (i : ℕ). RestBy (λ l. mask_at n base.masks l i) d (length_of base i)) (sym e)
          (subst (RestBy (λ l. mask_at n base.masks l c) d) (sym length_here) rest_none)
      resting j h (inr ne) = subst (RestBy (λ l. mask_at n base.masks l j) d) (sym (length_other j ne)) (rest_other j h ne)

      placing : (j : ℕ) → j < n → (j ≡ c) ⊎ (j ≡ c → ⊥) → Placed (length t.store) (start_of base j) (length_of base j)
      placing j h (inl e) =
          subst (λ (i : ℕ). Placed (length t.store) (start_of base i) (length_of base i)) (sym e)
          (placed_same {size = length t.store} refl (sym start_here) (sym length_here) (omega arith, refl))
      placing j h (inr ne) = placed_same refl (sym (start_other j ne)) (sym (length_other j ne)) (cell_placed ok j h)

      clearing : (i j : ℕ) → i < j → j < n → 0 < length_of base i → 0 < length_of base j → (i ≡ c) ⊎ (i ≡ c → ⊥) → (j ≡ c) ⊎ (j ≡ c → ⊥)
          → Clear (start_of base) (length_of base) i j
      clearing i j h k p q (inl e) r = absurd (omega (arith, length_here, ap (length_of base) e))
      clearing i j h k p q (inr ne) (inl e) = absurd (omega (arith, length_here, ap (length_of base) e))
      clearing i j h k p q (inr ne) (inr other) =
          clear_same (start_of t) (length_of t) (start_of base) (length_of base) i j
          (sym (start_other i ne)) (sym (length_other i ne)) (sym (start_other j other)) (sym (length_other j other))
          (cells_clear ok i j h k (omega (arith, length_other i ne)) (omega (arith, length_other j other)))

  base_bytes : (j : ℕ) → (j ≡ c → ⊥) → bytes_of base j ≡ bytes_of t j
  base_bytes j ne = ap₂ (λ (l s : ℕ). take l (drop s t.store)) (length_other j ne) (start_other j ne)

  -- a cell with no bytes
  settles_none : leaf d x ≡ [] → Settles d n c x t base
  settles_none e = record {
    sound = base_ok;
    size = refl;
    cells = λ j h. go j h (same_or_not j c);
    total = omega (arith, ap length e);
  }
    where
      go : (j : ℕ) → j < n → (j ≡ c) ⊎ (j ≡ c → ⊥) → cell_of d n base j ≡ pick (eqb j c) x (cell_of d n t j)
      go j h (inl q) =
          ap (cell_of d n base) q ∙ cell_here (bytes_of base c) (e ∙ ap (λ (l : ℕ). take l (drop (start_of base c) t.store)) (sym length_here))
          ∙ ap (λ (b : Bool). pick b x (cell_of d n t j)) (sym (eq-eqb j c q))
      go j h (inr ne) = cell_other j h ne (bytes_of base j) (base_bytes j ne) ∙ ap (λ (b : Bool). pick b x (cell_of d n t j)) (sym (ne_eqb j c ne))

  -- bytes put right after the highest-lying cell, in what moving left of it
  module _ {u : Table} (m : Moved d n base u) (v : Value) (e : leaf d x ≡ v) (some : 0 < length v) (room : top_of u n + length v ≤ length u.store) where
    abbrev put : Table
    put = placed_at (top_of u n) c v u

    pub none_there : length_of u c ≡ 0
    none_there = ap (λ (ls : List ℕ). get_or ls c 0) m.lengths ∙ length_here

    pub put_start : start_of put c ≡ top_of u n
    put_start = get_or-set_same u.starts c (top_of u n) 0 (omega (arith, m.sound.starts_fit))

    pub other_start : (j : ℕ) → (j ≡ c → ⊥) → start_of put j ≡ start_of u j
    other_start j ne = get_or-set_other u.starts c j (top_of u n) 0 ne

    pub put-length : length_of put c ≡ length v
    put-length = get_or-set_same u.lengths c (length v) 0 (omega (arith, m.sound.lengths_fit))

    pub other_length : (j : ℕ) → (j ≡ c → ⊥) → length_of put j ≡ length_of u j
    other_length j ne = get_or-set_other u.lengths c j (length v) 0 ne

    put_size : length put.store ≡ length u.store
    put_size = over_at_length (top_of u n) v u.store room

    put_bytes : bytes_of put c ≡ v
    put_bytes =
        ap₂ (λ (l s : ℕ). take l (drop s put.store)) put-length put_start ∙ over_there (top_of u n) v u.store (omega arith) (length v) refl

    other_bytes : (j : ℕ) → j < n → (j ≡ c → ⊥) → bytes_of put j ≡ bytes_of u j
    other_bytes j h ne =
        ap₂ (λ (l s : ℕ). take l (drop s put.store)) (other_length j ne) (other_start j ne) ∙ go (ltb 0 (length_of u j)) refl
      where
        go : (b : Bool) → ltb 0 (length_of u j) ≡ b → take (length_of u j) (drop (start_of u j) put.store) ≡ bytes_of u j
        go true q = over-before (top_of u n) v u.store (omega arith) (start_of u j) (length_of u j) (above u n j h (ltb-true 0 (length_of u j) q))
        go false q =
            let none : length_of u j ≡ 0 = omega (arith, ltb-false 0 (length_of u j) q) in
            ap (λ (l : ℕ). take l (drop (start_of u j) put.store)) none ∙ ap (λ (l : ℕ). take l (drop (start_of u j) u.store)) (sym none)

    abbrev RestAt : List ℕ → ℕ → ℕ → Type 0
    RestAt ms j len = RestBy (λ l. mask_at n ms l j) d len

    pub put_ok : TableOk d n put
    put_ok = record {
      masks_fit = m.sound.masks_fit;
      starts_fit = length-set u.starts c (top_of u n) ∙ m.sound.starts_fit;
      lengths_fit = length-set u.lengths c (length v) ∙ m.sound.lengths_fit;
      strict = m.sound.strict;
      rests = all_below (λ j. RestAt u.masks j (length_of put j)) n (λ j h. resting j h (same_or_not j c));
      placed = all_below (λ j. Placed (length put.store) (start_of put j) (length_of put j)) n (λ j h. placing j h (same_or_not j c));
      apart = all_apart (start_of put) (length_of put) n (λ i j h k p q. clearing i j h k p q (same_or_not i c) (same_or_not j c));
    }
      where
        resting : (j : ℕ) → j < n → (j ≡ c) ⊎ (j ≡ c → ⊥) → RestAt u.masks j (length_of put j)
        resting j h (inl q) =
            subst (λ (i : ℕ). RestAt u.masks i (length_of put i)) (sym q)
            (subst (λ (ms : List ℕ). RestAt ms c (length_of put c)) (sym m.masks)
            (subst (RestAt base.masks c) (ap length e ∙ sym put-length) rest_here))
        resting j h (inr ne) = subst (RestAt u.masks j) (sym (other_length j ne)) (cell_resting m.sound j h)

        placing : (j : ℕ) → j < n → (j ≡ c) ⊎ (j ≡ c → ⊥) → Placed (length put.store) (start_of put j) (length_of put j)
        placing j h (inl q) =
            subst (λ (i : ℕ). Placed (length put.store) (start_of put i) (length_of put i)) (sym q)
            (placed_same {size = length u.store} (sym put_size) (sym put_start) (sym put-length)
            (room, subst (λ (b : Bool). OrZero b (top_of u n)) (sym (lt-ltb 0 (length v) some)) tt))
        placing j h (inr ne) = placed_same (sym put_size) (sym (other_start j ne)) (sym (other_length j ne)) (cell_placed m.sound j h)

        clearing : (i j : ℕ) → i < j → j < n → 0 < length_of put i → 0 < length_of put j → (i ≡ c) ⊎ (i ≡ c → ⊥) → (j ≡ c) ⊎ (j ≡ c → ⊥)
            → Clear (start_of put) (length_of put) i j
        clearing i j h k p q (inl a) (inl b) = absurd (omega arith)
        clearing i j h k p q (inl a) (inr ne) =
            inr (omega (arith, above u n j k (omega (arith, other_length j ne)), other_start j ne, other_length j ne, put_start, ap (start_of put) a))
        clearing i j h k p q (inr ne) (inl b) =
            inl (omega (arith, above u n i (omega arith) (omega (arith, other_length i ne)), other_start i ne, other_length i ne, put_start, ap (start_of put) b))
        clearing i j h k p q (inr ne) (inr other) =
            clear_same (start_of u) (length_of u) (start_of put) (length_of put) i j
            (sym (other_start i ne)) (sym (other_length i ne)) (sym (other_start j other)) (sym (other_length j other))
            (cells_clear m.sound i j h k (omega (arith, other_length i ne)) (omega (arith, other_length j other)))

    settles_some : Settles d n c x t put
    settles_some = record {
      sound = put_ok;
      size = put_size ∙ m.size;
      cells = λ j h. go j h (same_or_not j c);
      total = omega (arith, sum-set u.lengths c (length v) (omega (arith, m.sound.lengths_fit)), none_there, ap sum m.lengths, ap length e);
    }
      where
        go : (j : ℕ) → j < n → (j ≡ c) ⊎ (j ≡ c → ⊥) → cell_of d n put j ≡ pick (eqb j c) x (cell_of d n t j)
        go j h (inl q) =
            ap (cell_of d n put) q ∙ ap (λ (ms : List ℕ). cell_by (λ l. mask_at n ms l c) (bytes_of put c) d 0) m.masks
            ∙ cell_here (bytes_of put c) (e ∙ sym put_bytes) ∙ ap (λ (b : Bool). pick b x (cell_of d n t j)) (sym (eq-eqb j c q))
        go j h (inr ne) =
            ap (λ (ms : List ℕ). cell_by (λ l. mask_at n ms l j) (bytes_of put j) d 0) m.masks
            ∙ cell_other j h ne (bytes_of put j) (other_bytes j h ne ∙ m.bytes j h ∙ base_bytes j ne)
            ∙ ap (λ (b : Bool). pick b x (cell_of d n t j)) (sym (ne_eqb j c ne))

module _ {d n : ℕ} {t : Table} (ok : TableOk d n t) (c : ℕ) (low : c < n) (x : Cell d) (strict : StrictCell d x) (rests : rest [] d x ≡ x)
    (fits : sum_after d c x t ≤ length t.store) where
  pub settles : (v : Value) → leaf d x ≡ v → Settles d n c x t (bytes_put n c v (masked d n c (setting_masks d x) (given_up c t)))
  settles [] e = settles_none ok c low x strict rests e
  settles (b ∷ bs) e = go (leb (length (b ∷ bs)) (length t.store - top_of new n)) refl
    where
      new : Table
      new = masked d n c (setting_masks d x) (given_up c t)

      go : (q : Bool) → leb (length (b ∷ bs)) (length t.store - top_of new n) ≡ q
          → Settles d n c x t (placed_at (top_of (pick q new (packed_whole n new)) n) c (b ∷ bs) (pick q new (packed_whole n new)))
      go true q =
          settles_some ok c low x strict rests (moved_none (base_ok ok c low x strict rests)) (b ∷ bs) e (omega arith)
          (omega (arith, leb-true (length (b ∷ bs)) (length t.store - top_of new n) q))
      go false q =
          let sound : TableOk d n new = base_ok ok c low x strict rests in
          settles_some ok c low x strict rests (packed-whole sound).moved (b ∷ bs) e (omega arith)
          (omega (arith, (packed-whole sound).top, (packed-whole sound).moved.size, fits, ap length e))

-- ---- the law

module _ (k : Kind) (n : ℕ) (t : Table) (c : ℕ) (ms : List ℕ) (v : Value) (w : Working k n t) (setting : SettingOk k.depth ms) (low : c < n)
    (fits : sum_after k.depth c (setting_of k.depth ms v) t ≤ length t.store) where
  abbrev x : Cell k.depth
  x = setting_of k.depth ms v

  strict : StrictCell k.depth x
  strict =
      strict_rest [] k.depth (cell_by (λ l. get_or ms l 0) v k.depth 0)
      (strict_by_lem (λ l. get_or ms l 0) v (λ l. All-get_or Strict 0 (omega arith) ms setting.strict l) k.depth 0)

  law : Settles k.depth n c x t (settled k.depth n c x t)
  unfolding settled
  law = settles w.sound c low x strict (rest_again [] k.depth (cell_by (λ l. get_or ms l 0) v k.depth 0)) fits (leaf k.depth x) refl

  answer : set_answer k n t c ms v ≡ gives (settled k.depth n c x t)
  unfolding set_answer
  answer =
      pass 1 (table_kind_test_lem k w.kind) (pass 2 (count_test_lem n w.count)
      (pass 4 (both (table_test_lem k.depth n t w.sound) (strict_bytes_test_lem k.depth ms setting)) (pass 5 (store_test_lem t w.small)
      (pass 15 (lt-ltb c n low) (pass 16 (le-leb (sum_after k.depth c x t) (length t.store) fits) refl)))))

  left : (cell_set k n t c ms v).buffers ≡ settled k.depth n c x t
  unfolding cell_set
  left = ap (λ (a : Answer Table). in_place a t) answer

  set_law : SetLaw k n t c ms v
  unfolding cell_set
  set_law = record {
    given = ap (map_answer (λ u. tt)) answer;
    working = subst (Working k n) (sym left) (record { kind = w.kind; count = w.count; sound = law.sound; small = omega (arith, law.size, w.small) });
    cells = λ j h. ap (λ (u : Table). cell_of k.depth n u j) left ∙ law.cells j h;
    total = ap (λ (u : Table). sum u.lengths) left ∙ law.total;
  }

pub sets : Sets
sets = set_law
