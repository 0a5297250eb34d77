-- A valid array made a table (specs/Laws, Makes): a working table, packed in cell order, and read out it is the array's rest form.
-- Assumes nothing.
use mathlib.Core.Path.{◌≡◌, refl, sym, ap, ap₂, ◌∙◌, subst}
use mathlib.Core.Logic.{inl}
use Prim.Native.Nat.{ℕ, zero, suc, ◌+◌, ◌-◌, ◌*◌, ◌≤◌, ◌<◌}
use native.Mathlib.Nat.{zero-add, le_of_eq}
use native.Mathlib.Omega.{arith}
use mathlib.Core.Bool.{Bool, true, false, not}
use mathlib.Core.List.{List, [], ◌∷◌, map}
use lib.ListN.{length, get_or, take, drop, length-map, length-drop}
use lib.Seq.{take-append-le, drop-append-le}
use lib.Dec.{ltb, eqb}
use borrow.Author.Tests.{lt-ltb, le-ltb, ltb-true, ltb-false, eq-eqb}
use Rattle.array.specs.Answer.{Answer, gives, map_answer}
use Rattle.array.specs.Limits.{most_bytes}
use Rattle.array.specs.Lists.{from, pick, passing}
use Rattle.array.specs.Kind.{Kind, Form, fixed, ragged, null_of}
use Rattle.array.specs.Cells.{Value, Cell, blank, rest}
use Rattle.array.specs.Offsets.{Rising, last}
use Rattle.array.specs.Content.{Content, ValuesOk, ArrayOk, leaves, layout, cells_of, rest_form}
use Rattle.array.specs.Buffers.{over, lengths_of, Enough, content_outcome}
use Rattle.array.specs.Places.{offset_at, Rises, step_at, value_at, value_in, mask_at, cell_by, cell_at, sum}
use Rattle.array.proofs.Answers.{pass}
use Rattle.array.proofs.Lists.{length_from_lem, map-from, map-append, All-map, All-image, All-get_or, All-of, entry}
use Rattle.array.proofs.Geometry.{from-append, passing_none}
use Rattle.array.proofs.Offsets.{last_at}
use Rattle.array.proofs.Over.{take-over, over-length}
use Rattle.array.proofs.Places.{offsets_rise, first_zero, run_rises, run_total, value_long, sum-append}
use Rattle.array.proofs.LayoutLaws.{Good, good_cells, cells_layout, length-masks_of, layout_values_ok, strict_masks}
use Rattle.array.proofs.Inverse.{layout_cells}
use Rattle.array.proofs.Numbered.{cells_are, cell_is}
use Rattle.array.proofs.RestLaws.{StrictCell, strict_rest, rest_blank, rest_again}
use Rattle.array.proofs.Rules.{rest_passes}
use Rattle.array.proofs.Sums.{sum_of}
use Rattle.codec.specs.Interleaved.{IsRagged}
use Rattle.table.specs.Table.{Table, start_of, length_of, bytes_of, cell_of, OrZero, RestBy, Placed, filled, TableOk, TableKind, CountOk, most_store}
use Rattle.table.specs.Lying.{lying_by, packed_at, displaced}
use Rattle.table.specs.declared.answer.TableLengths.{TableLengths}
use Rattle.table.specs.Calls.{starts_at, table_of, table_lengths, table_after, TableEnough, make_answer, made, content_of, read_out}
use Rattle.table.specs.Laws.{Working, table_in, MakeLaw, Makes}
use Rattle.array.proofs.Sizes.{SizedAs}
use Rattle.table.proofs.Rules.{table_kind_test_lem, count_test_lem, store_test_lem, table_enough_test_lem}
use Rattle.table.proofs.Order.{lying_lies, lies_all}
use Rattle.table.proofs.Reading.{ragged_sized, reads}
use Rattle.table.proofs.Each.{all_below, to_passing, all_apart, rests_by}

-- ---- sums over those that pass a test

sum-passing : (f : ℕ → ℕ) (t : ℕ → Bool) (js : List ℕ) → sum_of f (passing t js) ≡ sum_of (λ j. pick (t j) (f j) 0) js
sum-passing f t [] = refl
sum-passing f t (j ∷ js) = go (t j) (sum-passing f t js)
  where
    go : (b : Bool) → sum_of f (passing t js) ≡ sum_of (λ i. pick (t i) (f i) 0) js
        → sum_of f (pick b (j ∷ passing t js) (passing t js)) ≡ pick b (f j) 0 + sum_of (λ i. pick (t i) (f i) 0) js
    go true e = ap (λ (m : ℕ). f j + m) e
    go false e = omega arith

sum_none : (f : ℕ → ℕ) (a n : ℕ) → ((i : ℕ) → a ≤ i → i < a + n → f i ≡ 0) → sum_of f (from a n) ≡ 0
sum_none f a zero e = refl
sum_none f a (suc n) e = omega (arith, e a (omega arith) (omega arith), sum_none f (suc a) n (λ i l h. e i (omega arith) (omega arith)))

-- ---- ragged values that lie end to end

ragged_fit : (f : Form) → IsRagged f → (n : ℕ) (c : Content) → ValuesOk f n c
    → (length c.offsets ≡ suc n) × Rising c.offsets × (last c.offsets ≡ length c.values)
ragged_fit (fixed k o) r n c p = absurd r
ragged_fit (ragged w q) r n c p = p

ragged_value : (f : Form) → IsRagged f → (c : Content) (j : ℕ) → value_at (offset_at c.offsets) c.values j ≡ value_in f c j
ragged_value (fixed k o) r c j = absurd r
ragged_value (ragged w q) r c j = refl

-- a table with the masks, starts and lengths of the array r, and its values first in the store
abbrev laid_table : ℕ → Content → List ℕ → Table
laid_table n r old = record { masks = r.masks; starts = (table_of n r).starts; lengths = (table_of n r).lengths; store = over r.values old }

module _ {k : Kind} {n : ℕ} {r : Content} (kind : TableKind k) (ok : ArrayOk k n r) (resting : (j : ℕ) → j < n → rest [] k.depth (cell_at k n r j) ≡ cell_at k n r j)
    (old : List ℕ) (room : length r.values ≤ length old) where
  abbrev off : ℕ → ℕ
  off = offset_at r.offsets

  abbrev laid : Table
  laid = laid_table n r old

  rises : Rises off n
  rises =
      let p = ragged_fit k.form kind.is_ragged n r ok.fits.values_fit in
      offsets_rise r.offsets p.1 p.0

  from_zero : off 0 ≡ 0
  from_zero = first_zero r.offsets (ragged_fit k.form kind.is_ragged n r ok.fits.values_fit).1

  to_end : off n ≡ length r.values
  to_end =
      let p = ragged_fit k.form kind.is_ragged n r ok.fits.values_fit in
      sym (last_at r.offsets n p.0) ∙ p.2

  -- a cell ends no higher than a later one begins, and than the values end
  before : (i j : ℕ) → i ≤ j → j ≤ n → off i ≤ off j
  before i j h l = let q : i + (j - i) ≡ j = omega arith in omega (arith, run_rises rises i (j - i) (omega arith), ap off q)

  inside : (j : ℕ) → j < n → off j + step_at off j ≤ length r.values
  inside j h = omega (arith, rises j h, before (suc j) n (omega arith) (omega arith), to_end)

  store_long : length laid.store ≡ length old
  store_long = over-length r.values old room

  start_is : (j : ℕ) → j < n → start_of laid j ≡ starts_at (off j) (step_at off j)
  start_is = entry (λ j. starts_at (off j) (step_at off j)) n refl 0

  length_is : (j : ℕ) → j < n → length_of laid j ≡ step_at off j
  length_is = entry (step_at off) n refl 0

  start_full : (j : ℕ) → j < n → 0 < length_of laid j → start_of laid j ≡ off j
  start_full j h p = start_is j h ∙ ap (λ (b : Bool). pick b (off j) 0) (lt-ltb 0 (step_at off j) (omega (arith, length_is j h)))

  cell_laid : (j : ℕ) → j < n → Placed (length laid.store) (start_of laid j) (length_of laid j)
  cell_laid j h =
      subst (λ (s : ℕ). Placed (length laid.store) s (length_of laid j)) (sym (start_is j h))
      (subst (λ (l : ℕ). Placed (length laid.store) (starts_at (off j) (step_at off j)) l) (sym (length_is j h)) (go (ltb 0 (step_at off j)) refl))
    where
      go : (b : Bool) → ltb 0 (step_at off j) ≡ b → (pick b (off j) 0 + step_at off j ≤ length laid.store) × OrZero b (pick b (off j) 0)
      go true e = (omega (arith, inside j h, store_long), tt)
      go false e = (omega (arith, inside j h, store_long), refl)

  bytes_are : (j : ℕ) → j < n → bytes_of laid j ≡ value_at off r.values j
  bytes_are j h = ap₂ (λ (l s : ℕ). take l (drop s laid.store)) (length_is j h) (start_is j h) ∙ go (ltb 0 (step_at off j)) refl
    where
      go : (b : Bool) → ltb 0 (step_at off j) ≡ b → take (step_at off j) (drop (pick b (off j) 0) laid.store) ≡ value_at off r.values j
      go true e =
          ap (take (step_at off j)) (drop-append-le (off j) r.values (drop (length r.values) old) (omega (arith, inside j h)))
          ∙ take-append-le (step_at off j) (drop (off j) r.values) (drop (length r.values) old) (omega (arith, inside j h, length-drop (off j) r.values))
      go false e =
          let none : step_at off j ≡ 0 = omega (arith, ltb-false 0 (step_at off j) e) in
          ap (λ (l : ℕ). take l laid.store) none ∙ ap (λ (l : ℕ). take l (drop (off j) r.values)) (sym none)

  cell_are : (j : ℕ) → j < n → cell_of k.depth n laid j ≡ cell_at k n r j
  cell_are j h =
      ap (λ (v : Value). cell_by (λ l. mask_at n r.masks l j) v k.depth 0) (bytes_are j h ∙ ragged_value k.form kind.is_ragged r j)

  cell_rest : (j : ℕ) → j < n → RestBy (λ l. mask_at n r.masks l j) k.depth (length_of laid j)
  cell_rest j h =
      let m : ℕ → ℕ = λ l. mask_at n r.masks l j in
      let v : Value = value_in k.form r j in
      let long : length v ≡ length_of laid j = ap length (sym (ragged_value k.form kind.is_ragged r j)) ∙ value_long rises r.values (le_of_eq to_end) j h ∙ sym (length_is j h) in
      subst (RestBy m k.depth) long (rests_by m k.depth v (resting j h))

  laid_ok : TableOk k.depth n laid
  laid_ok = record {
    masks_fit = ok.fits.masks_fit;
    starts_fit = length-map (from 0 n) (λ j. starts_at (off j) (step_at off j)) ∙ length_from_lem 0 n;
    lengths_fit = length-map (from 0 n) (step_at off) ∙ length_from_lem 0 n;
    strict = ok.strict;
    rests = all_below (λ j. RestBy (λ l. mask_at n r.masks l j) k.depth (length_of laid j)) n cell_rest;
    placed = all_below (λ j. Placed (length laid.store) (start_of laid j) (length_of laid j)) n cell_laid;
    apart = all_apart (start_of laid) (length_of laid) n
        (λ i j h l x y. inl (omega (arith, start_full i (omega arith) x, start_full j l y, length_is i (omega arith), rises i (omega arith), before (suc i) j h (omega arith))));
  }

  -- ---- packed

  abbrev lower : ℕ → ℕ → ℕ
  lower j i = pick (ltb i j) (step_at off i) 0

  lower_total : (j : ℕ) → j < n → sum_of (lower j) (from 0 n) ≡ off j
  lower_total j h =
      let first : sum_of (lower j) (from 0 j) ≡ off j =
      ap sum (map-from (lower j) (step_at off) 0 j (λ i l. ap (λ (b : Bool). pick b (step_at off i) 0) (lt-ltb i j (omega arith))))
      ∙ run_total rises 0 j (omega arith) ∙ omega (arith, from_zero, ap off (zero-add j)) in
      let others : sum_of (lower j) (from j (n - j)) ≡ 0 =
      sum_none (lower j) j (n - j) (λ i a l. ap (λ (b : Bool). pick b (step_at off i) 0) (le-ltb i j a)) in
      ap (sum_of (lower j)) (from-append 0 j (n - j) j n (omega arith) (omega arith))
      ∙ ap sum (map-append (lower j) (from 0 j) (from j (n - j))) ∙ sum-append (map (lower j) (from 0 j)) (map (lower j) (from j (n - j))) ∙ omega arith

  -- a cell counts as lower just where it comes earlier
  counts : (j i : ℕ) → j < n → i < n → 0 < length_of laid j
      → pick (ltb 0 (length_of laid i)) (pick (ltb (start_of laid i) (start_of laid j)) (length_of laid i) 0) 0 ≡ lower j i
  counts j i h l p = go (ltb 0 (length_of laid i)) refl (ltb i j) refl
    where
      go : (b : Bool) → ltb 0 (length_of laid i) ≡ b → (e : Bool) → ltb i j ≡ e
          → pick b (pick (ltb (start_of laid i) (start_of laid j)) (length_of laid i) 0) 0 ≡ pick e (step_at off i) 0
      go true x true y =
          let full : 0 < length_of laid i = ltb-true 0 (length_of laid i) x in
          let under : start_of laid i < start_of laid j =
          omega (arith, start_full i l full, start_full j h p, length_is i l, before (suc i) j (ltb-true i j y) (omega arith)) in
          ap (λ (b : Bool). pick b (length_of laid i) 0) (lt-ltb (start_of laid i) (start_of laid j) under) ∙ length_is i l
      go true x false y =
          let full : 0 < length_of laid i = ltb-true 0 (length_of laid i) x in
          let above : start_of laid j ≤ start_of laid i = omega (arith, start_full i l full, start_full j h p, before j i (ltb-false i j y) (omega arith)) in
          ap (λ (b : Bool). pick b (length_of laid i) 0) (le-ltb (start_of laid i) (start_of laid j) above)
      go false x true y = omega (arith, ltb-false 0 (length_of laid i) x, length_is i l)
      go false x false y = refl

  start_packed : (j : ℕ) → j < n → 0 < length_of laid j → start_of laid j ≡ packed_at (start_of laid) (length_of laid) (filled laid n) j
  start_packed j h p =
      start_full j h p
      ∙ sym (sum-passing (length_of laid) (λ i. ltb (start_of laid i) (start_of laid j)) (filled laid n)
      ∙ sum-passing (λ i. pick (ltb (start_of laid i) (start_of laid j)) (length_of laid i) 0) (λ i. ltb 0 (length_of laid i)) (from 0 n)
      ∙ ap sum (map-from (λ i. pick (ltb 0 (length_of laid i)) (pick (ltb (start_of laid i) (start_of laid j)) (length_of laid i) 0) 0) (lower j) 0 n (λ i l. counts j i h (omega arith) p))
      ∙ lower_total j h)

  abbrev elsewhere : ℕ → Bool
  elsewhere j = not (eqb (start_of laid j) (packed_at (start_of laid) (length_of laid) (filled laid n) j))

  laid_packed : displaced laid n ≡ []
  laid_packed =
      passing_none elsewhere (lying_by (start_of laid) (length_of laid) (filled laid n))
      (lies_all (lying_lies (start_of laid) (length_of laid) n) (λ j. elsewhere j ≡ false)
      (to_passing (λ j. elsewhere j ≡ false) (λ j. ltb 0 (length_of laid j)) (from 0 n)
      (all_below (λ j. ltb 0 (length_of laid j) ≡ true → elsewhere j ≡ false) n (λ j h e. ap not (eq-eqb _ _ (start_packed j h (ltb-true 0 (length_of laid j) e)))))))

  -- read out it is the array
  laid_read : content_of k n laid ≡ r
  laid_read =
      ap (layout k.form k.depth) (map-from (cell_of k.depth n laid) (cell_at k n r) 0 n (λ j h. cell_are j (omega arith)) ∙ sym (cells_are ok.fits))
      ∙ layout_cells k n r ok.fits

-- ---- the law

-- tables are equal by their parts
table_path : {m m' s s' l l' b b' : List ℕ} → m ≡ m' → s ≡ s' → l ≡ l' → b ≡ b'
    → ◌≡◌ {A = Table} (record { masks = m; starts = s; lengths = l; store = b }) (record { masks = m'; starts = s'; lengths = l'; store = b' })
table_path p q r u = λ i. record { masks = p i; starts = q i; lengths = r i; store = u i }

-- the cells' null has no bytes
null_none : (f : Form) → IsRagged f → null_of f ≡ []
null_none (fixed k o) r = absurd r
null_none (ragged w p) r = refl

-- the rest form of a valid array is one, and its cells are in rest form
module _ {k : Kind} {n : ℕ} {c : Content} (kind : TableKind k) (ok : ArrayOk k n c) (few : length c.values ≤ most_bytes) where
  abbrev resting : Cell k.depth → Cell k.depth
  resting = rest (null_of k.form) k.depth

  abbrev cells : List (Cell k.depth)
  cells = map resting (cells_of k n c)

  good : Good k n (cells_of k n c)
  good = good_cells k n c ok few

  counted : length cells ≡ n
  counted = length-map (cells_of k n c) resting ∙ good.counted

  sized : SizedAs k.form (leaves k.depth cells)
  sized = ragged_sized k.form kind.is_ragged (leaves k.depth cells)

  rest_ok : ArrayOk k n (rest_form k n c)
  rest_ok = record {
    fits = record {
      masks_fit = length-masks_of k.depth cells ∙ ap (λ (m : ℕ). k.depth * m) counted;
      values_fit = layout_values_ok k.form n k.depth cells counted sized;
    };
    strict = strict_masks k.depth cells
        (All-image (StrictCell k.depth) resting (cells_of k n c)
        (All-map (StrictCell k.depth) (λ x. StrictCell k.depth (resting x)) (strict_rest (null_of k.form) k.depth) (cells_of k n c) good.strict));
  }

  rest_rests : (j : ℕ) → j < n → rest [] k.depth (cell_at k n (rest_form k n c) j) ≡ cell_at k n (rest_form k n c) j
  rest_rests j h =
      let Rests : Cell k.depth → Type 0 = λ x. rest [] k.depth x ≡ x in
      let none : null_of k.form ≡ [] = null_none k.form kind.is_ragged in
      let each : (x : Cell k.depth) → Rests (resting x) = λ x. subst (λ (z : Value). rest [] k.depth (rest z k.depth x) ≡ rest z k.depth x) (sym none) (rest_again [] k.depth x) in
      subst Rests (ap (λ (xs : List (Cell k.depth)). get_or xs j (blank [] k.depth)) (sym (cells_layout k n cells counted sized)) ∙ cell_is rest_ok.fits (blank [] k.depth) j h)
      (All-get_or Rests (blank [] k.depth) (rest_blank [] k.depth) cells (All-image Rests resting (cells_of k n c) (All-of (λ x. Rests (resting x)) each (cells_of k n c))) j)

module _ (k : Kind) (n : ℕ) (c : Content) (out : Table) (kind : TableKind k) (count : CountOk n) (ok : ArrayOk k n c) (few : length c.values ≤ most_bytes)
    (small : length out.store ≤ most_store) (room : TableEnough (table_of n (rest_form k n c)) (table_lengths out)) where
  abbrev r : Content
  r = rest_form k n c

  abbrev given_up_to : TableLengths
  given_up_to = table_lengths (table_of n r)

  abbrev t : Table
  t = laid_table n r out.store

  valid : ArrayOk k n r
  valid = rest_ok kind ok few

  rests : (j : ℕ) → j < n → rest [] k.depth (cell_at k n r j) ≡ cell_at k n r j
  rests = rest_rests kind ok few

  answer : make_answer k n c out ≡ gives (table_of n r)
  unfolding make_answer
  answer =
      pass 1 (table_kind_test_lem k kind) (pass 2 (count_test_lem n count) (rest_passes k n c ok few (pass 5 (store_test_lem out small)
      (pass 6 (table_enough_test_lem (table_of n r) (table_lengths out) room) refl))))

  left : table_in given_up_to (made k n c out).buffers ≡ t
  unfolding made
  left =
      ap (λ (a : Answer Table). table_in given_up_to (table_after a out)) answer
      ∙ table_path (take-over r.masks out.masks) (take-over (table_of n r).starts out.starts) (take-over (table_of n r).lengths out.lengths) refl

  read : content_of k n t ≡ r
  read = laid_read kind valid rests out.store room.for_store

  working : Working k n t
  working = record {
    kind = kind;
    count = count;
    sound = laid_ok kind valid rests out.store room.for_store;
    small = omega (arith, store_long kind valid rests out.store room.for_store, small);
  }

  make_law : MakeLaw k n c out
  unfolding made
  make_law = record {
    given = ap (map_answer table_lengths) answer;
    working = subst (Working k n) (sym left) working;
    packed = ap (λ (x : Table). displaced x n) left ∙ laid_packed kind valid rests out.store room.for_store;
    returns = λ into e. ap (λ (x : Table). read_out k n x into) left
        ∙ (reads k n t working).given into (subst (λ (x : Content). Enough x (lengths_of into)) (sym read) e)
        ∙ ap (λ (x : Content). content_outcome (gives x) into) read;
  }

pub makes : Makes
makes = make_law
