-- Cell i of a subset, side by side from the last: what holds at the head of the loop that finds it, and a turn of it.
-- Assumes nothing.
use mathlib.Core.Path.{◌≡◌, refl, sym, ap, ap₂, ◌∙◌, subst}
use Prim.Native.Nat.{ℕ, zero, suc, ◌+◌, ◌-◌, ◌*◌, ◌/◌, ◌%◌, ◌<◌, ◌≤◌}
use native.Mathlib.Nat.{zero-mul, mul-zero, suc-mul, mul-one, add-mul, mul_assoc, le_refl, le_trans, mul-le-mul_right, mul-le-mul_left, div-add-mod', mod-lt}
use native.Mathlib.Omega.{arith}
use mathlib.Core.List.{List, [], ◌∷◌}
use lib.ListN.{length, get_or, drop, length-drop, drop_of_length-le}
use Rattle.array.specs.Limits.{most_cells}
use Rattle.array.specs.Lists.{from, All}
use Rattle.array.specs.Shape.{volume, ShapeOk}
use Rattle.array.specs.Subset.{pairs, SubsetOk, rows, cells_in}
use Rattle.array.specs.Rows.{Within, FewCells}
use Rattle.array.proofs.SubsetLaws.{length-cells_in, lengths-pairs, volume-le}
use Rattle.valid.proofs.ShapeLaws.{next_side, volume-drop}
use Rattle.subset.proofs.Runs.{rows_at}

pub All-drop : (P : ℕ → Type 0) (k : ℕ) (xs : List ℕ) → All P xs → All P (drop k xs)
All-drop P zero xs p = p
All-drop P (suc k) [] p = p
All-drop P (suc k) (x ∷ xs) p = All-drop P k xs p.1

-- a subset that has a cell has no length 0
pub lengths_some : (ls : List ℕ) → 1 ≤ volume ls → All (λ n. 1 ≤ n) ls
lengths_some [] h = tt
lengths_some (zero ∷ ls) h = absurd (omega (arith, zero-mul (volume ls)))
lengths_some (suc n ∷ ls) h = (omega arith, lengths_some ls (go (volume ls) h))
  where
    go : (v : ℕ) → 1 ≤ suc n * v → 1 ≤ v
    go zero h = absurd (omega (arith, mul-zero (suc n)))
    go (suc v) h = omega arith

-- ---- volumes that never wrap

pub few_shape : (sh : List ℕ) → All (λ s. 1 ≤ s) sh → volume sh ≤ most_cells → FewCells sh
few_shape [] p h = tt
few_shape (s ∷ sh) p h = (h, few_shape sh p.1 (le_trans (volume-drop (s ∷ sh) 1 p) h))

pub few_lengths : (sh st ls : List ℕ) → FewCells sh → length st ≡ length sh → length ls ≡ length sh → SubsetOk sh (pairs st ls) → FewCells ls
few_lengths [] st [] w d e p = tt
few_lengths [] st (n ∷ ls) w d e p = absurd (omega arith)
few_lengths (s ∷ sh) [] ls w d e p = absurd (omega arith)
few_lengths (s ∷ sh) (a ∷ st) [] w d e p = absurd (omega arith)
few_lengths (s ∷ sh) (a ∷ st) (n ∷ ls) w d e p = (
  le_trans (subst (λ (x : List ℕ). volume x ≤ volume (s ∷ sh)) (lengths-pairs (a ∷ st) (n ∷ ls) (omega arith)) (volume-le (s ∷ sh) ((a, n) ∷ pairs st ls) p)) w.0,
  few_lengths sh st ls w.1 (omega arith) (omega arith) p.1,
)

pub few_within : {sh : List ℕ} (st ls : List ℕ) → ShapeOk sh → Within sh st ls → FewCells ls
few_within {sh} st ls o f = few_lengths sh st ls (few_shape sh o.sides o.few_cells) f.as_many_starts f.as_many_lengths f.inside

pub few_drop : (k : ℕ) (xs : List ℕ) → FewCells xs → volume (drop k xs) ≤ 65536
unfolding most_cells
few_drop zero [] p = omega arith
few_drop zero (x ∷ xs) p = p.0
few_drop (suc k) [] p = omega arith
few_drop (suc k) (x ∷ xs) p = few_drop k xs p.1

pub volume_end : (xs : List ℕ) (k : ℕ) → length xs ≤ k → volume (drop k xs) ≡ 1
volume_end xs k h = ap volume (drop_of_length-le xs h)

pub volume-whole : (xs : List ℕ) (k : ℕ) → k ≤ 0 → volume (drop k xs) ≡ volume xs
volume-whole xs zero h = refl
volume-whole xs (suc k) h = absurd (omega arith)

-- a side more of the volume fits
module _ (xs : List ℕ) (k : ℕ) {v : ℕ} (h : 0 < k) (l : k ≤ length xs) (e : v ≡ volume (drop k xs)) where
  pub volume_more : get_or xs (k - 1) 0 * v ≡ volume (drop (k - 1) xs)
  volume_more = ap (λ (w : ℕ). get_or xs (k - 1) 0 * w) e ∙ sym (ap volume (next_side xs k h l))

  pub volume_fits : FewCells xs → get_or xs (k - 1) 0 * v ≤ 65536
  volume_fits p = omega (arith, volume_more, few_drop (k - 1) xs p)

-- ---- the sides from k on

subset_drop : (k : ℕ) (sh st ls : List ℕ) → length st ≡ length sh → length ls ≡ length sh
    → SubsetOk sh (pairs st ls) → SubsetOk (drop k sh) (pairs (drop k st) (drop k ls))
subset_drop zero sh st ls d e p = p
subset_drop (suc k) [] [] [] d e p = p
subset_drop (suc k) [] [] (n ∷ ls) d e p = absurd (omega arith)
subset_drop (suc k) [] (a ∷ st) ls d e p = absurd (omega arith)
subset_drop (suc k) (s ∷ sh) [] ls d e p = absurd (omega arith)
subset_drop (suc k) (s ∷ sh) (a ∷ st) [] d e p = absurd (omega arith)
subset_drop (suc k) (s ∷ sh) (a ∷ st) (n ∷ ls) d e p = subset_drop k sh st ls (omega arith) (omega arith) p.1

within-drop : (k : ℕ) {sh st ls : List ℕ} → Within sh st ls → Within (drop k sh) (drop k st) (drop k ls)
within-drop k {sh} {st} {ls} f = record {
  as_many_starts = omega (arith, length-drop k st, length-drop k sh, f.as_many_starts);
  as_many_lengths = omega (arith, length-drop k ls, length-drop k sh, f.as_many_lengths);
  inside = subset_drop k sh st ls f.as_many_starts f.as_many_lengths f.inside;
}

-- the first k sides are left to do: q counts in them, y in the others
pub record CellAt (sh st ls : List ℕ) (i k v cell q : ℕ) : Type 0 where
  pub within : k ≤ length sh
  pub vol : v ≡ volume (drop k sh)
  pub y : ℕ
  pub parts : i ≡ q * volume (drop k ls) + y
  pub below : y < volume (drop k ls)
  pub found : cell ≡ get_or (cells_in (drop k sh) (pairs (drop k st) (drop k ls))) y 0
  pub small : cell < v

module _ (sh st ls : List ℕ) (i : ℕ) (f : Within sh st ls) (g : i < volume ls) where
  pub cell_begins : CellAt sh st ls i (length sh) 1 0 i
  cell_begins =
      let es : drop (length sh) sh ≡ [] = drop_of_length-le sh (le_refl (length sh)) in
      let el : volume (drop (length sh) ls) ≡ 1 = volume_end ls (length sh) (omega (arith, f.as_many_lengths)) in
      record {
        within = le_refl (length sh);
        vol = sym (ap volume es);
        y = 0;
        parts = rw (el, mul-one) (omega arith);
        below = omega (arith, el);
        found = rw es;
        small = omega arith;
      }

  pub cell_ends : (k : ℕ) {v cell q : ℕ} → CellAt sh st ls i k v cell q → k ≤ 0 → cell ≡ get_or (cells_in sh (pairs st ls)) i 0
  cell_ends zero {v} {cell} {q} c h = c.found ∙ ap (λ (j : ℕ). get_or (cells_in sh (pairs st ls)) j 0) (go q c.parts)
    where
      go : (q : ℕ) → i ≡ q * volume ls + c.y → c.y ≡ i
      go zero e = omega (arith, e, zero-mul (volume ls))
      go (suc q) e = absurd (omega (arith, e, suc-mul q (volume ls)))
  cell_ends (suc k) c h = absurd (omega arith)

  module _ {k v cell q : ℕ} (c : CellAt sh st ls i k v cell q) (h : 0 < k) where
    abbrev s : ℕ
    s = get_or sh (k - 1) 0

    abbrev a : ℕ
    a = get_or st (k - 1) 0

    abbrev n : ℕ
    n = get_or ls (k - 1) 0

    abbrev x : ℕ
    x = q % n

    fs : drop (k - 1) sh ≡ s ∷ drop k sh
    fs = next_side sh k h c.within

    fa : drop (k - 1) st ≡ a ∷ drop k st
    fa = next_side st k h (omega (arith, f.as_many_starts, c.within))

    fn : drop (k - 1) ls ≡ n ∷ drop k ls
    fn = next_side ls k h (omega (arith, f.as_many_lengths, c.within))

    side : Within (s ∷ drop k sh) (a ∷ drop k st) (n ∷ drop k ls)
    side = rw (fs, fa, fn) at (within-drop (k - 1) f)

    full : All (λ m. 1 ≤ m) (n ∷ drop k ls)
    full = rw fn at (All-drop (λ m. 1 ≤ m) (k - 1) ls (lengths_some ls (omega arith)))

    pub some : 1 ≤ n
    some = full.0

    pub row_inside : a + x < s
    row_inside = omega (arith, side.inside.0, mod-lt q some)

    -- one row of cells more still lies in the volume
    pub cell_fits : (a + x) * v + cell < s * v
    cell_fits = omega (arith, c.small, mul-le-mul_right v row_inside, suc-mul (a + x) v)

    abbrev L : ℕ
    L = volume (drop k ls)

    js_long : length (cells_in (drop k sh) (pairs (drop k st) (drop k ls))) ≡ L
    js_long =
        length-cells_in (drop k sh) (pairs (drop k st) (drop k ls)) side.inside.1
        ∙ ap volume (lengths-pairs (drop k st) (drop k ls) (omega (arith, side.as_many_starts, side.as_many_lengths)))

    pub cell_more : CellAt sh st ls i (k - 1) (s * v) ((a + x) * v + cell) (q / n)
    cell_more =
        let js : List ℕ = cells_in (drop k sh) (pairs (drop k st) (drop k ls)) in
        let y : ℕ = c.y in
        record {
          within = omega (arith, c.within);
          vol = ap (λ (w : ℕ). s * w) c.vol ∙ sym (ap volume fs);
          y = x * L + y;
          parts = rw fn (
              let e : q * L ≡ q / n * (n * L) + x * L =
              ap (λ (w : ℕ). w * L) (sym (div-add-mod' q n)) ∙ add-mul (q / n * n) x L ∙ ap (λ (w : ℕ). w + x * L) (mul_assoc (q / n) n L) in
              omega (arith, c.parts, e));
          below = rw fn (omega (arith, c.below, mul-le-mul_right L (mod-lt q some), suc-mul x L));
          found = rw (fs, fa, fn) (
              ap₂ (λ (w z : ℕ). (a + x) * w + z) c.vol c.found
              ∙ sym (rows_at (volume (drop k sh)) a n js x y (mod-lt q some) (omega (arith, c.below, js_long)))
              ∙ ap (λ (w : ℕ). get_or (rows (volume (drop k sh)) (from a n) js) (x * w + y) 0) js_long);
          small = cell_fits;
        }

-- what a turn computes is small
pub record Turn (sh st ls : List ℕ) (k v cell q : ℕ) : Type 0 where
  pub some_length : 1 ≤ get_or ls (k - 1) 0
  pub row_small : get_or st (k - 1) 0 + q % get_or ls (k - 1) 0 ≤ 65536
  pub cell_small : (get_or st (k - 1) 0 + q % get_or ls (k - 1) 0) * v + cell ≤ 65536
  pub vol_small : get_or sh (k - 1) 0 * v ≤ 65536

pub turn : {sh st ls : List ℕ} {i k v cell q : ℕ} → ShapeOk sh → Within sh st ls → i < volume ls → CellAt sh st ls i k v cell q → 0 < k → Turn sh st ls k v cell q
turn {sh} {st} {ls} {i} {k} {v} {cell} {q} o f g c h =
    let w : get_or sh (k - 1) 0 * v ≤ 65536 = volume_fits sh k h c.within c.vol (few_shape sh o.sides o.few_cells) in
    let r : get_or st (k - 1) 0 + q % get_or ls (k - 1) 0 < get_or sh (k - 1) 0 = row_inside sh st ls i f g c h in
    let one : 1 ≤ v = omega (arith, c.small) in
    record {
      some_length = some sh st ls i f g c h;
      row_small = omega (arith, mul-le-mul_left (get_or sh (k - 1) 0) one, mul-one (get_or sh (k - 1) 0));
      cell_small = omega (arith, cell_fits sh st ls i f g c h);
      vol_small = w;
    }
