-- The cells of a subset: which is the i-th, and that they are runs of neighbouring cells along the last side.
-- Assumes nothing.
use mathlib.Core.Path.{◌≡◌, refl, sym, ap, ap₂, ◌∙◌, subst}
use Prim.Native.Nat.{ℕ, zero, suc, ◌+◌, ◌*◌, ◌<◌, ◌≤◌}
use native.Mathlib.Nat.{zero-mul, suc-mul, mul-one}
use native.Mathlib.Omega.{arith}
use mathlib.Core.List.{List, [], ◌∷◌, ◌++◌, map, append_assoc, append-nil}
use lib.ListN.{length, get_or, drop, length-append, length-map, get_or-append}
use lib.Seq.{get_or-append-add, drop_at}
use Rattle.array.specs.Lists.{from}
use Rattle.array.specs.Shape.{volume}
use Rattle.array.specs.Subset.{Subset, lengths, SubsetOk, rows, cells_in}
use Rattle.array.proofs.Lists.{map-append, length_from_lem}
use Rattle.subset.specs.Walk.{Runs, none, run}

get_or-map_in : (f : ℕ → ℕ) (js : List ℕ) (y : ℕ) → y < length js → get_or (map f js) y 0 ≡ f (get_or js y 0)
get_or-map_in f [] y h = absurd (omega arith)
get_or-map_in f (j ∷ js) zero h = refl
get_or-map_in f (j ∷ js) (suc y) h = get_or-map_in f js y (omega arith)

-- element y of row x
pub rows_at : (v a n : ℕ) (js : List ℕ) (x y : ℕ) → x < n → y < length js
    → get_or (rows v (from a n) js) (x * length js + y) 0 ≡ (a + x) * v + get_or js y 0
rows_at v a zero js x y h l = absurd (omega arith)
rows_at v a (suc n) js zero y h l =
    let row : List ℕ = map (λ j. a * v + j) js in
    let q : zero * length js + y ≡ y = omega (arith, zero-mul (length js)) in
    let e : a ≡ a + zero = omega arith in
    ap (λ (k : ℕ). get_or (row ++ rows v (from (suc a) n) js) k 0) q
    ∙ get_or-append row (rows v (from (suc a) n) js) 0 y (omega (arith, length-map js (λ j. a * v + j)))
    ∙ get_or-map_in (λ j. a * v + j) js y l ∙ ap (λ (k : ℕ). k * v + get_or js y 0) e
rows_at v a (suc n) js (suc x) y h l =
    let row : List ℕ = map (λ j. a * v + j) js in
    let q : suc x * length js + y ≡ length row + (x * length js + y) = omega (arith, suc-mul x (length js), length-map js (λ j. a * v + j)) in
    let e : suc a + x ≡ a + suc x = omega arith in
    ap (λ (k : ℕ). get_or (row ++ rows v (from (suc a) n) js) k 0) q
    ∙ get_or-append-add row (rows v (from (suc a) n) js) (x * length js + y) 0
    ∙ rows_at v (suc a) n js x y (omega arith) l ∙ ap (λ (k : ℕ). k * v + get_or js y 0) e

-- ---- runs of n numbers, one after another

runs_append : {n : ℕ} {js : List ℕ} {ks : List ℕ} → Runs n js → Runs n ks → Runs n (js ++ ks)
runs_append {ks = ks} none q = q
runs_append {n} {ks = ks} (run a {js} p) q = subst (Runs n) (sym (append_assoc (from a n) js ks)) (run a (runs_append p q))

map-from-add : (c a n : ℕ) → map (λ j. c + j) (from a n) ≡ from (c + a) n
map-from-add c a zero = refl
map-from-add c a (suc n) =
    let q : c + suc a ≡ suc (c + a) = omega arith in
    ap (λ (r : List ℕ). (c + a) ∷ r) (map-from-add c (suc a) n ∙ ap (λ (k : ℕ). from k n) q)

runs_map : {n : ℕ} {js : List ℕ} (c : ℕ) → Runs n js → Runs n (map (λ j. c + j) js)
runs_map c none = none
runs_map {n} c (run a {js} p) =
    subst (Runs n) (sym (map-append (λ j. c + j) (from a n) js ∙ ap (λ (r : List ℕ). r ++ map (λ j. c + j) js) (map-from-add c a n))) (run (c + a) (runs_map c p))

runs_rows : {n : ℕ} (v : ℕ) (is : List ℕ) {js : List ℕ} → Runs n js → Runs n (rows v is js)
runs_rows v [] {js = js} p = none
runs_rows v (i ∷ is) {js = js} p = runs_append (runs_map (i * v) p) (runs_rows v is p)

row_of_one : (a n : ℕ) → rows 1 (from a n) (0 ∷ []) ≡ from a n
row_of_one a zero = refl
row_of_one a (suc n) =
    let q : a * 1 + 0 ≡ a = omega (arith, mul-one a) in
    ap₂ (λ (x : ℕ) (r : List ℕ). x ∷ r) q (row_of_one (suc a) n)

-- the length of the last side
abbrev pub last_length : List ℕ → ℕ
last_length [] = 0
last_length (n ∷ []) = n
last_length (n ∷ m ∷ ls) = last_length (m ∷ ls)

-- the rows of a subset are runs along its last side
pub cells_runs : (shape : List ℕ) (b : Subset) → 1 ≤ length shape → SubsetOk shape b → Runs (last_length (lengths b)) (cells_in shape b)
cells_runs [] b h p = absurd (omega arith)
cells_runs (s ∷ ss) [] h p = absurd p
cells_runs (s ∷ []) (b ∷ []) h p =
    subst (Runs b.1) (append-nil (from b.0 b.1) ∙ sym (row_of_one b.0 b.1)) (run b.0 none)
cells_runs (s ∷ []) (b ∷ c ∷ bs) h p = absurd p.1
cells_runs (s ∷ t ∷ ss) (b ∷ []) h p = absurd p.1
cells_runs (s ∷ t ∷ ss) (b ∷ c ∷ bs) h p =
    runs_rows (volume (t ∷ ss)) (from b.0 b.1) (cells_runs (t ∷ ss) (c ∷ bs) (omega arith) p.1)

-- runs that are not at their end begin with one, which its first number tells
pub record Begun (n : ℕ) (js : List ℕ) : Type 0 where
  pub first : js ≡ from (get_or js 0 0) n ++ drop n js
  pub rest : Runs n (drop n js)
  pub as_long : n ≤ length js

pub begun : (n : ℕ) {js : List ℕ} → 1 ≤ n → 0 < length js → Runs n js → Begun n js
begun n h l none = absurd (omega arith)
begun zero h l (run a p) = absurd (omega arith)
begun (suc n) h l (run a {js = ks} p) =
    let d : drop (suc n) (from a (suc n) ++ ks) ≡ ks = drop_at (from a (suc n)) ks (suc n) (length_from_lem a (suc n)) in
    record {
      first = ap (λ (r : List ℕ). from a (suc n) ++ r) (sym d);
      rest = subst (Runs (suc n)) (sym d) p;
      as_long = omega (arith, length-append (from a (suc n)) ks, length_from_lem a (suc n));
    }
