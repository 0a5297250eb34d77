-- Spreading over a plane, and reading plane by plane: it agrees with reading cells.
-- Assumes nothing.
use mathlib.Core.Path.{◌≡◌, refl, sym, ap, ap₂, ◌∙◌}
use Prim.Native.Nat.{ℕ, zero, suc, ◌+◌, ◌<◌}
use native.Mathlib.Omega.{arith}
use native.Mathlib.Numerals.{add-one}
use mathlib.Core.List.{List, [], ◌∷◌, ◌++◌, map}
use lib.ListN.{length, take, drop, get_or, replicate}
use lib.Seq.{drop-cons}
use Rattle.array.specs.Lists.{joined}
use Rattle.array.specs.Cells.{Value, Cell, Mark, mark_of, mask_of, inners, leaf, blank}
use Rattle.array.specs.Content.{masks_of, leaves}
use Rattle.array.proofs.Lists.{map-map}
use Rattle.codec.specs.Frame.{count_set, next_by, left_by, expand}
use Rattle.codec.specs.Spread.{spread, plane_list, placed}
use Rattle.codec.proofs.Marks.{count-le}

-- ---- spreading

pub length-spread : {A : Type 0} (z : A) (p : List ℕ) (xs : List A) → length (spread z p xs) ≡ length p
length-spread z [] xs = refl
length-spread z (m ∷ p) xs = ap suc (length-spread z p (left_by (mark_of m) xs))

-- only as many elements are taken as bytes are set
pub spread-take : {A : Type 0} (z : A) (p : List ℕ) (xs : List A) → spread z p (take (count_set p) xs) ≡ spread z p xs
spread-take z [] xs = refl
spread-take {A} z (zero ∷ p) xs = ap (λ (r : List A). z ∷ r) (spread-take z p xs)
spread-take {A} z (suc zero ∷ p) [] = refl
spread-take {A} z (suc zero ∷ p) (x ∷ xs) = ap (λ (r : List A). x ∷ r) (spread-take z p xs)
spread-take {A} z (suc (suc m) ∷ p) xs = ap (λ (r : List A). z ∷ r) (spread-take z p xs)

pub spread_none : {A : Type 0} (z : A) (p : List ℕ) (xs : List A) → count_set p ≡ 0 → spread z p xs ≡ replicate (length p) z
spread_none z [] xs e = refl
spread_none {A} z (zero ∷ p) xs e = ap (λ (r : List A). z ∷ r) (spread_none z p xs e)
spread_none z (suc zero ∷ p) xs e = absurd (omega arith)
spread_none {A} z (suc (suc m) ∷ p) xs e = ap (λ (r : List A). z ∷ r) (spread_none z p xs e)

-- where all bytes are set the list is taken as it is
pub spread_all : {A : Type 0} (z : A) (p : List ℕ) (xs : List A) → count_set p ≡ length p → length xs ≡ length p → spread z p xs ≡ xs
spread_all z [] [] e l = refl
spread_all z [] (x ∷ xs) e l = absurd (omega arith)
spread_all z (zero ∷ p) xs e l = absurd (omega (arith, count-le p))
spread_all z (suc zero ∷ p) [] e l = absurd (omega arith)
spread_all {A} z (suc zero ∷ p) (x ∷ xs) e l = ap (λ (r : List A). x ∷ r) (spread_all z p xs (omega arith) (omega arith))
spread_all z (suc (suc m) ∷ p) xs e l = absurd (omega (arith, count-le p))

pub count-spread : (p m : List ℕ) → length m ≡ count_set p → count_set (spread 0 p m) ≡ count_set m
count-spread [] [] e = refl
count-spread [] (x ∷ m) e = absurd (omega arith)
count-spread (zero ∷ p) m e = count-spread p m e
count-spread (suc zero ∷ p) [] e = absurd (omega arith)
count-spread (suc zero ∷ p) (zero ∷ m) e = count-spread p m (omega arith)
count-spread (suc zero ∷ p) (suc zero ∷ m) e = ap suc (count-spread p m (omega arith))
count-spread (suc zero ∷ p) (suc (suc x) ∷ m) e = count-spread p m (omega arith)
count-spread (suc (suc k) ∷ p) m e = count-spread p m e

-- from the byte i on, by what it says
pub spread_mark : {A : Type 0} (z : A) (p : List ℕ) (i : ℕ) (xs : List A) → i < length p → {m : Mark} → mark_of (get_or p i 0) ≡ m
    → spread z (drop i p) xs ≡ next_by m z xs ∷ spread z (drop (i + 1) p) (left_by m xs)
spread_mark z p i xs h e =
    ap (λ (l : List ℕ). spread z l xs) (drop-cons p i 0 h) ∙ ap₂ (λ (m : Mark) (j : ℕ). next_by m z xs ∷ spread z (drop j p) (left_by m xs)) e (sym (add-one i))

-- spreading commutes with what is done to each element
pub spread-map : {A B : Type 0} (f : A → B) (z : A) (ms : List ℕ) (xs : List A) → map f (spread z ms xs) ≡ spread (f z) ms (map f xs)
spread-map f z [] xs = refl
spread-map {B = B} f z (zero ∷ ms) xs = ap (λ (r : List B). f z ∷ r) (spread-map f z ms xs)
spread-map {B = B} f z (suc zero ∷ ms) [] = ap (λ (r : List B). f z ∷ r) (spread-map f z ms [])
spread-map {B = B} f z (suc zero ∷ ms) (x ∷ xs) = ap (λ (r : List B). f x ∷ r) (spread-map f z ms xs)
spread-map {B = B} f z (suc (suc m) ∷ ms) xs = ap (λ (r : List B). f z ∷ r) (spread-map f z ms xs)

-- two spreads are one over the spread mask: so only the plane before is looked at
pub spread-spread : {A : Type 0} (z : A) (ms ns : List ℕ) (xs : List A) → spread z (spread 0 ms ns) xs ≡ spread z ms (spread z ns xs)
spread-spread z [] ns xs = refl
spread-spread {A} z (zero ∷ ms) ns xs = ap (λ (r : List A). z ∷ r) (spread-spread z ms ns xs)
spread-spread {A} z (suc zero ∷ ms) [] xs = ap (λ (r : List A). z ∷ r) (spread-spread z ms [] xs)
spread-spread {A} z (suc zero ∷ ms) (zero ∷ ns) xs = ap (λ (r : List A). z ∷ r) (spread-spread z ms ns xs)
spread-spread {A} z (suc zero ∷ ms) (suc zero ∷ ns) [] = ap (λ (r : List A). z ∷ r) (spread-spread z ms ns [])
spread-spread {A} z (suc zero ∷ ms) (suc zero ∷ ns) (x ∷ xs) = ap (λ (r : List A). x ∷ r) (spread-spread z ms ns xs)
spread-spread {A} z (suc zero ∷ ms) (suc (suc n) ∷ ns) xs = ap (λ (r : List A). z ∷ r) (spread-spread z ms ns xs)
spread-spread {A} z (suc (suc m) ∷ ms) ns xs = ap (λ (r : List A). z ∷ r) (spread-spread z ms ns xs)

-- ---- cells below a mask

-- below a mask with no set byte nothing is taken
pub expand_none : {A : Type 0} (b : A) (ms : List ℕ) (xs ys : List A) → count_set ms ≡ 0 → expand b ms xs ≡ expand b ms ys
expand_none b [] xs ys e = refl
expand_none {A} b (zero ∷ ms) xs ys e = ap (λ (r : List (ℕ × A)). (zero, b) ∷ r) (expand_none b ms xs ys e)
expand_none b (suc zero ∷ ms) xs ys e = absurd (omega arith)
expand_none {A} b (suc (suc m) ∷ ms) xs ys e = ap (λ (r : List (ℕ × A)). (suc (suc m), b) ∷ r) (expand_none b ms xs ys e)

pub masks_expand : {A : Type 0} (b : A) (ms : List ℕ) (xs : List A) → mask_of (expand b ms xs) ≡ ms
masks_expand b [] xs = refl
masks_expand b (m ∷ ms) xs = ap (λ (r : List ℕ). m ∷ r) (masks_expand b ms (left_by (mark_of m) xs))

inners-expand : {A : Type 0} (b : A) (ms : List ℕ) (xs : List A) → inners (expand b ms xs) ≡ spread b ms xs
inners-expand b [] xs = refl
inners-expand {A} b (m ∷ ms) xs = ap (λ (r : List A). next_by (mark_of m) b xs ∷ r) (inners-expand b ms (left_by (mark_of m) xs))

masks_map : {A : Type 0} (cs : List (ℕ × A)) → mask_of cs ≡ map (λ c. c.0) cs
masks_map [] = refl
masks_map (c ∷ cs) = ap (λ (r : List ℕ). c.0 ∷ r) (masks_map cs)

leaf_blank : (z : Value) (d : ℕ) → leaf d (blank z d) ≡ z
leaf_blank z zero = refl
leaf_blank z (suc d) = leaf_blank z d

pub leaves-expand : (z : Value) (d : ℕ) (ms : List ℕ) (xs : List (Cell d)) → leaves (suc d) (expand (blank z d) ms xs) ≡ spread z ms (leaves d xs)
leaves-expand z d ms xs =
    sym (map-map (λ (c : Cell (suc d)). c.1) (leaf d) (expand (blank z d) ms xs)) ∙ ap (leaves d) (inners-expand (blank z d) ms xs)
    ∙ spread-map (leaf d) (blank z d) ms xs ∙ ap (λ (v : Value). spread v ms (leaves d xs)) (leaf_blank z d)

-- ---- planes

pub planes_joined : (d : ℕ) (cs : List (Cell d)) → masks_of d cs ≡ joined (plane_list d cs)
planes_joined zero cs = refl
planes_joined (suc d) cs = ap (λ (r : List ℕ). mask_of cs ++ r) (planes_joined d (inners cs))

planes_spread : (z : Value) (d : ℕ) (ms : List ℕ) (xs : List (Cell d)) → plane_list d (spread (blank z d) ms xs) ≡ map (spread 0 ms) (plane_list d xs)
planes_spread z zero ms xs = refl
planes_spread z (suc d) ms xs =
    ap₂ (λ (p : List ℕ) (r : List (List ℕ)). p ∷ r)
    (masks_map (spread (blank z (suc d)) ms xs) ∙ spread-map (λ (c : Cell (suc d)). c.0) (blank z (suc d)) ms xs ∙ ap (spread 0 ms) (sym (masks_map xs)))
    (ap (plane_list d) (spread-map (λ (c : Cell (suc d)). c.1) (blank z (suc d)) ms xs) ∙ planes_spread z d ms (inners xs))

-- the planes of a frame that was read: its mask, and each inner plane spread over it
pub planes_expand : (z : Value) (d : ℕ) (ms : List ℕ) (xs : List (Cell d)) → plane_list (suc d) (expand (blank z d) ms xs) ≡ ms ∷ map (spread 0 ms) (plane_list d xs)
planes_expand z d ms xs =
    ap₂ (λ (p : List ℕ) (r : List (List ℕ)). p ∷ r) (masks_expand (blank z d) ms xs) (ap (plane_list d) (inners-expand (blank z d) ms xs) ∙ planes_spread z d ms xs)

-- the planes placed one after the other, each over the one before, are the planes of the frame
abbrev pub stacked : List (List ℕ) → List (List ℕ)
stacked [] = []
stacked (ms ∷ rest) = ms ∷ map (spread 0 ms) (stacked rest)

map-spread : (p ms : List ℕ) (ps : List (List ℕ)) → map (spread 0 (spread 0 p ms)) ps ≡ map (spread 0 p) (map (spread 0 ms) ps)
map-spread p ms [] = refl
map-spread p ms (q ∷ ps) = ap₂ (λ (x : List ℕ) (r : List (List ℕ)). x ∷ r) (spread-spread 0 p ms q) (map-spread p ms ps)

pub placed_stacked : (p : List ℕ) (rest : List (List ℕ)) → placed p rest ≡ map (spread 0 p) (stacked rest)
placed_stacked p [] = refl
placed_stacked p (ms ∷ rest) =
    ap (λ (r : List (List ℕ)). spread 0 p ms ∷ r) (placed_stacked (spread 0 p ms) rest ∙ map-spread p ms (stacked rest))
