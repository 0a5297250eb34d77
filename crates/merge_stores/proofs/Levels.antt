-- What the stores leave in the outputs is the layout of the merged cells: masks, and values of one width.
-- Assumes nothing.
use mathlib.Core.Path.{◌≡◌, refl, sym, ap, ap₂, ◌∙◌}
use Prim.Native.Nat.{ℕ, zero, suc, ◌+◌, ◌*◌, ◌<◌, ◌≤◌}
use native.Mathlib.Nat.{mul-zero, mul-suc, mul_comm, mul-one, suc-mul, zero-mul, mul-add, add-mul, mul-le-mul_right, mul-le-mul_left}
use native.Mathlib.Omega.{arith}
use mathlib.Core.Bool.{Bool, true, false}
use mathlib.Core.List.{List, [], ◌∷◌, ◌++◌, map}
use lib.ListN.{length, take, drop, length-drop, length-append, length-map}
use lib.Dec.{eqb}
use lib.Seq.{drop-drop, length-take-le}
use Rattle.array.specs.Cells.{Value, Cell, mask_of, blank, inners}
use Rattle.array.specs.Content.{Content, attach, pair_up, values_in, cells_of, masks_of}
use Rattle.array.specs.Kind.{Kind}
use Rattle.array.specs.Lists.{All, joined, from, pick}
use Rattle.array.specs.Shape.{volume}
use Rattle.array.specs.Subset.{Subset, lengths, cells_in, cells_of_all, SubsetOk}
use Rattle.array.specs.Places.{fixed_at}
use Rattle.array.proofs.LayoutLaws.{inners-pair_up, length-attach, values_length_lem, mask_map}
use Rattle.array.proofs.Lists.{map-append, map-map, map_cong, take_within, from_suc}
use Rattle.array.proofs.SubsetLaws.{length-cells_in}
use Rattle.chunks.specs.Chunks.{first_chunk}
use Rattle.chunks.specs.Gather.{lookup, put_back, Once}
use Rattle.merge_stores.specs.Scatter.{scatter, places}
use Rattle.merge_stores.specs.Store.{parts, level_at, cells_total}
use Rattle.merge_stores.proofs.Blocks.{fixed_block}
use Rattle.merge_stores.proofs.FirstChunk.{Chunked, none_of, first_of}

-- ---- merging and what is done to each element

lookup_image : {A B : Type 0} (f : A → B) (z : A) (i : ℕ) (js : List ℕ) (xs : List A) → lookup (f z) i js (map f xs) ≡ f (lookup z i js xs)
lookup_image f z i [] xs = refl
lookup_image f z i (j ∷ js) [] = refl
lookup_image {A} {B} f z i (j ∷ js) (x ∷ xs) = go (eqb i j) (lookup_image f z i js xs)
  where
    go : (b : Bool) → lookup (f z) i js (map f xs) ≡ f (lookup z i js xs) → pick b (f x) (lookup (f z) i js (map f xs)) ≡ f (pick b x (lookup z i js xs))
    go true e = refl
    go false e = e

pub put_back-map : {A B : Type 0} (f : A → B) (z : A) (n : ℕ) (js : List ℕ) (xs : List A) → put_back (f z) n js (map f xs) ≡ map f (put_back z n js xs)
put_back-map f z n js xs = map_cong (λ i. lookup (f z) i js (map f xs)) (λ i. f (lookup z i js xs)) (λ i. lookup_image f z i js xs) (from 0 n) ∙ sym (map-map (λ i. lookup z i js xs) f (from 0 n))

-- the masks of merged cells, level by level
pub masks_put_back : (v : Value) (d n : ℕ) (js : List ℕ) (cs : List (Cell d)) → masks_of d (put_back (blank v d) n js cs) ≡ joined (map (λ l. put_back 0 n js (level_at d l cs)) (from 0 d))
masks_put_back v zero n js cs = refl
masks_put_back v (suc d) n js cs =
    let z : Cell (suc d) = blank v (suc d) in
    ap₂ (λ (a b : List ℕ). a ++ b)
    (mask_map (put_back z n js cs) ∙ sym (put_back-map (λ (c : Cell (suc d)). c.0) z n js cs) ∙ ap (put_back 0 n js) (sym (mask_map cs)))
    (ap (masks_of d) (sym (put_back-map (λ (c : Cell (suc d)). c.1) z n js cs)) ∙ masks_put_back v d n js (inners cs)
    ∙ ap joined (sym (from_suc (λ l. put_back 0 n js (level_at (suc d) l cs)) 0 d)))

-- ---- where a chunk list has its masks

mask_of-append : {A : Type 0} (xs ys : List (ℕ × A)) → mask_of (xs ++ ys) ≡ mask_of xs ++ mask_of ys
mask_of-append [] ys = refl
mask_of-append (x ∷ xs) ys = ap (λ (r : List ℕ). x.0 ∷ r) (mask_of-append xs ys)

level_append : (d l : ℕ) (xs ys : List (Cell d)) → level_at d l (xs ++ ys) ≡ level_at d l xs ++ level_at d l ys
level_append zero l xs ys = refl
level_append (suc d) zero xs ys = mask_of-append xs ys
level_append (suc d) (suc l) xs ys = ap (level_at d l) (map-append (λ (c : Cell (suc d)). c.1) xs ys) ∙ level_append d l (inners xs) (inners ys)

mask_of-pair_up : {A : Type 0} (ms : List ℕ) (xs : List A) → length ms ≡ length xs → mask_of (pair_up ms xs) ≡ ms
mask_of-pair_up [] xs e = refl
mask_of-pair_up (m ∷ ms) [] e = absurd (omega arith)
mask_of-pair_up (m ∷ ms) (x ∷ xs) e = ap (λ (r : List ℕ). m ∷ r) (mask_of-pair_up ms xs (omega arith))

level_attach : {n : ℕ} (vs : List Value) → length vs ≡ n → (d l : ℕ) (ps : List ℕ) → l < d → length ps ≡ d * n → level_at d l (attach d n ps vs) ≡ take n (drop (n * l) ps)
level_attach vs ev zero l ps h e = absurd (omega arith)
level_attach {n} vs ev (suc d) zero ps h e =
    let lt : length (take n ps) ≡ n = length-take-le n ps (omega (arith, suc-mul d n)) in
    let ld : length (drop n ps) ≡ d * n = omega (arith, suc-mul d n, length-drop n ps) in
    mask_of-pair_up (take n ps) (attach d n (drop n ps) vs) (lt ∙ sym (length-attach n vs ev d (drop n ps) ld)) ∙ ap (λ (k : ℕ). take n (drop k ps)) (sym (mul-zero n))
level_attach {n} vs ev (suc d) (suc l) ps h e =
    let lt : length (take n ps) ≡ n = length-take-le n ps (omega (arith, suc-mul d n)) in
    let ld : length (drop n ps) ≡ d * n = omega (arith, suc-mul d n, length-drop n ps) in
    let q : n + n * l ≡ n * suc l = omega (arith, mul-suc n l) in
    ap (level_at d l) (inners-pair_up (take n ps) (attach d n (drop n ps) vs) (lt ∙ sym (length-attach n vs ev d (drop n ps) ld)))
    ∙ level_attach vs ev d l (drop n ps) (omega arith) ld ∙ ap (take n) (drop-drop (n * l) n ps ∙ ap (λ (k : ℕ). drop k ps) q)

none_at : (d l : ℕ) → level_at d l [] ≡ []
none_at zero l = refl
none_at (suc d) zero = refl
none_at (suc d) (suc l) = none_at d l

pub chunk_levels : {k : Kind} (l : ℕ) → l < k.depth → (bs : List Subset) {c : Content} {cs : List (Cell k.depth)} → Chunked k bs c cs → level_at k.depth l cs ≡ parts l k.depth 1 bs c.masks
chunk_levels {k} l h [] e = ap (level_at k.depth l) (none_of e).0 ∙ none_at k.depth l
chunk_levels {k} l h (b ∷ bs) {c} e =
    let d : ℕ = k.depth in
    let m : ℕ = volume (lengths b) in
    let p = first_of e in
    let first : Content = first_chunk k m c in
    let room : m * l + m ≤ d * m = omega (arith, mul-suc m l, mul_comm m (suc l), mul-le-mul_right {m = suc l} {n = d} m h) in
    ap (level_at d l) p.whole ∙ level_append d l (cells_of k m first) p.later
    ∙ ap₂ (λ (x y : List ℕ). x ++ y)
    (level_attach (values_in k.form m first) (values_length_lem k.form m first p.ok.values_fit) d l first.masks h p.ok.masks_fit
    ∙ take_within (m * l) m (d * m) c.masks room ∙ ap (λ (n : ℕ). take n (drop (m * l) c.masks)) (sym (mul-one m)))
    (chunk_levels l h bs p.is_later ∙ ap (λ (n : ℕ). parts l d 1 bs (drop n c.masks)) (mul_comm d m))

-- ---- how long the parts are

pub length-parts : (lead step size : ℕ) → lead + size ≤ step → (bs : List Subset) (s : List ℕ) → cells_total bs * step ≤ length s → length (parts lead step size bs s) ≡ cells_total bs * size
length-parts lead step size h [] s l = sym (zero-mul size)
length-parts lead step size h (b ∷ bs) s l =
    let m : ℕ = volume (lengths b) in
    let part : List ℕ = take (m * size) (drop (m * lead) s) in
    let room : m * lead + m * size ≤ m * step = omega (arith, mul-add m lead size, mul-le-mul_left {m = lead + size} {n = step} m h) in
    let lp : length part ≡ m * size = length-take-le (m * size) (drop (m * lead) s) (omega (arith, length-drop (m * lead) s, add-mul m (cells_total bs) step)) in
    length-append part (parts lead step size bs (drop (m * step) s))
    ∙ ap₂ (λ (x y : ℕ). x + y) lp (length-parts lead step size h bs (drop (m * step) s) (omega (arith, length-drop (m * step) s, add-mul m (cells_total bs) step)))
    ∙ sym (add-mul m (cells_total bs) size)

pub length_all : (sh : List ℕ) (bs : List Subset) → All (SubsetOk sh) bs → length (cells_of_all sh bs) ≡ cells_total bs
length_all sh [] a = refl
length_all sh (b ∷ bs) a = length-append (cells_in sh b) (cells_of_all sh bs) ∙ ap₂ (λ (x y : ℕ). x + y) (length-cells_in sh b a.0) (length_all sh bs a.1)

-- ---- a level

abbrev single : ℕ → Value
single x = x ∷ []

joined-single : (xs : List ℕ) → joined (map single xs) ≡ xs
joined-single [] = refl
joined-single (x ∷ xs) = ap (λ (r : List ℕ). x ∷ r) (joined-single xs)

sized-single : (xs : List ℕ) → All (λ v. length v ≡ 1) (map single xs)
sized-single [] = tt
sized-single (x ∷ xs) = (refl, sized-single xs)

pub level_block : (base n : ℕ) (o js xs : List ℕ) → base + n ≤ length o → length js ≡ length xs → All (λ j. j < n) js → Once n js
    → scatter o (places (fixed_at base 1) js) xs ≡ take base o ++ put_back 0 n js xs ++ drop (base + n) o
level_block base n o js xs room e a once =
    ap (scatter o (places (fixed_at base 1) js)) (sym (joined-single xs))
    ∙ fixed_block base 1 n o (single 0) js (map single xs) (omega (arith, mul-one n)) (e ∙ sym (length-map xs single)) a (sized-single xs) once
    ∙ ap₂ (λ (r : List ℕ) (w : ℕ). take base o ++ r ++ drop (base + w) o) (ap joined (put_back-map single 0 n js xs) ∙ joined-single (put_back 0 n js xs)) (mul-one n)
