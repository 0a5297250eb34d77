-- The whole shape as a subset: its cells are all cells, in their order. And what is put back in all places has the bytes that were there.
-- Assumes nothing.
use Rattle.std.proofs.Common.{◌≡◌, ℕ, ◌*◌, ◌<◌, List, [], ◌∷◌, map, length, get_or, replicate, refl, sym, ap, ap₂, ◌∙◌, subst}
use Rattle.std.proofs.Common.{arith, zero-mul, one-mul, take_at, drop_at, length-append, ext_get_or}
use Rattle.std.proofs.lemmas.List.{get_or-map, length-replicate, length-map}
use Rattle.array.specs.Lists.{from, joined, All, count}
use Rattle.array.specs.Shape.{volume}
use Rattle.array.specs.Subset.{Subset, pairs, subset_of, SubsetOk, NumbersOk, rows, cells_in}
use Rattle.array.specs.Cells.{Value}
use Rattle.array.specs.Places.{sum}
use Rattle.array.proofs.Geometry.{rows-from}
use Rattle.array.proofs.Lists.{All-at, length_from_lem, map-from}
use Rattle.array.proofs.Sums.{length-joined-map, sum-count}
use Rattle.chunks.specs.Gather.{gather, lookup, put_back, Once}
use Rattle.chunks.proofs.Gather.{gather_all, lookup_at}
use Rattle.migrate.specs.Meaning.{whole_of}

-- ---- the whole shape

abbrev pub whole_subset : List ℕ → Subset
whole_subset shape = pairs (replicate (length shape) 0) shape

pub whole_is : (shape : List ℕ) → subset_of (length shape) (whole_of shape) ≡ whole_subset shape
whole_is shape =
    let zeros : List ℕ = replicate (length shape) 0 in
    ap₂ pairs (take_at zeros shape (length shape) (length-replicate (length shape) 0)) (drop_at zeros shape (length shape) (length-replicate (length shape) 0))

whole_fits : (shape : List ℕ) → SubsetOk shape (whole_subset shape)
whole_fits [] = tt
whole_fits (s ∷ ss) = (omega arith, whole_fits ss)

pub whole_numbers : (shape : List ℕ) → NumbersOk shape (whole_of shape)
whole_numbers shape = record {
  counted = omega (arith, length-append (replicate (length shape) 0) shape, length-replicate {A = ℕ} (length shape) 0);
  fits = subst (SubsetOk shape) (sym (whole_is shape)) (whole_fits shape);
}

whole_cells : (shape : List ℕ) → cells_in shape (whole_subset shape) ≡ from 0 (volume shape)
whole_cells [] = refl
whole_cells (s ∷ ss) =
    ap (rows (volume ss) (from 0 s)) (whole_cells ss) ∙ rows-from (volume ss) 0 s ∙ ap (λ (k : ℕ). from k (s * volume ss)) (zero-mul (volume ss))

-- gathered whole, elements stay as they are
pub gather_whole : {A : Type 0} (z : A) (shape : List ℕ) (xs : List A) → length xs ≡ volume shape → gather z xs (cells_in shape (subset_of (length shape) (whole_of shape))) ≡ xs
gather_whole z shape xs e =
    ap (λ (b : Subset). gather z xs (cells_in shape b)) (whole_is shape)
    ∙ ap (gather z xs) (whole_cells shape ∙ ap (from 0) (sym e)) ∙ gather_all z xs

-- ---- values put back

pub length_back : {A : Type 0} (z : A) (n : ℕ) (js : List ℕ) (xs : List A) → length (put_back z n js xs) ≡ n
length_back z n js xs = length-map (from 0 n) (λ i. lookup z i js xs) ∙ length_from_lem 0 n

module _ (n : ℕ) (js : List ℕ) (below : All (λ j. j < n) js) (once : Once n js) (vs : List Value) (e : length js ≡ length vs) where
  abbrev there : ℕ → Value
  there j = lookup [] j js vs

  abbrev bytes : ℕ → ℕ
  bytes j = length (there j)

  in_turn : map there js ≡ vs
  in_turn =
      ext_get_or [] (map there js) vs (length-map js there ∙ e)
      (λ i h. let l : i < length js = omega (arith, length-map js there) in
      get_or-map there js i 0 [] l ∙ lookup_at [] js vs i e l (once (get_or js i 0) (All-at (λ j. j < n) 0 js below i l)))

  pub bytes_back : length (joined (put_back [] n js vs)) ≡ length (joined vs)
  bytes_back =
      length-joined-map there (from 0 n)
      ∙ ap sum (map-from bytes (λ i. count i js * bytes i) 0 n (λ i h. sym (ap (λ (c : ℕ). c * bytes i) (once i (omega arith)) ∙ one-mul (bytes i))))
      ∙ sym (sum-count bytes n js below)
      ∙ sym (length-joined-map there js)
      ∙ ap (λ (us : List Value). length (joined us)) in_turn
