-- What a plane takes for a run of cells that are all set, or all not, and what is left then.
-- Assumes nothing.
use mathlib.Core.Path.{◌≡◌, refl, sym, ap, ap₂, ◌∙◌}
use mathlib.Core.List.{List, [], ◌∷◌, ◌++◌, map}
use Prim.Native.Nat.{ℕ, zero, suc, ◌+◌, ◌*◌, ◌≤◌}
use native.Mathlib.Omega.{arith}
use native.Mathlib.Nat.{zero-mul, suc-mul}
use lib.ListN.{length, take, drop, replicate, replicate-append-replicate, length-drop, length-map}
use lib.Seq.{drop-drop}
use Rattle.array.specs.Lists.{joined, pieces}
use Rattle.array.specs.Kind.{Order, ordered}
use Rattle.array.specs.Cells.{Value}
use Rattle.array.specs.Buffers.{over}
use Rattle.array.proofs.Lists.{map-append, length-pieces, joined-append}
use Rattle.codec.specs.Frame.{count_set}
use Rattle.codec.specs.Spread.{spread}
use Rattle.codec.proofs.Marks.{count_one, count-cons, count_block}
use Rattle.decode_words.specs.Values.{values_over}

-- ---- lists

pub joined_zeros : (r size : ℕ) → joined {A = ℕ} (replicate r (replicate size 0)) ≡ replicate (r * size) 0
joined_zeros zero size = ap (λ (k : ℕ). replicate {A = ℕ} k 0) (sym (zero-mul size))
joined_zeros (suc r) size =
    let e : size + r * size ≡ suc r * size = omega (arith, suc-mul r size) in
    ap (λ (l : List ℕ). replicate size 0 ++ l) (joined_zeros r size) ∙ replicate-append-replicate size (r * size) 0 ∙ ap (λ (k : ℕ). replicate {A = ℕ} k 0) e

pieces-add : (size a b c : ℕ) (q : List ℕ) → c ≡ a + b → pieces size c q ≡ pieces size a q ++ pieces size b (drop (a * size) q)
pieces-add size zero b c q e =
    let f : c ≡ b = omega arith in
    ap₂ (λ (k j : ℕ). pieces size k (drop j q)) f (sym (zero-mul size))
pieces-add size (suc a) b zero q e = absurd (omega arith)
pieces-add size (suc a) b (suc c) q e =
    let f : size + a * size ≡ suc a * size = omega (arith, suc-mul a size) in
    ap (λ (l : List (List ℕ)). take size q ∷ l)
    (pieces-add size a b c (drop size q) (omega arith)
    ∙ ap (λ (l : List ℕ). pieces size a (drop size q) ++ pieces size b l) (drop-drop (a * size) size q ∙ ap (λ (k : ℕ). drop k q) f))

-- ---- a plane that begins with r cells of one mark

spread_nulls : {A : Type 0} (z : A) (r : ℕ) (p : List ℕ) (xs : List A) → r ≤ length p → count_set (take r p) ≡ 0 → spread z p xs ≡ replicate r z ++ spread z (drop r p) xs
spread_nulls z zero p xs h e = refl
spread_nulls z (suc r) [] xs h e = absurd (omega arith)
spread_nulls {A} z (suc r) (zero ∷ p) xs h e = ap (λ (l : List A). z ∷ l) (spread_nulls z r p xs (omega arith) e)
spread_nulls z (suc r) (suc zero ∷ p) xs h e = absurd (omega arith)
spread_nulls {A} z (suc r) (suc (suc m) ∷ p) xs h e = ap (λ (l : List A). z ∷ l) (spread_nulls z r p xs (omega arith) e)

count-take : (r : ℕ) (p : List ℕ) → count_set (take r p) ≤ r
count-take zero p = omega arith
count-take (suc r) [] = omega arith
count-take (suc r) (b ∷ p) = omega (arith, count-cons b (take r p), count_one b, count-take r p)

spread_sets : {A : Type 0} (z : A) (r : ℕ) (p : List ℕ) (ys xs : List A) → length ys ≡ r → count_set (take r p) ≡ r → spread z p (ys ++ xs) ≡ ys ++ spread z (drop r p) xs
spread_sets z zero p [] xs l e = refl
spread_sets z zero p (y ∷ ys) xs l e = absurd (omega arith)
spread_sets z (suc r) p [] xs l e = absurd (omega arith)
spread_sets z (suc r) [] (y ∷ ys) xs l e = absurd (omega arith)
spread_sets z (suc r) (zero ∷ p) (y ∷ ys) xs l e = absurd (omega (arith, count-take r p))
spread_sets z (suc r) (suc (suc m) ∷ p) (y ∷ ys) xs l e = absurd (omega (arith, count-take r p))
spread_sets {A} z (suc r) (suc zero ∷ p) (y ∷ ys) xs l e = ap (λ (k : List A). y ∷ k) (spread_sets z r p ys xs (omega arith) (omega arith))

-- ---- values

-- `left` values, stored from j on
abbrev pub cells_left : ℕ → Order → List ℕ → ℕ → ℕ → List ℕ
cells_left size o s left j = joined (map (ordered o) (pieces size left (drop j s)))

-- what is left from cell i of the plane p on, the next stored value being at j
abbrev pub values_left : ℕ → Order → List ℕ → List ℕ → ℕ → ℕ → List ℕ
values_left size o p s i j = values_over size o (drop i p) (drop j s)

-- the size may be said in another way
pub sized_as : {size w : ℕ} → size ≡ w → (o : Order) (p q v : List ℕ) {out : List ℕ} → out ≡ over (values_over w o p q) v → out ≡ over (values_over size o p q) v
sized_as e o p q v h = h ∙ ap (λ (k : ℕ). over (values_over k o p q) v) (sym e)

module _ (size : ℕ) (o : Order) (p s : List ℕ) (i j r : ℕ) where
  -- r cells that are not set
  pub nulls_first : i + r ≤ length p → count_set (take r (drop i p)) ≡ 0 → values_left size o p s i j ≡ replicate (r * size) 0 ++ values_left size o p s (i + r) j
  nulls_first h e =
      let z : Value = replicate size 0 in
      let c : count_set (drop i p) ≡ count_set (drop (i + r) p) = omega (arith, count_block p i r) in
      let vs : List Value = map (ordered o) (pieces size (count_set (drop i p)) (drop j s)) in
      ap joined (spread_nulls z r (drop i p) vs (omega (arith, length-drop i p)) e)
      ∙ joined-append (replicate r z) (spread z (drop r (drop i p)) vs)
      ∙ ap₂ (λ (a b : List ℕ). a ++ b) (joined_zeros r size)
      (ap₂ (λ (q : List ℕ) (k : ℕ). joined (spread z q (map (ordered o) (pieces size k (drop j s))))) (drop-drop r i p) c)

  -- r set ones
  pub sets_first : count_set (take r (drop i p)) ≡ r → values_left size o p s i j ≡ cells_left size o s r j ++ values_left size o p s (i + r) (j + r * size)
  sets_first e =
      let z : Value = replicate size 0 in
      let m : ℕ = count_set (drop (i + r) p) in
      let ys : List Value = map (ordered o) (pieces size r (drop j s)) in
      let zs : List (List ℕ) = pieces size m (drop (r * size) (drop j s)) in
      let split : pieces size (count_set (drop i p)) (drop j s) ≡ pieces size r (drop j s) ++ zs = pieces-add size r m (count_set (drop i p)) (drop j s) (omega (arith, count_block p i r)) in
      ap (λ (l : List (List ℕ)). joined (spread z (drop i p) l)) (ap (map (ordered o)) split ∙ map-append (ordered o) (pieces size r (drop j s)) zs)
      ∙ ap joined (spread_sets z r (drop i p) ys (map (ordered o) zs) (length-map (pieces size r (drop j s)) (ordered o) ∙ length-pieces size r (drop j s)) e)
      ∙ joined-append ys (spread z (drop r (drop i p)) (map (ordered o) zs))
      ∙ ap₂ (λ (q l : List ℕ). joined ys ++ joined (spread z q (map (ordered o) (pieces size m l)))) (drop-drop r i p) (drop-drop (r * size) j s)
