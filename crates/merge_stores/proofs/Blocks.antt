-- A scatter of the bytes of values is the scatter, and so the merge, of the values: for values of any lengths, all over one block of an output.
-- Assumes nothing.
use mathlib.Core.Path.{◌≡◌, refl, sym, ap, ap₂, ◌∙◌, subst}
use Prim.Native.Nat.{ℕ, zero, suc, ◌+◌, ◌*◌, ◌<◌, ◌≤◌}
use native.Mathlib.Nat.{suc-mul, zero-mul}
use native.Mathlib.Omega.{arith}
use mathlib.Core.List.{List, [], ◌∷◌, ◌++◌, map, append_assoc}
use lib.ListN.{length, get_or, take, drop, set, length-drop, length-append, length-map, take-append-drop, get_or-map, replicate, length-replicate}
use lib.Seq.{take_at, drop_at, take_all, take-length, split_at, set_split, map-set_same, length-take-le, drop-drop, take-suc}
use Rattle.array.specs.Cells.{Value}
use Rattle.array.specs.Lists.{All, joined, from}
use Rattle.array.specs.Places.{fixed_at, step_at, sum}
use Rattle.array.proofs.Lists.{length_from_lem, joined-append}
use Rattle.array.proofs.Places.{sum-append}
use Rattle.chunks.specs.Gather.{put_back, Once}
use Rattle.merge_stores.specs.Scatter.{scatter, places}
use Rattle.merge_stores.proofs.Scattering.{scatter-put_back, scatter_then, scatter_run}

pub length-joined : (vs : List Value) → length (joined vs) ≡ sum (map length vs)
length-joined [] = refl
length-joined (v ∷ vs) = length-append v (joined vs) ∙ ap (λ (k : ℕ). length v + k) (length-joined vs)

pub map-take : {A : Type 0} (f : A → ℕ) (vs : List A) (j : ℕ) → map f (take j vs) ≡ take j (map f vs)
map-take f vs zero = refl
map-take f [] (suc j) = refl
map-take f (v ∷ vs) (suc j) = ap (λ (r : List ℕ). f v ∷ r) (map-take f vs j)

-- a list cut into pieces of these lengths
abbrev pub cut_by : List ℕ → List ℕ → List Value
cut_by [] s = []
cut_by (l ∷ ls) s = take l s ∷ cut_by ls (drop l s)

joined_cut : (ls s : List ℕ) → length s ≡ sum ls → joined (cut_by ls s) ≡ s
joined_cut [] [] e = refl
joined_cut [] (x ∷ s) e = absurd (omega arith)
joined_cut (l ∷ ls) s e = ap (λ (r : List ℕ). take l s ++ r) (joined_cut ls (drop l s) (omega (arith, length-drop l s))) ∙ take-append-drop l s

lengths_cut : (ls s : List ℕ) → sum ls ≤ length s → map length (cut_by ls s) ≡ ls
lengths_cut [] s h = refl
lengths_cut (l ∷ ls) s h = ap₂ (λ (x : ℕ) (r : List ℕ). x ∷ r) (length-take-le l s (omega arith)) (lengths_cut ls (drop l s) (omega (arith, length-drop l s)))

-- ---- one value

middle : (x b v y : List ℕ) → length v ≡ length b → scatter (x ++ b ++ y) (from (length x) (length v)) v ≡ x ++ v ++ y
middle x b v y e =
    let l : length (x ++ b ++ y) ≡ length x + length b + length y = length-append (x ++ b) y ∙ ap (λ (k : ℕ). k + length y) (length-append x b) in
    let f : length x + length v ≡ length (x ++ b) = omega (arith, length-append x b) in
    scatter_run (length v) (x ++ b ++ y) (length x) v (omega arith) (omega arith)
    ∙ ap₂ (λ (p r : List ℕ). p ++ take (length v) v ++ r) (ap (take (length x)) (append_assoc x b y) ∙ take_at x (b ++ y) (length x) refl) (drop_at (x ++ b) y (length x + length v) (sym f))
    ∙ ap (λ (r : List ℕ). x ++ r ++ y) (take-length v)

-- each value beside its place
abbrev pub Beside : (ℕ → Value → Type 0) → List ℕ → List Value → Type 0
Beside P [] [] = Unit {0}
Beside P [] (v ∷ vs) = ⊥
Beside P (j ∷ js) [] = ⊥
Beside P (j ∷ js) (v ∷ vs) = P j v × Beside P js vs

beside_long : (P : ℕ → Value → Type 0) (js : List ℕ) (vs : List Value) → Beside P js vs → length js ≡ length vs
beside_long P [] [] b = refl
beside_long P [] (v ∷ vs) b = absurd b
beside_long P (j ∷ js) [] b = absurd b
beside_long P (j ∷ js) (v ∷ vs) b = ap suc (beside_long P js vs b.1)

module _ (ls : List ℕ) (off : ℕ → ℕ) (p q : List ℕ) (eo : (j : ℕ) → j ≤ length ls → off j ≡ length p + sum (take j ls)) where
  width : (j : ℕ) → j < length ls → step_at off j ≡ get_or ls j 0
  width j h =
      omega (arith, eo j (omega arith), eo (suc j) (omega arith), ap sum (take-suc ls j 0 h), sum-append (take j ls) (get_or ls j 0 ∷ []))

  module _ (vs : List Value) (j : ℕ) (v : Value) (e : map length vs ≡ ls) (h : j < length ls) (ev : length v ≡ get_or ls j 0) where
    h' : j < length vs
    h' = omega (arith, length-map vs length, ap length e)

    as_long : length v ≡ length (get_or vs j [])
    as_long = ev ∙ ap (λ (r : List ℕ). get_or r j 0) (sym e) ∙ get_or-map length vs j []

    pub lengths-set : map length (set vs j v) ≡ ls
    lengths-set = map-set_same length vs j v [] as_long ∙ e

    one_value : scatter (p ++ joined vs ++ q) (from (off j) (step_at off j)) v ≡ p ++ joined (set vs j v) ++ q
    one_value =
        let x : List ℕ = p ++ joined (take j vs) in
        let y : List ℕ = joined (drop (suc j) vs) ++ q in
        let whole : (w : Value) → p ++ joined (take j vs ++ w ∷ drop (suc j) vs) ++ q ≡ x ++ w ++ y =
        λ w. ap (λ (r : List ℕ). p ++ r ++ q) (joined-append (take j vs) (w ∷ drop (suc j) vs)) ∙ simp append_assoc in
        let ex : off j ≡ length x =
        eo j (omega arith) ∙ sym (length-append p (joined (take j vs)) ∙ ap (λ (k : ℕ). length p + k) (length-joined (take j vs) ∙ ap sum (map-take length vs j ∙ ap (take j) e))) in
        ap₂ (λ (o : List ℕ) (k : ℕ). scatter o (from k (step_at off j)) v) (ap (λ (r : List Value). p ++ joined r ++ q) (split_at vs j [] h') ∙ whole (get_or vs j [])) ex
        ∙ ap (λ (k : ℕ). scatter (x ++ get_or vs j [] ++ y) (from (length x) k) v) (width j h ∙ sym ev) ∙ middle x (get_or vs j []) v y as_long
        ∙ sym (whole v) ∙ ap (λ (r : List Value). p ++ joined r ++ q) (sym (set_split vs j v h'))

  -- the values one after another, over a block that is cut as they are
  pub scatter-joined : (as' : List Value) (js : List ℕ) (vs : List Value) → map length as' ≡ ls → All (λ j. j < length ls) js → Beside (λ j v. length v ≡ get_or ls j 0) js vs
      → scatter (p ++ joined as' ++ q) (places off js) (joined vs) ≡ p ++ joined (scatter as' js vs) ++ q
  scatter-joined as' [] [] e a b = refl
  scatter-joined as' [] (v ∷ vs) e a b = absurd b
  scatter-joined as' (j ∷ js) [] e a b = absurd b
  scatter-joined as' (j ∷ js) (v ∷ vs) e a b =
      scatter_then (p ++ joined as' ++ q) (from (off j) (step_at off j)) (places off js) v (joined vs) (length_from_lem (off j) (step_at off j) ∙ width j a.0 ∙ sym b.0)
      ∙ ap (λ (r : List ℕ). scatter r (places off js) (joined vs)) (one_value as' j v e a.0 b.0)
      ∙ scatter-joined (set as' j v) js vs (lengths-set as' j v e a.0 b.0) a.1 b.1

-- an output, in which the block of the merged values begins at `base`
module _ (ls : List ℕ) (off : ℕ → ℕ) (base : ℕ) (o : List ℕ) (eo : (j : ℕ) → j ≤ length ls → off j ≡ base + sum (take j ls)) (room : base + sum ls ≤ length o) where
  pub merged_block : (z : Value) (js : List ℕ) (vs : List Value) → All (λ j. j < length ls) js → Beside (λ j v. length v ≡ get_or ls j 0) js vs → Once (length ls) js
      → scatter o (places off js) (joined vs) ≡ take base o ++ joined (put_back z (length ls) js vs) ++ drop (base + sum ls) o
  merged_block z js vs a b once =
      let m : List ℕ = take (sum ls) (drop base o) in
      let lp : length (take base o) ≡ base = length-take-le base o (omega arith) in
      let lm : length m ≡ sum ls = length-take-le (sum ls) (drop base o) (omega (arith, length-drop base o)) in
      let cut : o ≡ take base o ++ joined (cut_by ls m) ++ drop (base + sum ls) o =
      sym (take-append-drop base o)
      ∙ ap (λ (r : List ℕ). take base o ++ r) (sym (take-append-drop (sum ls) (drop base o)) ∙ ap₂ (λ (x y : List ℕ). x ++ y) (sym (joined_cut ls m lm)) (drop-drop (sum ls) base o))
      ∙ sym (append_assoc (take base o) (joined (cut_by ls m)) (drop (base + sum ls) o)) in
      let el : map length (cut_by ls m) ≡ ls = lengths_cut ls m (omega arith) in
      ap (λ (r : List ℕ). scatter r (places off js) (joined vs)) cut
      ∙ scatter-joined ls off (take base o) (drop (base + sum ls) o) (λ j h. eo j h ∙ ap (λ (k : ℕ). k + sum (take j ls)) (sym lp)) (cut_by ls m) js vs el a b
      ∙ ap (λ (r : List Value). take base o ++ joined r ++ drop (base + sum ls) o)
      (scatter-put_back z (cut_by ls m) js vs (sym (length-map (cut_by ls m) length) ∙ ap length el) (beside_long (λ j v. length v ≡ get_or ls j 0) js vs b) once)

-- ---- values of one width

sum_same : (k n j : ℕ) → j ≤ n → sum (take j (replicate n k)) ≡ j * k
sum_same k n zero h = sym (zero-mul k)
sum_same k zero (suc j) h = absurd (omega arith)
sum_same k (suc n) (suc j) h = omega (arith, sum_same k n j (omega arith), suc-mul j k)

same_at : (k n j : ℕ) → j < n → get_or (replicate n k) j 0 ≡ k
same_at k zero j h = absurd (omega arith)
same_at k (suc n) zero h = refl
same_at k (suc n) (suc j) h = same_at k n j (omega arith)

beside_same : (k n : ℕ) (js : List ℕ) (vs : List Value) → length js ≡ length vs → All (λ j. j < n) js → All (λ v. length v ≡ k) vs → Beside (λ j v. length v ≡ get_or (replicate n k) j 0) js vs
beside_same k n [] [] e a s = tt
beside_same k n [] (v ∷ vs) e a s = absurd (omega arith)
beside_same k n (j ∷ js) [] e a s = absurd (omega arith)
beside_same k n (j ∷ js) (v ∷ vs) e a s = (s.0 ∙ sym (same_at k n j a.0), beside_same k n js vs (omega arith) a.1 s.1)

pub fixed_block : (base k n : ℕ) (o : List ℕ) (z : Value) (js : List ℕ) (vs : List Value) → base + n * k ≤ length o → length js ≡ length vs → All (λ j. j < n) js
    → All (λ v. length v ≡ k) vs → Once n js
    → scatter o (places (fixed_at base k) js) (joined vs) ≡ take base o ++ joined (put_back z n js vs) ++ drop (base + n * k) o
fixed_block base k n o z js vs room e a s once =
    let ls : List ℕ = replicate n k in
    let en : length ls ≡ n = length-replicate {A = ℕ} n k in
    let es : sum ls ≡ n * k = ap sum (sym (take_all n ls (omega arith))) ∙ sum_same k n n (omega arith) in
    subst (λ (m : ℕ). scatter o (places (fixed_at base k) js) (joined vs) ≡ take base o ++ joined (put_back z m js vs) ++ drop (base + n * k) o) en
    (subst (λ (w : ℕ). scatter o (places (fixed_at base k) js) (joined vs) ≡ take base o ++ joined (put_back z (length ls) js vs) ++ drop (base + w) o) es
    (merged_block ls (fixed_at base k) base o (λ j h. ap (λ (w : ℕ). base + w) (sym (sum_same k n j (omega arith)))) (omega arith) z js vs
    (subst (λ (m : ℕ). All (λ j. j < m) js) (sym en) a) (beside_same k n js vs e a s) (subst (λ (m : ℕ). Once m js) (sym en) once)))
