-- The mask bytes of one cell, stored level by level, are the planes with that cell's bytes in rest form.
-- Assumes nothing.
use mathlib.Core.Path.{◌≡◌, refl, sym, ap, ap₂, ◌∙◌}
use Prim.Native.Nat.{ℕ, zero, suc, ◌+◌, ◌*◌, ◌≤◌, ◌<◌}
use native.Mathlib.Nat.{zero-mul, suc-mul, add-mul, zero-add, mul-le-mul_right}
use native.Mathlib.Omega.{arith}
use mathlib.Core.Logic.{◌⊎◌, inl, inr, ⊎_elim}
use mathlib.Core.Bool.{Bool, true, false}
use mathlib.Core.List.{List, ◌++◌}
use lib.ListN.{length, drop, get_or, set, length-set, take-append-drop, drop_of_length-le}
use lib.Seq.{drop-drop, get_or-set_same, get_or-set_other}
use lib.Dec.{eqb, ltb}
use lib.Arith.{lt_of_le-ne}
use borrow.Author.Tests.{eqb-true, eqb-false, ltb-true, ltb-false}
use Rattle.array.specs.Lists.{from, pick}
use Rattle.array.specs.Places.{mask_at, planes_by, shown_by}
use Rattle.array.proofs.Lists.{map-from}
use Rattle.array.proofs.Numbered.{plane_is}
use Rattle.table_setting.specs.Masks.{shown_mask, masked_by}

lt_or_ge : (a b : ℕ) → (a < b) ⊎ (b ≤ a)
lt_or_ge a b = go (ltb a b) refl
  where
    go : (t : Bool) → ltb a b ≡ t → (a < b) ⊎ (b ≤ a)
    go true e = inl (ltb-true a b e)
    go false e = inr (ltb-false a b e)

-- ---- planes by their bytes

module _ (n : ℕ) (x : List ℕ) where
  -- all planes from level l on
  planes_from : (d l : ℕ) → length x ≡ (l + d) * n → drop (l * n) x ≡ planes_by (mask_at n x) d l (from 0 n)
  planes_from zero l e = drop_of_length-le x {i = l * n} (omega (arith, e, add-mul l 0 n, zero-mul n))
  planes_from (suc d) l e =
      let room : l * n + n ≤ length x = omega (arith, e, suc-mul (l + d) n, add-mul l d n) in
      let next : drop n (drop (l * n) x) ≡ drop (suc l * n) x = drop-drop n (l * n) x ∙ ap (λ (m : ℕ). drop m x) (sym (suc-mul l n)) in
      sym (take-append-drop n (drop (l * n) x)) ∙ ap₂ (λ (a b : List ℕ). a ++ b) (plane_is n x l room) (next ∙ planes_from d (suc l) (omega arith))

  pub planes_self : (d : ℕ) → length x ≡ d * n → x ≡ planes_by (mask_at n x) d 0 (from 0 n)
  planes_self d e = sym (ap (λ (m : ℕ). drop m x) (zero-mul n)) ∙ planes_from d 0 (e ∙ ap (λ (m : ℕ). m * n) (sym (zero-add d)))

pub planes_alike : (a b : ℕ → ℕ → ℕ) (n top : ℕ) → ((l j : ℕ) → l < top → j < n → a l j ≡ b l j) → (d l : ℕ) → l + d ≤ top
    → planes_by a d l (from 0 n) ≡ planes_by b d l (from 0 n)
planes_alike a b n top e zero l h = refl
planes_alike a b n top e (suc d) l h =
    ap₂ (λ (x y : List ℕ). x ++ y) (map-from (a l) (b l) 0 n (λ i g. e l i (omega arith) (omega arith))) (planes_alike a b n top e d (suc l) (omega arith))

-- ---- one byte in each plane

module _ (n c : ℕ) (f : ℕ → ℕ) (out : List ℕ) where
  -- the bytes f of the first k levels stored for cell c
  abbrev pub column : ℕ → List ℕ
  column zero = out
  column (suc k) = set (column k) (c + k * n) (f k)

  pub column-length : (k : ℕ) → length (column k) ≡ length out
  column-length zero = refl
  column-length (suc k) = length-set (column k) (c + k * n) (f k) ∙ column-length k

  module _ (h : c < n) where
    apart : {l k j : ℕ} → j < n → (l < k) → l * n + j ≡ c + k * n → ⊥
    apart {l} {k} {j} g lt e = omega (arith, suc-mul l n, mul-le-mul_right n (let s : suc l ≤ k = omega arith in s))

    apart_above : {l k j : ℕ} → j < n → (k < l) → l * n + j ≡ c + k * n → ⊥
    apart_above {l} {k} {j} g lt e = omega (arith, suc-mul k n, mul-le-mul_right n (let s : suc k ≤ l = omega arith in s))

    hit : (k l : ℕ) → l < k → c + l * n < length out → get_or (column k) (l * n + c) 0 ≡ f l
    hit zero l lt r = absurd (omega arith)
    hit (suc k) l lt r = go (eqb l k) refl (λ h. hit k l h r)
      where
        go : (b : Bool) → eqb l k ≡ b → (l < k → get_or (column k) (l * n + c) 0 ≡ f l) → get_or (column (suc k)) (l * n + c) 0 ≡ f l
        go true q ih =
            let same : l ≡ k = eqb-true l k q in
            let place : l * n + c ≡ c + k * n = omega (arith, ap (λ (m : ℕ). m * n) same) in
            ap (λ (i : ℕ). get_or (column (suc k)) i 0) place
            ∙ get_or-set_same (column k) (c + k * n) (f k) 0 (omega (arith, column-length k, ap (λ (m : ℕ). m * n) same)) ∙ ap f (sym same)
        go false q ih =
            let below : l < k = lt_of_le-ne (let s : l ≤ k = omega arith in s) (eqb-false l k q) in
            get_or-set_other (column k) (c + k * n) (l * n + c) (f k) 0 (λ e. apart {l = l} {k = k} {j = c} h below e) ∙ ih below

    miss : (k l j : ℕ) → j < n → (j ≡ c → ⊥) → get_or (column k) (l * n + j) 0 ≡ get_or out (l * n + j) 0
    miss zero l j g ne = refl
    miss (suc k) l j g ne = get_or-set_other (column k) (c + k * n) (l * n + j) (f k) 0 (λ e. away e) ∙ miss k l j g ne
      where
        away : l * n + j ≡ c + k * n → ⊥
        away e = ⊎_elim (λ lt. apart {l = l} {k = k} {j = j} g lt e) (λ ge. ⊎_elim (λ gt. apart_above {l = l} {k = k} {j = j} g gt e)
            (λ le. ne (let same : l ≡ k = omega arith in omega (arith, ap (λ (m : ℕ). m * n) same))) (lt_or_ge k l)) (lt_or_ge l k)

    pub column_planes : (d : ℕ) → length out ≡ d * n → column d ≡ planes_by (λ l j. pick (eqb j c) (f l) (mask_at n out l j)) d 0 (from 0 n)
    column_planes d e =
        planes_self n (column d) d (column-length d ∙ e)
        ∙ planes_alike (mask_at n (column d)) (λ l j. pick (eqb j c) (f l) (mask_at n out l j)) n d (λ l j lt g. at l j lt g (eqb j c) refl) d 0 (omega arith)
      where
        at : (l j : ℕ) → l < d → j < n → (b : Bool) → eqb j c ≡ b → mask_at n (column d) l j ≡ pick b (f l) (mask_at n out l j)
        at l j lt g true q =
            let same : j ≡ c = eqb-true j c q in
            ap (λ (i : ℕ). get_or (column d) (l * n + i) 0) same ∙ hit d l lt (omega (arith, suc-mul l n, mul-le-mul_right n (let s : suc l ≤ d = omega arith in s)))
        at l j lt g false q = miss d l j g (eqb-false j c q)

-- k levels are stored, and `place` is that of the next
pub record Storing (out : List ℕ) (n c : ℕ) (m : ℕ → ℕ) (d : ℕ) (now : List ℕ) (shown : Bool) (place k : ℕ) : Type 0 where
  pub within : k ≤ d
  pub showing : shown ≡ shown_by m k
  pub here : place ≡ c + k * n
  pub stored : now ≡ column n c (shown_mask m) out k

module _ {out : List ℕ} {n c : ℕ} {m : ℕ → ℕ} {d : ℕ} {now : List ℕ} {shown : Bool} {place k : ℕ} (s : Storing out n c m d now shown place k) where
  pub storing_ends : k ≡ d → c < n → length out ≡ d * n → now ≡ masked_by n c m d out
  storing_ends e h l = s.stored ∙ ap (column n c (shown_mask m) out) e ∙ column_planes n c (shown_mask m) out h d l
