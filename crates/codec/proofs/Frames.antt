-- A frame is read as it was written: at any depth, over any mask form and any innermost form that are read as they were written.
-- Assumes nothing.
use mathlib.Core.Path.{◌≡◌, refl, sym, ap, ◌∙◌}
use Prim.Native.Nat.{ℕ, zero, suc, ◌+◌, ◌%◌, ◌^◌, ◌<◌, ◌≤◌}
use native.Mathlib.Nat.{le_refl}
use native.Mathlib.Omega.{arith}
use mathlib.Core.Bool.{true}
use mathlib.Core.List.{List, [], ◌∷◌, ◌++◌, map}
use lib.ListN.{length, take, drop, length-append}
use lib.Seq.{take_at, drop_at, drop-drop}
use borrow.Author.Tests.{le-leb, eq-eqb}
use Rattle.array.specs.Answer.{Answer, gives, and_then}
use Rattle.array.specs.Lists.{All}
use Rattle.array.specs.Bytes.{le, unle}
use Rattle.array.specs.Cells.{Value, Cell, Strict, mask_of, blank, rest_one, rest}
use Rattle.array.proofs.Answers.{pass}
use Rattle.array.proofs.Bytes.{length-le, unle-le}
use Rattle.array.proofs.Lists.{map_id, All-map}
use Rattle.array.proofs.RestLaws.{StrictCell}
use Rattle.array.proofs.LayoutLaws.{length-mask_of, strict_mask}
use Rattle.codec.specs.Mask.{MaskForm, get_mask}
use Rattle.codec.specs.Frame.{keep_one, keep, count_set, expand, wrap, unless_none, frame, content_of, read_frame, live}

-- ---- the cells that are set

pub length-keep : {A : Type 0} (cs : List (ℕ × A)) → length (keep cs) ≡ count_set (mask_of cs)
length-keep [] = refl
length-keep {A} (c ∷ cs) = one c.0 (length-keep cs)
  where
    one : (m : ℕ) → length (keep cs) ≡ count_set (mask_of cs) → length (keep_one m c.1 (keep cs)) ≡ count_set (m ∷ mask_of cs)
    one zero e = e
    one (suc zero) e = ap suc e
    one (suc (suc m)) e = e

pub length-keep-le : {A : Type 0} (cs : List (ℕ × A)) → length (keep cs) ≤ length cs
length-keep-le [] = le_refl 0
length-keep-le {A} (c ∷ cs) = one c.0 (length-keep-le cs)
  where
    one : (m : ℕ) → length (keep cs) ≤ length cs → length (keep_one m c.1 (keep cs)) ≤ suc (length cs)
    one zero h = omega arith
    one (suc zero) h = omega arith
    one (suc (suc m)) h = omega arith

pub All-keep : {A : Type 0} (P : A → Type 0) (cs : List (ℕ × A)) → All (λ c. P c.1) cs → All P (keep cs)
All-keep P [] p = tt
All-keep P (c ∷ cs) p = one c.0 p.0 (All-keep P cs p.1)
  where
    one : (m : ℕ) → P c.1 → All P (keep cs) → All P (keep_one m c.1 (keep cs))
    one zero q r = r
    one (suc zero) q r = (q, r)
    one (suc (suc m)) q r = r

-- ---- the parts of a frame

module _ (ms ct : List ℕ) where
  pub length-wrap : length (wrap ms ct) ≡ 16 + length ms + length ct
  unfolding wrap
  length-wrap = simp length-append (omega arith)

  pub wrap-take : take 8 (wrap ms ct) ≡ le 8 (length ms)
  unfolding wrap
  wrap-take = take_at (le 8 (length ms)) (le 8 (length ct) ++ (ms ++ ct)) 8 (length-le 8 (length ms))

  pub wrap-drop : drop 8 (wrap ms ct) ≡ le 8 (length ct) ++ (ms ++ ct)
  unfolding wrap
  wrap-drop = drop_at (le 8 (length ms)) (le 8 (length ct) ++ (ms ++ ct)) 8 (length-le 8 (length ms))

  pub wrap_take2 : take 8 (drop 8 (wrap ms ct)) ≡ le 8 (length ct)
  wrap_take2 = ap (take 8) wrap-drop ∙ take_at (le 8 (length ct)) (ms ++ ct) 8 (length-le 8 (length ct))

  pub wrap_body : drop 16 (wrap ms ct) ≡ ms ++ ct
  wrap_body = sym (drop-drop 8 8 (wrap ms ct)) ∙ ap (drop 8) wrap-drop ∙ drop_at (le 8 (length ct)) (ms ++ ct) 8 (length-le 8 (length ct))

-- ---- masks

-- what is asked of a mask form: it takes at most a byte a cell, is written eight cells by eight, and is read as it was written
pub record MaskLaws (mf : MaskForm) : Type 0 where
  pub size_le : (n : ℕ) → mf.size n ≤ n
  pub size_append : (m n : ℕ) → m % 8 ≡ 0 → mf.size (m + n) ≡ mf.size m + mf.size n
  pub length_put : (ms : List ℕ) → length (mf.put ms) ≡ mf.size (length ms)
  pub put_append : (ms ns : List ℕ) → length ms % 8 ≡ 0 → mf.put (ms ++ ns) ≡ mf.put ms ++ mf.put ns
  pub passes : (ms : List ℕ) → All Strict ms → mf.test (mf.put ms) (length ms) ≡ true
  pub says : (ms : List ℕ) → All Strict ms → mf.said (mf.put ms) (length ms) ≡ ms

-- ---- the round trip

-- cells that were kept, below the mask again
module _ (z : Value) where
  expand-keep : {A : Type 0} (b : A) (f : A → A) (cs : List (ℕ × A)) → expand b (mask_of cs) (map f (keep cs)) ≡ map (λ c. rest_one z b f c.0 c.1) cs
  expand-keep b f [] = refl
  expand-keep {A} b f (c ∷ cs) = one c.0 (expand-keep b f cs)
    where
      one : (m : ℕ) → expand b (mask_of cs) (map f (keep cs)) ≡ map (λ x. rest_one z b f x.0 x.1) cs
          → expand b (m ∷ mask_of cs) (map f (keep_one m c.1 (keep cs))) ≡ rest_one z b f m c.1 ∷ map (λ x. rest_one z b f x.0 x.1) cs
      one zero e = ap (λ (r : List (ℕ × A)). (zero, b) ∷ r) e
      one (suc zero) e = ap (λ (r : List (ℕ × A)). (1, f c.1) ∷ r) e
      one (suc (suc m)) e = ap (λ (r : List (ℕ × A)). (suc (suc m), b) ∷ r) e

-- over any mask form, and any innermost form w that r reads as it was written where it is Good
module _ (mf : MaskForm) (laws : MaskLaws mf) (z : Value) (r : List ℕ → ℕ → Answer (List Value)) (w : List Value → List ℕ) (Good : List Value → Type 0)
    (back_values : (vs : List Value) → Good vs → length (w vs) < 256 ^ 8 → r (w vs) (length vs) ≡ gives vs) where
  pub back : (d : ℕ) (cs : List (Cell d)) → All (StrictCell d) cs → Good (live d cs) → length (frame mf w d cs) < 256 ^ 8
      → read_frame mf z r d (frame mf w d cs) (length cs) ≡ gives (map (rest z d) cs)
  unfolding frame read_frame
  back zero cs t g h = back_values cs g h ∙ ap gives (sym (map_id cs))
  back (suc d) cs t g h =
      let ms : List ℕ = mf.put (mask_of cs) in
      let ct : List ℕ = unless_none (frame mf w d) (keep cs) in
      let n : ℕ = length cs in
      let lw = length-wrap ms ct in
      let em : unle (take 8 (wrap ms ct)) ≡ length ms = ap unle (wrap-take ms ct) ∙ unle-le 8 (length ms) (omega (arith, lw)) in
      let ec : unle (take 8 (drop 8 (wrap ms ct))) ≡ length ct = ap unle (wrap_take2 ms ct) ∙ unle-le 8 (length ct) (omega (arith, lw)) in
      let el : length ms ≡ mf.size n = laws.length_put (mask_of cs) ∙ ap mf.size (length-mask_of cs) in
      let st : All Strict (mask_of cs) = strict_mask (StrictCell d) cs t in
      let eg : get_mask mf ms n ≡ gives (mask_of cs) =
      ap (get_mask mf ms) (sym (length-mask_of cs)) ∙ pass mf.refusal (laws.passes (mask_of cs) st) (ap gives (laws.says (mask_of cs) st)) in
      rw (
        em,
        ec,
        lw,
        wrap_body ms ct,
        take_at ms ct (length ms) refl,
        drop_at ms ct (length ms) refl,
        le-leb 16 (16 + length ms + length ct) (omega arith),
        eq-eqb (16 + length ms + length ct) _ refl,
        eq-eqb (length ms) (mf.size n) el,
        eg,
        sym (length-keep cs),
      )
      (ap (λ (a : Answer (List (Cell d))). and_then a (λ xs. gives (expand (blank z d) (mask_of cs) xs)))
      (inner (keep cs) (λ ks. back d ks) (All-keep (StrictCell d) cs (All-map (StrictCell (suc d)) (λ c. StrictCell d c.1) (λ c q. q.1) cs t)) g (omega (arith, lw)))
      ∙ ap gives (expand-keep z (blank z d) (rest z d) cs))
    where
      inner : (ks : List (Cell d))
          → ((js : List (Cell d)) → All (StrictCell d) js → Good (live d js) → length (frame mf w d js) < 256 ^ 8 → read_frame mf z r d (frame mf w d js) (length js) ≡ gives (map (rest z d) js))
          → All (StrictCell d) ks → Good (live d ks) → length (unless_none (frame mf w d) ks) < 256 ^ 8
          → content_of (length (unless_none (frame mf w d) ks)) (length ks) (read_frame mf z r d (unless_none (frame mf w d) ks)) ≡ gives (map (rest z d) ks)
      inner [] ih t g h = refl
      inner (k ∷ ks) ih t g h = ih (k ∷ ks) t g h
