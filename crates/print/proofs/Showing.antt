-- A list as it is shown, run by run.
use mathlib.Core.Path.{◌≡◌, refl, sym, ap, subst, ◌∙◌}
use mathlib.Core.Logic.{◌≢◌}
use mathlib.Core.Bool.{Bool, true, false, cond}
use mathlib.Core.List.{List, [], ◌∷◌, ◌++◌, append_assoc, append-nil}
use Prim.Native.Nat.{ℕ, suc, ◌<◌, ◌≤◌, ◌+◌, ◌-◌}
use native.Mathlib.Omega.{arith}
use native.Mathlib.Numerals.{add-one}
use lib.Dec.{eqb, ltb}
use lib.ListN.{length, get_or, drop}
use borrow.Author.Tests.{ltb-true, lt-ltb, ltb-false, le-ltb, ne_eqb}
use Rattle.std.proofs.Common.{◌↔◌, codes}
use Rattle.std.proofs.Math.Seq.{drop-cons}
use Rattle.std.specs.Fmt.{decimal}
use Rattle.std.specs.List.{AllByRecursion, IsChunkByPrefix}
use Rattle.print.specs.declared.Last.{Last}
use Rattle.print.specs.declared.Last.TheVariants.{Plain, Run}
use Rattle.print.specs.Print.{part_of, joint_of, count_text, each_text, equal_text, last_of, equal_run, shown_of, shown_part, text_after}

module _ {A : Type 0} (joint : List ℕ) (text : A → List ℕ) where
  -- one element more
  pub each_more : (before done whole : List ℕ) (xs : List A) (i : ℕ) (x : A) → i < length xs → x ≡ get_or xs i x
      → done ++ each_text joint text before (drop i xs) ≡ whole
      → (done ++ (before ++ text x)) ++ each_text joint text joint (drop (i + 1) xs) ≡ whole
  each_more before done whole xs i x h e w =
      let d : drop i xs ≡ get_or xs i x ∷ drop (i + 1) xs = rw add-one (drop-cons xs i x h) in
      append_assoc done (before ++ text x) _
      ∙ ap (λ t. done ++ t) (append_assoc before (text x) _ ∙ ap (λ y. before ++ (text y ++ each_text joint text joint (drop (i + 1) xs))) e
      ∙ ap (each_text joint text before) (sym d))
      ∙ w

-- a list does not begin with x
abbrev Apart : {A : Type 0} → A → List A → Type 0
Apart x [] = Unit {0}
Apart x (y ∷ ys) = x ≢ y

-- a list has no element but x
abbrev Alike : {A : Type 0} → A → List A → Type 0
Alike x xs = AllByRecursion (λ y. y ≡ x) xs

module _ {A : Type 0} (eq : A → A → Bool) (same : (x y : A) → (eq x y ≡ true) ↔ (x ≡ y)) where
  differ : (x y : A) → x ≢ y → eq y x ≡ false
  differ x y ne = elim (eq y x) as (λ v. eq y x ≡ v → v ≡ false) [ true ↦ λ e. absurd (ne (sym ((same y x).0 e))) | false ↦ λ e. refl ] refl

  -- a part of `chunk_by` has one element, and stops before another
  alike : (x : A) (xs ys : List A) → ((k : ℕ) (d : A) → suc k < suc (length xs) → eq (get_or (x ∷ (xs ++ ys)) k d) (get_or (x ∷ (xs ++ ys)) (suc k) d) ≡ true) → Alike x xs
  alike x [] ys h = tt
  alike x (z ∷ zs) ys h = let e : x ≡ z = (same x z).0 (h 0 x (omega arith)) in
      subst (λ w. Alike w (z ∷ zs)) (sym e) (refl, alike z zs ys (λ k d l. h (suc k) d (omega arith)))

  apart : (x : A) (xs ys : List A) → Alike x xs
      → (suc (length xs) < length (x ∷ (xs ++ ys)) → (d : A) → eq (get_or (x ∷ (xs ++ ys)) (length xs) d) (get_or (x ∷ (xs ++ ys)) (suc (length xs)) d) ≡ false) → Apart x ys
  apart x [] [] a h = tt
  apart x [] (y ∷ ys) a h = λ e. let one : true ≡ false = sym ((same x y).1 e) ∙ h (omega arith) x in cc
  apart x (z ∷ zs) ys a h = subst (λ w. Apart w ys) a.0 (apart z zs ys (subst (λ w. Alike w zs) (sym a.0) a.1) (λ l d. h (omega arith) d))

  -- so many of it stand in front
  run_is : (x : A) (xs ys : List A) → Alike x xs → Apart x ys → equal_run eq x (xs ++ ys) ≡ length xs
  unfolding equal_run
  run_is x [] [] a b = refl
  run_is x [] (y ∷ ys) a b = ap (λ t. cond t (suc (equal_run eq x ys)) 0) (differ x y b)
  run_is x (z ∷ zs) ys a b = ap (λ t. cond t (suc (equal_run eq x (zs ++ ys))) 0) ((same z x).1 a.0) ∙ ap suc (run_is x zs ys a.1 b)

  module _ (joint : List ℕ) (text : A → List ℕ) where
    skipped : (last : Last) (xs ys : List A) → text_after eq joint text last (length xs) (xs ++ ys) ≡ text_after eq joint text last 0 ys
    unfolding text_after
    skipped last [] ys = refl
    skipped last (x ∷ xs) ys = skipped last xs ys

    -- the text from a part on that shows n elements
    abbrev from_part : Last → A → List A → ℕ → List ℕ
    from_part last x rest n = joint_of joint last (part_of n) ++ (count_text n ++ (text x ++ text_after eq joint text (part_of n) (n - 1) rest))

    first : (last : Last) (x : A) (xs ys : List A) → Alike x xs → Apart x ys
        → text_after eq joint text last 0 (x ∷ (xs ++ ys)) ≡ from_part last x (xs ++ ys) (shown_of (suc (length xs)))
    unfolding text_after shown_part
    first last x xs ys a b = ap (λ n. from_part last x (xs ++ ys) (shown_of n)) (run_is x (x ∷ xs) ys (refl, a) b)

    -- one of a few
    one : (last : Last) (x : A) (xs ys : List A) → Alike x xs → Apart x ys → suc (length xs) < 5
        → text_after eq joint text last 0 (x ∷ (xs ++ ys)) ≡ joint_of joint last Plain ++ (text x ++ text_after eq joint text Plain 0 (xs ++ ys))
    unfolding shown_of
    one last x xs ys a b l = first last x xs ys a b ∙ ap (λ t. from_part last x (xs ++ ys) (cond t 1 (suc (length xs)))) (lt-ltb _ _ l)

    few : (last : Last) (x : A) (xs ys : List A) → Alike x xs → Apart x ys → suc (length xs) < 5
        → text_after eq joint text last 0 (x ∷ (xs ++ ys)) ≡ each_text joint text (joint_of joint last Plain) (x ∷ xs) ++ text_after eq joint text Plain 0 ys
    few last x [] ys a b l = one last x [] ys a b l ∙ sym (simp (append_assoc, append-nil))
    few last x (z ∷ zs) ys a b l =
        one last x (z ∷ zs) ys a b l
        ∙ ap (λ t. joint_of joint last Plain ++ (text x ++ t)) (few Plain z zs ys (subst (λ w. Alike w zs) (sym a.0) a.1) (subst (λ w. Apart w ys) (sym a.0) b) (omega arith))
        ∙ simp append_assoc

    many : (last : Last) (x : A) (xs ys : List A) → Alike x xs → Apart x ys → 5 ≤ suc (length xs)
        → text_after eq joint text last 0 (x ∷ (xs ++ ys)) ≡ (joint_of joint last Run ++ (decimal (suc (length xs)) ++ (codes "*" ++ text x))) ++ text_after eq joint text Run 0 ys
    unfolding shown_of
    many last x xs ys a b l =
        let n = suc (length xs) in
        let more : eqb n 1 ≡ false = ne_eqb n 1 (λ e. omega arith) in
        let left : n - 1 ≡ length xs = omega arith in
        first last x xs ys a b ∙ ap (λ t. from_part last x (xs ++ ys) (cond t 1 n)) (le-ltb _ _ l)
        ∙ ap (λ t. joint_of joint last (cond t Plain Run) ++ (cond t [] (decimal n ++ codes "*") ++ (text x ++ text_after eq joint text (cond t Plain Run) (n - 1) (xs ++ ys)))) more
        ∙ ap (λ k. joint_of joint last Run ++ ((decimal n ++ codes "*") ++ (text x ++ text_after eq joint text Run k (xs ++ ys)))) left
        ∙ ap (λ t. joint_of joint last Run ++ ((decimal n ++ codes "*") ++ (text x ++ t))) (skipped Run xs ys)
        ∙ simp append_assoc

    either : (last : Last) (x : A) (xs ys : List A) → Alike x xs → Apart x ys → (short : Bool) → ltb (suc (length xs)) 5 ≡ short
        → text_after eq joint text last 0 (x ∷ (xs ++ ys))
        ≡ cond short (each_text joint text (joint_of joint last Plain) (x ∷ xs)) (joint_of joint last Run ++ (decimal (suc (length xs)) ++ (codes "*" ++ text x)))
        ++ text_after eq joint text (cond short Plain Run) 0 ys
    either last x xs ys a b true l = few last x xs ys a b (ltb-true _ _ l)
    either last x xs ys a b false l = many last x xs ys a b (ltb-false _ _ l)

    -- a part of `chunk_by`, and what follows it
    part_is : (last next : Last) (whole chunk rest : List A) → whole ≡ chunk ++ rest → 0 < length chunk → IsChunkByPrefix eq whole (length chunk)
        → next ≡ last_of (length chunk)
        → text_after eq joint text last 0 whole ≡ equal_text joint text last chunk ++ text_after eq joint text next 0 rest
    part_is last next whole [] rest w some cut n = absurd (omega arith)
    part_is last next whole (x ∷ xs) rest w some cut n =
        let here : IsChunkByPrefix eq (x ∷ (xs ++ rest)) (suc (length xs)) = subst (λ v. IsChunkByPrefix eq v (suc (length xs))) w cut in
        let all = alike x xs rest (λ k d l. rw add-one at (here.0 k d (omega arith))) in
        let before : length xs ≡ suc (length xs) - 1 = omega arith in
        let stops = apart x xs rest all (λ l d. ap (λ k. eq (get_or (x ∷ (xs ++ rest)) k d) (get_or (xs ++ rest) (length xs) d)) before ∙ here.1 l d) in
        ap (text_after eq joint text last 0) w
        ∙ either last x xs rest all stops _ refl
        ∙ ap (λ t. equal_text joint text last (x ∷ xs) ++ text_after eq joint text t 0 rest) (sym n)

    -- one part more
    pub part_more : (last next : Last) (done all : List ℕ) (whole chunk rest : List A) → whole ≡ chunk ++ rest → 0 < length chunk → IsChunkByPrefix eq whole (length chunk)
        → next ≡ last_of (length chunk)
        → done ++ text_after eq joint text last 0 whole ≡ all
        → (done ++ equal_text joint text last chunk) ++ text_after eq joint text next 0 rest ≡ all
    part_more last next done all whole chunk rest w some cut n h =
        append_assoc done _ _ ∙ ap (λ t. done ++ t) (sym (part_is last next whole chunk rest w some cut n)) ∙ h

module _ {A : Type 0} (eq : A → A → Bool) (joint : List ℕ) (text : A → List ℕ) where
  -- and none left
  pub no_more : (last : Last) (done all : List ℕ) (rest : List A) → length rest ≡ 0 → done ++ text_after eq joint text last 0 rest ≡ all → done ≡ all
  unfolding text_after
  no_more last done all [] e h = sym (append-nil done) ∙ h
  no_more last done all (x ∷ xs) e h = absurd (omega arith)
