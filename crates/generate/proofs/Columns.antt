-- The mask bytes that are set, stored cell by cell in planes of zeros, are the planes of all cells.
-- Assumes nothing.
use mathlib.Core.Path.{◌≡◌, refl, sym, ap, ap₂, ◌∙◌}
use Prim.Native.Nat.{ℕ, zero, suc, ◌+◌, ◌*◌, ◌≤◌, ◌<◌}
use native.Mathlib.Nat.{zero-add, zero-mul, suc-add, suc-mul}
use native.Mathlib.Numerals.{add-one}
use native.Mathlib.Omega.{arith}
use mathlib.Core.List.{List, [], ◌∷◌, ◌++◌, append_assoc, append-nil}
use lib.ListN.{length, drop, set, get_or, replicate, length-set, length-append, length-drop, length-map, length-replicate, replicate-append-replicate, drop_of_length-le}
use lib.Seq.{set-append_left, set-get_or, get_or-set_other, sets, sets-eq, drop-drop}
use Rattle.array.specs.Lists.{All}
use Rattle.array.specs.Cells.{Cell, mark_of, mask_of, inners}
use Rattle.array.specs.Content.{masks_of}
use Rattle.array.specs.Buffers.{over}
use Rattle.array.proofs.Lists.{All-map, All-image}
use Rattle.array.proofs.LayoutLaws.{length-mask_of}
use Rattle.generate.specs.Cells.{set_masks, set_masks_by, column}
use Rattle.generate.proofs.Drawing.{FallsBy, Falls}

pub column-length : (n at : ℕ) (ms out : List ℕ) → length (column n at ms out) ≡ length out
column-length n at [] out = refl
column-length n at (m ∷ ms) out = column-length n (at + n) ms (set out at m) ∙ length-set out at m

-- ---- the mask bytes of one cell: the loop over its levels

column_more : (n k at : ℕ) (out : List ℕ) → set (column n at (replicate k 1) out) (at + k * n) 1 ≡ column n at (replicate (k + 1) 1) out
column_more n zero at out = ap (λ (j : ℕ). set out j 1) (let e : at + 0 * n ≡ at = omega (arith, zero-mul n) in e)
column_more n (suc k) at out =
    let place : at + suc k * n ≡ at + n + k * n = omega (arith, suc-mul k n) in
    let more : k + 1 ≡ suc k = add-one k in
    ap (λ (j : ℕ). set (column n (at + n) (replicate k 1) (set out at 1)) j 1) place ∙ column_more n k (at + n) (set out at 1)
    ∙ ap (λ (j : ℕ). column n (at + n) (replicate j 1) (set out at 1)) more ∙ sym (ap (λ (j : ℕ). column n at (replicate j 1) out) (add-one (suc k)))

-- k levels are stored, and `place` is that of the next
pub record Marking (d : List ℕ) (n at : ℕ) (out : List ℕ) (k place : ℕ) : Type 0 where
  pub here : place ≡ at + k * n
  pub stored : out ≡ column n at (replicate k 1) d

module _ {d : List ℕ} {n at : ℕ} {out : List ℕ} {k place : ℕ} (c : Marking d n at out k place) where
  next_place : place + n ≡ at + (k + 1) * n
  next_place = omega (arith, c.here, ap (λ (j : ℕ). j * n) (add-one k), suc-mul k n)

  pub mark_more : Marking d n at (set out place 1) (k + 1) (place + n)
  mark_more = record { here = next_place; stored = ap₂ (λ (x : List ℕ) (j : ℕ). set x j 1) c.stored c.here ∙ column_more n k at d }

-- ---- the mask bytes of one cell after another

-- those of cs, the first of them cell `at` of n
abbrev pub columns : (d n at : ℕ) → List (Cell d) → List ℕ → List ℕ
columns d n at [] out = out
columns d n at (c ∷ cs) out = columns d n (at + 1) cs (column n at (set_masks d c) out)

set_right : (p q : List ℕ) (i a : ℕ) → set (p ++ q) (length p + i) a ≡ p ++ set q i a
set_right [] q i a = ap (λ (j : ℕ). set q j a) (zero-add i)
set_right (x ∷ p) q i a = ap (λ (j : ℕ). set (x ∷ (p ++ q)) j a) (suc-add (length p) i) ∙ ap (λ (r : List ℕ). x ∷ r) (set_right p q i a)

-- zeros from `at` on
abbrev Zeros : List ℕ → ℕ → Type 0
Zeros p at = (j : ℕ) → at ≤ j → get_or p j 0 ≡ 0

zeros : (n at : ℕ) → Zeros (replicate n 0) at
zeros zero at j h = refl
zeros (suc n) at zero h = refl
zeros (suc n) at (suc j) h = zeros n 0 j (omega arith)

module _ (n : ℕ) where
  -- behind the first plane
  behind : (p q ms : List ℕ) (at : ℕ) → length p ≡ n → column n (at + n) ms (p ++ q) ≡ p ++ column n at ms q
  behind p q [] at e = refl
  behind p q (m ∷ ms) at e =
      let here : at + n ≡ length p + at = omega arith in
      ap (λ (r : List ℕ). column n (at + n + n) ms r) (ap (λ (j : ℕ). set (p ++ q) j m) here ∙ set_right p q at m)
      ∙ behind p (set q at m) ms (at + n) e

  -- one cell: its byte in the outermost plane, and those behind it
  one : (m at : ℕ) (r p q : List ℕ) → length p ≡ n → at < n → Zeros p at → FallsBy (mark_of m) r
      → column n at (set_masks_by (mark_of m) r) (p ++ q) ≡ set p at m ++ column n at r q
  one zero at r p q e h z f =
      ap₂ (λ (x y : List ℕ). x ++ y) (sym (ap (set p at) (sym (z at (omega arith))) ∙ set-get_or p at 0)) (sym (ap (λ (ms : List ℕ). column n at ms q) f))
  one (suc zero) at r p q e h z f =
      ap (column n (at + n) r) (set-append_left p q at 1 (omega arith)) ∙ behind (set p at 1) q r at (length-set p at 1 ∙ e)
  one (suc (suc m)) at r p q e h z f = absurd f

  -- the outermost plane, and those behind it
  outermost : (d : ℕ) (cs : List (Cell (suc d))) (at : ℕ) (p q : List ℕ) → length p ≡ n → at + length cs ≤ n → Zeros p at → All (Falls (suc d)) cs
      → columns (suc d) n at cs (p ++ q) ≡ sets p at (mask_of cs) ++ columns d n at (inners cs) q
  outermost d [] at p q e h z f = refl
  outermost d (c ∷ cs) at p q e h z f =
      let p' : List ℕ = set p at c.0 in
      let q' : List ℕ = column n at (set_masks d c.1) q in
      let later : Zeros p' (at + 1) = λ j i. get_or-set_other p at j c.0 0 (λ same. omega arith) ∙ z j (omega arith) in
      ap (columns (suc d) n (at + 1) cs) (one c.0 at (set_masks d c.1) p q e (omega arith) z f.0.0)
      ∙ outermost d cs (at + 1) p' q' (length-set p at c.0 ∙ e) (omega arith) later f.1
      ∙ ap (λ (j : ℕ). sets p' j (mask_of cs) ++ columns d n (at + 1) (inners cs) q') (add-one at)

  -- what lies behind two lists, the first of n
  drop_both : (x y out : List ℕ) → length x ≡ n → drop (length (x ++ y)) out ≡ drop (length y) (drop n out)
  drop_both x y out e =
      let both : length (x ++ y) ≡ n + length y = omega (arith, length-append x y) in
      ap (λ (j : ℕ). drop j out) both ∙ sym (drop-drop (length y) n out)

  no_plane : (cs : List (Cell 0)) (at : ℕ) (out : List ℕ) → columns 0 n at cs out ≡ out
  no_plane [] at out = refl
  no_plane (c ∷ cs) at out = no_plane cs (at + 1) out

  pub planes_laid : (d : ℕ) (cs : List (Cell d)) (out : List ℕ) → length cs ≡ n → d * n ≤ length out → All (Falls d) cs
      → columns d n 0 cs (over (replicate (d * n) 0) out) ≡ over (masks_of d cs) out
  planes_laid zero cs out e h f = no_plane cs 0 (over (replicate (0 * n) 0) out) ∙ ap (λ (j : ℕ). over (replicate j 0) out) (zero-mul n)
  planes_laid (suc d) cs out e h f =
      let blank : List ℕ = replicate n 0 in
      let blanks : List ℕ = replicate (d * n) 0 in
      let ps : List ℕ = masks_of d (inners cs) in
      let lb : length blank ≡ n = length-replicate n 0 in
      let lm : length (mask_of cs) ≡ n = length-mask_of cs ∙ e in
      let split : replicate (suc d * n) 0 ≡ blank ++ blanks =
      ap (λ (j : ℕ). replicate j 0) (let sum : suc d * n ≡ n + d * n = omega (arith, suc-mul d n) in sum) ∙ sym (replicate-append-replicate n (d * n) 0) in
      let start : over (replicate (suc d * n) 0) out ≡ blank ++ over blanks (drop n out) =
      ap (λ (x : List ℕ). over x out) split ∙ append_assoc blank blanks (drop (length (blank ++ blanks)) out)
      ∙ ap (λ (r : List ℕ). blank ++ (blanks ++ r)) (drop_both blank blanks out lb) in
      let plane : sets blank 0 (mask_of cs) ≡ mask_of cs =
      sets-eq (mask_of cs) blank 0 (omega arith) ∙ ap (λ (r : List ℕ). mask_of cs ++ r) (drop_of_length-le blank {i = 0 + length (mask_of cs)} (omega arith)) ∙ append-nil (mask_of cs) in
      let inner : All (Falls d) (inners cs) =
      All-image (Falls d) (λ c. c.1) cs (All-map (Falls (suc d)) (λ c. Falls d c.1) (λ c p. p.1) cs f) in
      let rest : columns d n 0 (inners cs) (over blanks (drop n out)) ≡ over ps (drop n out) =
      planes_laid d (inners cs) (drop n out) (length-map cs (λ c. c.1) ∙ e) (omega (arith, suc-mul d n, length-drop n out)) inner in
      ap (columns (suc d) n 0 cs) start
      ∙ outermost d cs 0 blank (over blanks (drop n out)) lb (omega arith) (zeros n 0) f
      ∙ ap₂ (λ (x y : List ℕ). x ++ y) plane (rest ∙ ap (λ (r : List ℕ). ps ++ r) (sym (drop_both (mask_of cs) ps out lm)))
      ∙ sym (append_assoc (mask_of cs) ps (drop (length (mask_of cs ++ ps)) out))
