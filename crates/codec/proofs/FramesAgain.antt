-- Frames that are read: their cells keep the rules, and written they are the same stored bytes.
-- Assumes nothing.
use mathlib.Core.Path.{◌≡◌, refl, sym, ap, ap₂, ◌∙◌, subst}
use Prim.Native.Nat.{ℕ, zero, suc, ◌+◌, ◌≤◌}
use native.Mathlib.Nat.{one-le-pow, zero-lt-suc}
use native.Mathlib.Omega.{arith}
use mathlib.Core.Bool.{true}
use mathlib.Core.List.{List, [], ◌∷◌, ◌++◌}
use lib.ListN.{length, take, drop, length-append, length-drop, take-append-drop}
use lib.Seq.{drop-drop, length-take-le}
use lib.Dec.{leb, eqb, eqb-suc-zero}
use borrow.Author.Tests.{eqb-true}
use Rattle.array.specs.Answer.{Answer, gives, and_then, unless}
use Rattle.array.specs.Lists.{joined, All}
use Rattle.array.specs.Bytes.{le, unle, AllBytes}
use Rattle.array.specs.Kind.{Masks, Form, fixed, ragged, null_of}
use Rattle.array.specs.Cells.{Value, Cell, Strict, mark_of, blank}
use Rattle.array.specs.Content.{leaves}
use Rattle.array.proofs.Answers.{passed, went_on, same_given, then_unless}
use Rattle.array.proofs.Bytes.{number_again, bytes_take, bytes_drop}
use Rattle.array.proofs.Lists.{All-of, map_id}
use Rattle.array.proofs.Sizes.{OfSize, null_sized}
use Rattle.array.proofs.RestLaws.{StrictCell, strict_blank}
use Rattle.codec.specs.Mask.{MaskForm, mask_form}
use Rattle.codec.specs.Frame.{keep, count_set, left_by, expand, wrap, unless_none, frame, content_of, open_frame, read_frame}
use Rattle.codec.specs.Spread.{spread}
use Rattle.codec.specs.Values.{put_values, get_values}
use Rattle.codec.proofs.SpreadLaws.{masks_expand, leaves-expand}
use Rattle.codec.proofs.ValuesAgain.{MaskAgain, mask_again, Fit, ValuesAgain, values_again}

-- ---- cells below a mask

-- those that are set are what was read
keep-expand : {A : Type 0} (b : A) (ms : List ℕ) (xs : List A) → length xs ≡ count_set ms → keep (expand b ms xs) ≡ xs
keep-expand b [] [] e = refl
keep-expand b [] (x ∷ xs) e = absurd (omega arith)
keep-expand b (zero ∷ ms) xs e = keep-expand b ms xs e
keep-expand b (suc zero ∷ ms) [] e = absurd (omega arith)
keep-expand {A} b (suc zero ∷ ms) (x ∷ xs) e = ap (λ (r : List A). x ∷ r) (keep-expand b ms xs (omega arith))
keep-expand b (suc (suc m) ∷ ms) xs e = keep-expand b ms xs e

length-expand : {A : Type 0} (b : A) (ms : List ℕ) (xs : List A) → length (expand b ms xs) ≡ length ms
length-expand b [] xs = refl
length-expand b (m ∷ ms) xs = ap suc (length-expand b ms (left_by (mark_of m) xs))

-- each is one that was read, or b
All-spread : {A : Type 0} (P : A → Type 0) (b : A) (ms : List ℕ) (xs : List A) → P b → All P xs → All P (spread b ms xs)
All-spread P b [] xs q p = tt
All-spread P b (zero ∷ ms) xs q p = (q, All-spread P b ms xs q p)
All-spread P b (suc zero ∷ ms) [] q p = (q, All-spread P b ms [] q p)
All-spread P b (suc zero ∷ ms) (x ∷ xs) q p = (p.0, All-spread P b ms xs q p.1)
All-spread P b (suc (suc m) ∷ ms) xs q p = (q, All-spread P b ms xs q p)

strict_expand : {A : Type 0} (P : A → Type 0) (b : A) (ms : List ℕ) (xs : List A) → All Strict ms → All P (spread b ms xs)
    → All (λ c. Strict c.0 × P c.1) (expand b ms xs)
strict_expand P b [] xs t p = tt
strict_expand P b (m ∷ ms) xs t p = ((t.0, p.0), strict_expand P b ms (left_by (mark_of m) xs) t.1 p.1)

spread_bytes : (ms : List ℕ) (vs : List Value) → length (joined (spread [] ms vs)) ≤ length (joined vs)
spread_bytes [] vs = omega arith
spread_bytes (zero ∷ ms) vs = spread_bytes ms vs
spread_bytes (suc zero ∷ ms) [] = spread_bytes ms []
spread_bytes (suc zero ∷ ms) (v ∷ vs) = omega (arith, length-append v (joined (spread [] ms vs)), length-append v (joined vs), spread_bytes ms vs)
spread_bytes (suc (suc m) ∷ ms) vs = spread_bytes ms vs

fit_spread : (f : Form) (ms : List ℕ) (vs : List Value) → Fit f vs → Fit f (spread (null_of f) ms vs)
fit_spread (fixed k o) ms vs p = (All-spread (OfSize (fixed k o)) (null_of (fixed k o)) ms vs (null_sized (fixed k o)) p.0, tt)
fit_spread (ragged w q) ms vs p = (All-spread (OfSize (ragged w q)) [] ms vs tt p.0, (omega (arith, spread_bytes ms vs, p.1.0), omega (arith, spread_bytes ms vs, p.1.1)))

fit_none : (f : Form) → Fit f []
fit_none (fixed k o) = (tt, tt)
fit_none (ragged w p) = (tt, (omega arith, one-le-pow w 256 (zero-lt-suc 255)))

-- ---- the parts of a stored frame

module _ (s : List ℕ) where
  abbrev mask_length : ℕ
  mask_length = unle (take 8 s)

  abbrev content_length : ℕ
  content_length = unle (take 8 (drop 8 s))

  abbrev mask : List ℕ
  mask = take mask_length (drop 16 s)

  abbrev content : List ℕ
  content = drop mask_length (drop 16 s)

module _ (s : List ℕ) (total : length s ≡ 16 + mask_length s + content_length s) where
  length_mask : length (mask s) ≡ mask_length s
  length_mask = length-take-le (mask_length s) (drop 16 s) (omega (arith, length-drop 16 s))

  length_content : length (content s) ≡ content_length s
  length_content = omega (arith, length-drop (mask_length s) (drop 16 s), length-drop 16 s)

  -- put together again
  wrap_again : AllBytes s → wrap (mask s) (content s) ≡ s
  unfolding wrap
  wrap_again b =
      let first : le 8 (length (mask s)) ≡ take 8 s = ap (le 8) length_mask ∙ number_again (take 8 s) (length-take-le 8 s (omega arith)) (bytes_take 8 s b) in
      let second : le 8 (length (content s)) ≡ take 8 (drop 8 s) =
      ap (le 8) length_content ∙ number_again (take 8 (drop 8 s)) (length-take-le 8 (drop 8 s) (omega (arith, length-drop 8 s))) (bytes_take 8 (drop 8 s) (bytes_drop 8 s b)) in
      ap₂ (λ (x y : List ℕ). x ++ (y ++ (mask s ++ content s))) first second
      ∙ ap (λ (x : List ℕ). take 8 s ++ (take 8 (drop 8 s) ++ x)) (take-append-drop (mask_length s) (drop 16 s) ∙ sym (drop-drop 8 8 s))
      ∙ ap (λ (x : List ℕ). take 8 s ++ x) (take-append-drop 8 (drop 8 s)) ∙ take-append-drop 8 s

-- what a frame that is read has passed: xs are the cells of its content
record Opened {A : Type 0} (mf : MaskForm) (b : A) (len m c : ℕ) (ms : List ℕ) (n : ℕ) (inside : ℕ → Answer (List A)) (cs : List (ℕ × A)) : Type 0 where
  pub total : len ≡ 16 + m + c
  pub fits : m ≡ mf.size n
  pub passes : mf.test ms n ≡ true
  pub xs : List A
  pub below : content_of c (count_set (mf.said ms n)) inside ≡ gives xs
  pub cells : expand b (mf.said ms n) xs ≡ cs

opened : {A : Type 0} (mf : MaskForm) (b : A) (len m c : ℕ) (ms : List ℕ) (n : ℕ) (inside : ℕ → Answer (List A)) {cs : List (ℕ × A)}
    → open_frame mf b len m c ms n inside ≡ gives cs → Opened mf b len m c ms n inside cs
opened {A} mf b len m c ms n inside e =
    let said : List ℕ = mf.said ms n in
    let below : List ℕ → Answer (List (ℕ × A)) = λ ys. and_then (content_of c (count_set ys) inside) (λ xs. gives (expand b ys xs)) in
    let masked : Answer (List (ℕ × A)) = and_then (unless (mf.test ms n) mf.refusal (gives said)) below in
    let e1 = passed (leb 16 len) 7 (unless (eqb len (16 + m + c)) 8 (unless (eqb m (mf.size n)) 8 masked)) e in
    let e2 = passed (eqb len (16 + m + c)) 8 (unless (eqb m (mf.size n)) 8 masked) e1.1 in
    let e3 = passed (eqb m (mf.size n)) 8 masked e2.1 in
    let e4 = passed (mf.test ms n) mf.refusal (below said) (sym (then_unless (mf.test ms n) mf.refusal said below) ∙ e3.1) in
    let e5 = went_on (content_of c (count_set said) inside) (λ xs. gives (expand b said xs)) e4.1 in
    record {
      total = eqb-true len (16 + m + c) e2.0;
      fits = eqb-true m (mf.size n) e3.0;
      passes = e4.0;
      xs = e5.0;
      below = e5.1.0;
      cells = same_given e5.1.1;
    }

-- ---- frames

module _ (x : Masks) (f : Form) where
  abbrev mf : MaskForm
  mf = mask_form x

  abbrev read : (d : ℕ) → List ℕ → ℕ → Answer (List (Cell d))
  read d s n = read_frame mf (null_of f) (get_values f) d s n

  abbrev write : (d : ℕ) → List (Cell d) → List ℕ
  write d cs = frame mf (put_values f) d cs

  -- n cells that keep the rules, and what w makes of them is s
  pub record CellsAgain (d : ℕ) (w : List (Cell d) → List ℕ) (n : ℕ) (s : List ℕ) (cs : List (Cell d)) : Type 0 where
    pub counted : length cs ≡ n
    pub strict : All (StrictCell d) cs
    pub fit : Fit f (leaves d cs)
    pub written : w cs ≡ s

  -- content is empty where no cell is set
  content_again : (d n : ℕ) (s : List ℕ) (xs : List (Cell d)) → ((m : ℕ) (ys : List (Cell d)) → read d s m ≡ gives ys → CellsAgain d (write d) m s ys)
      → content_of (length s) n (read d s) ≡ gives xs → CellsAgain d (unless_none (write d)) n s xs
  content_again d zero [] xs ih e = subst (CellsAgain d (unless_none (write d)) zero []) (same_given e) (record { counted = refl; strict = tt; fit = fit_none f; written = refl })
  content_again d zero (b ∷ s) xs ih e = absurd (let never : ◌≡◌ {A = ℕ} 0 1 = cc (eqb-suc-zero (length s)) in omega arith)
  content_again d (suc n) s [] ih e = absurd (omega (arith, (ih (suc n) [] e).counted))
  content_again d (suc n) s (y ∷ xs) ih e =
      let a : CellsAgain d (write d) (suc n) s (y ∷ xs) = ih (suc n) (y ∷ xs) e in
      record { counted = a.counted; strict = a.strict; fit = a.fit; written = a.written }

  pub frame_again : (d n : ℕ) (s : List ℕ) {cs : List (Cell d)} → AllBytes s → read d s n ≡ gives cs → CellsAgain d (write d) n s cs
  unfolding read_frame frame
  frame_again zero n s {cs} b e =
      let a : ValuesAgain f n s cs = values_again f n s b e in
      record { counted = a.counted; strict = All-of (StrictCell zero) (λ v. tt) cs; fit = subst (Fit f) (sym (map_id cs)) a.fit; written = a.written }
  frame_again (suc d) n s b e =
      let null : Cell d = blank (null_of f) d in
      let said : List ℕ = mf.said (mask s) n in
      let o = opened mf null (length s) (mask_length s) (content_length s) (mask s) n (read d (content s)) e in
      let b16 : AllBytes (drop 16 s) = bytes_drop 16 s b in
      let a : MaskAgain mf n (mask s) said = mask_again x n (mask s) (bytes_take (mask_length s) (drop 16 s) b16) (length_mask s o.total ∙ o.fits) o.passes in
      let r : CellsAgain d (unless_none (write d)) (count_set said) (content s) o.xs =
      content_again d (count_set said) (content s) o.xs (λ m ys q. frame_again d m (content s) (bytes_drop (mask_length s) (drop 16 s) b16) q)
      (ap (λ (c : ℕ). content_of c (count_set said) (read d (content s))) (length_content s o.total) ∙ o.below) in
      subst (CellsAgain (suc d) (write (suc d)) n s) o.cells (record {
        counted = length-expand null said o.xs ∙ a.counted;
        strict = strict_expand (StrictCell d) null said o.xs a.strict (All-spread (StrictCell d) null said o.xs (strict_blank (null_of f) d) r.strict);
        fit = subst (Fit f) (sym (leaves-expand (null_of f) d said o.xs)) (fit_spread f said (leaves d o.xs) r.fit);
        written = ap₂ wrap (ap mf.put (masks_expand null said o.xs) ∙ a.written)
            (ap (unless_none (write d)) (keep-expand null said o.xs r.counted) ∙ r.written)
            ∙ wrap_again s o.total b;
      })
