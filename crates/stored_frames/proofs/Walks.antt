-- What the walk says of the masks that it passed: they lie within the bytes and pass their tests, and the innermost plane has as many set
-- cells as it tells.
-- Assumes nothing.
use mathlib.Core.Path.{◌≡◌, refl, sym, ap, ◌∙◌, subst}
use mathlib.Core.Bool.{Bool, true, false}
use mathlib.Core.List.{List, [], ◌∷◌}
use Prim.Native.Nat.{ℕ, zero, suc, ◌+◌, ◌-◌, ◌≤◌}
use native.Mathlib.Omega.{arith}
use lib.Dec.{eqb}
use lib.ListN.{length, take, drop, replicate, length-drop}
use lib.Seq.{drop-drop}
use borrow.Author.Tests.{eqb-true}
use Rattle.array.specs.Answer.{Answer, gives, refuses, and_then, unless}
use Rattle.array.specs.Kind.{Masks}
use Rattle.codec.specs.Mask.{MaskForm, mask_form}
use Rattle.codec.specs.Frame.{count_set}
use Rattle.codec.specs.Spread.{spread, innermost_plane}
use Rattle.codec.specs.MaskAt.{stored_mask}
use Rattle.stored_frames.specs.Walk.{opened, entering, walked}
use Rattle.stored_frames.specs.Stored.{mask_in, content_at, stored_masks, MaskPassed, MasksWithin, innermost_count}
use Rattle.codec.proofs.Marks.{count-le, count_zeros}
use Rattle.codec.proofs.Masks.{mask_laws}
use Rattle.codec.proofs.SpreadLaws.{count-spread, spread_none}
use Rattle.mask.proofs.Said.{length_said}
use Rattle.stored_frames.proofs.Opening.{FrameOpen, frame_open}

-- a mask that passed says as many bytes as it has cells
pub mask_long : (x : Masks) {s : List ℕ} {at n : ℕ} → MaskPassed (mask_form x) s at n → length (mask_in (mask_form x) s at n) ≡ n
mask_long x {s} {at} {n} p = length_said x s (at + 16) n (omega (arith, length-drop (at + 16) s, p.room))

-- a frame of no cells has none set
none_said : (x : Masks) (s : List ℕ) (at : ℕ) → 0 ≡ count_set (mask_in (mask_form x) s at 0)
none_said x s at =
    let no_bytes : (mask_form x).size 0 ≤ 0 = (mask_laws x).size_le 0 in
    let long = length_said x s (at + 16) 0 (omega (arith, no_bytes)) in
    omega (arith, count-le (mask_in (mask_form x) s at 0), long)

within_none : (x : Masks) (d : ℕ) (s : List ℕ) (at : ℕ) → MasksWithin (mask_form x) d s at 0
unfolding MasksWithin
within_none x zero s at = tt
within_none x (suc d) s at =
    let next = content_at (mask_form x) at 0 in
    ((λ h. absurd (omega arith)), subst (MasksWithin (mask_form x) d s next) (none_said x s at) (within_none x d s next))

innermost_none : (p : List ℕ) (ms : List (List ℕ)) → count_set p ≡ 0 → count_set (innermost_plane p ms) ≡ 0
innermost_none p [] e = e
innermost_none p (m ∷ ms) e = innermost_none (spread 0 p m) ms (ap count_set (spread_none 0 p m e) ∙ count_zeros (length p))

-- the masks passed, the innermost plane has k set cells, and their content begins at a: with none set, at the end
pub record WalkPassed (x : Masks) (d : ℕ) (s : List ℕ) (at n a k : ℕ) : Type 0 where
  pub within : MasksWithin (mask_form x) d s at n
  pub few : k ≤ n
  pub innermost : (p : List ℕ) → count_set p ≡ n → count_set (innermost_plane p (stored_masks (mask_form x) d s at n)) ≡ k
  pub inside : a ≤ length s
  pub none_left : k ≡ 0 → length s - a ≡ 0

module _ (x : Masks) (d : ℕ) (s : List ℕ) (at n : ℕ) (l : at ≤ length s) where
  abbrev mf : MaskForm
  mf = mask_form x

  abbrev mask : List ℕ
  mask = mask_in mf s at n

  abbrev next : ℕ
  next = content_at mf at n

  mask_is : stored_mask mf (drop at s) 16 n ≡ stored_mask mf s (at + 16) n
  mask_is = ap (take (mf.size n)) (drop-drop 16 at s)

  mask_passed : {j : ℕ} → FrameOpen x (drop at s) n j → MaskPassed mf s at n
  mask_passed o = record { room = omega (arith, length-drop at s, o.room); passed = ap (λ (m : List ℕ). mf.test m n) (sym mask_is) ∙ o.passed }

  level_passed : {j a k : ℕ} → FrameOpen x (drop at s) n j → WalkPassed x d s next j a k → WalkPassed x (suc d) s at n a k
  unfolding MasksWithin stored_masks
  level_passed {j} {a} {k} o p =
      let ej : j ≡ count_set mask = o.counted ∙ ap (λ (m : List ℕ). count_set (mf.said m n)) mask_is in
      let pass : MaskPassed mf s at n = mask_passed o in
      record {
        within = ((λ g. pass), subst (MasksWithin mf d s next) ej p.within);
        few = omega (arith, p.few, o.few);
        innermost = λ q eq. ap (λ (c : ℕ). count_set (innermost_plane (spread 0 q mask) (stored_masks mf d s next c))) (sym ej)
            ∙ p.innermost (spread 0 q mask) (count-spread q mask (mask_long x pass ∙ sym eq) ∙ sym ej);
        inside = p.inside;
        none_left = p.none_left;
      }

  -- with no cell set its content is empty, and no level below is walked
  none_passed : FrameOpen x (drop at s) n 0 → (i : ℕ × ℕ) (t : Bool) → eqb (length s - next) 0 ≡ t → unless {A = ℕ × ℕ} t 8 (gives (next, 0)) ≡ gives i
      → WalkPassed x (suc d) s at n i.0 i.1
  none_passed o i true e q =
      let same : ◌≡◌ {A = ℕ × ℕ} (next, 0) i = cc in
      subst (λ (i : ℕ × ℕ). WalkPassed x (suc d) s at n i.0 i.1) same
      (level_passed {a = next} {k = 0} o
      (record {
        within = within_none x d s next;
        few = omega arith;
        innermost = λ p eq. innermost_none p (stored_masks mf d s next 0) eq;
        inside = (mask_passed o).room;
        none_left = λ z. eqb-true (length s - next) 0 e;
      }))
  none_passed o i false e q = let z : ◌≡◌ {A = ℕ} 0 1 = cc in absurd (omega arith)

  frame_passed : (a k : ℕ) (o : Answer ℕ) → opened mf (drop at s) n ≡ o → and_then o (entering s next (walked mf d s next)) ≡ gives (a, k)
      → ((j : ℕ) → next ≤ length s → walked mf d s next (suc j) ≡ gives (a, k) → WalkPassed x d s next (suc j) a k) → WalkPassed x (suc d) s at n a k
  frame_passed a k (gives zero) e g ih = none_passed (frame_open x (drop at s) n 0 e) (a, k) (eqb (length s - next) 0) refl g
  frame_passed a k (gives (suc j)) e g ih =
      let o : FrameOpen x (drop at s) n (suc j) = frame_open x (drop at s) n (suc j) e in
      level_passed o (ih j (mask_passed o).room g)
  frame_passed a k (refuses f) e g ih = let z : ◌≡◌ {A = ℕ} 0 1 = cc in absurd (omega arith)

pub walk_passed : (x : Masks) (d : ℕ) (s : List ℕ) (at n a k : ℕ) → 1 ≤ n → at ≤ length s → walked (mask_form x) d s at n ≡ gives (a, k) → WalkPassed x d s at n a k
unfolding walked MasksWithin stored_masks
walk_passed x zero s at n a k some l h =
    let e : ◌≡◌ {A = ℕ × ℕ} (at, n) (a, k) = cc in
    let ea : at ≡ a = ap (λ (i : ℕ × ℕ). i.0) e in
    let ek : n ≡ k = ap (λ (i : ℕ × ℕ). i.1) e in
    record { within = tt; few = omega arith; innermost = λ p q. q ∙ ek; inside = omega arith; none_left = λ z. absurd (omega arith) }
walk_passed x (suc d) s at n a k some l h =
    frame_passed x d s at n l a k (opened (mask_form x) (drop at s) n) refl h (λ j. walk_passed x d s (content_at (mask_form x) at n) (suc j) a k (omega arith))

-- ---- from the first frame on

-- the count of the innermost cells
pub passed_count : {x : Masks} {d : ℕ} {s : List ℕ} {n a k : ℕ} → 1 ≤ n → WalkPassed x d s 0 n a k → k ≡ innermost_count (mask_form x) d s n
unfolding innermost_count MasksWithin stored_masks
passed_count {x} {d} {s} {n} {a} {k} l p = go d p
  where
    count_ones : (n : ℕ) → count_set (replicate n 1) ≡ n
    count_ones zero = refl
    count_ones (suc n) = ap suc (count_ones n)

    spread_ones : (n : ℕ) (m : List ℕ) → length m ≡ n → spread 0 (replicate n 1) m ≡ m
    spread_ones zero [] e = refl
    spread_ones zero (b ∷ m) e = absurd (omega arith)
    spread_ones (suc n) [] e = absurd (omega arith)
    spread_ones (suc n) (b ∷ m) e = ap (λ (r : List ℕ). b ∷ r) (spread_ones n m (omega arith))

    go : (d : ℕ) → WalkPassed x d s 0 n a k → k ≡ innermost_count (mask_form x) d s n
    go zero p = sym (p.innermost (replicate n 1) (count_ones n)) ∙ count_ones n
    go (suc d) p =
        let mf = mask_form x in
        let mask = mask_in mf s 0 n in
        sym (p.innermost (replicate n 1) (count_ones n))
        ∙ ap (λ (q : List ℕ). count_set (innermost_plane q (stored_masks mf d s (content_at mf 0 n) (count_set mask)))) (spread_ones n mask (mask_long x (p.within.0 l)))
