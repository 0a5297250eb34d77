-- How long a stored form is: exactly, as the sum over the levels, and within the limits less than 2 ^ 64.
-- Assumes nothing.
use mathlib.Core.Path.{◌≡◌, refl, sym, ap, ap₂, ◌∙◌}
use Prim.Native.Nat.{ℕ, zero, suc, ◌+◌, ◌*◌, ◌^◌, ◌<◌, ◌≤◌}
use native.Mathlib.Nat.{zero-mul, suc-mul, le_refl, le_trans, add-le-add, mul-le-mul_left, le_of_eq, mul-le-mul}
use native.Mathlib.Omega.{arith}
use mathlib.Core.List.{List, [], ◌∷◌}
use lib.ListN.{length}
use Rattle.array.specs.Limits.{most_bytes, most_cells}
use Rattle.array.specs.Lists.{joined, All}
use Rattle.array.specs.Kind.{Kind, Masks, Form, FormOk}
use Rattle.array.specs.Cells.{Value, Cell, mask_of, leaf}
use Rattle.array.specs.Content.{Content, ContentOk, leaves, values_in, cells_of}
use Rattle.array.proofs.Lists.{map_id}
use Rattle.array.proofs.Sums.{sum_of}
use Rattle.array.proofs.Sizes.{OfSize, SizedAs}
use Rattle.array.proofs.LayoutLaws.{length-mask_of, leaves-attach, values_length_lem, values_total, bytes_sum, All-leaves, cells_sized}
use Rattle.codec.specs.Mask.{MaskForm, mask_form}
use Rattle.codec.specs.Frame.{keep_one, keep, unless_none, frame, live}
use Rattle.codec.specs.Values.{put_values}
use Rattle.codec.specs.Length.{length_or_none, frame_length, written_length}
use Rattle.codec.specs.Calls.{stored_form, values_left}
use Rattle.codec.proofs.Frames.{length-keep-le, All-keep, length-wrap}
use Rattle.codec.proofs.Masks.{mask_laws}
use Rattle.codec.proofs.Values.{length-put_values}
use Rattle.codec.proofs.Values as values

-- ---- the sum over the levels

pub frame-length : (mf : MaskForm) → ((ms : List ℕ) → length (mf.put ms) ≡ mf.size (length ms)) → (f : Form) (d : ℕ) (cs : List (Cell d)) → All (λ c. OfSize f (leaf d c)) cs
    → length (frame mf (put_values f) d cs) ≡ frame_length mf f d cs
unfolding frame frame_length
frame-length mf lm f zero cs s = values.values_length_lem f cs s
frame-length mf lm f (suc d) cs s =
    length-wrap (mf.put (mask_of cs)) (unless_none (frame mf (put_values f) d) (keep cs))
    ∙ ap₂ (λ (a b : ℕ). 16 + a + b) (lm (mask_of cs) ∙ ap mf.size (length-mask_of cs)) (inner (keep cs) (frame-length mf lm f d (keep cs)) (All-keep (λ c. OfSize f (leaf d c)) cs s))
  where
    inner : (ks : List (Cell d)) → (All (λ c. OfSize f (leaf d c)) ks → length (frame mf (put_values f) d ks) ≡ frame_length mf f d ks) → All (λ c. OfSize f (leaf d c)) ks
        → length (unless_none (frame mf (put_values f) d) ks) ≡ length_or_none (frame_length mf f d) ks
    inner [] ih t = refl
    inner (k ∷ ks) ih t = ih t

-- ---- the values that a frame holds

sum-keep : {A : Type 0} (f : A → ℕ) (cs : List (ℕ × A)) → sum_of f (keep cs) ≤ sum_of (λ c. f c.1) cs
sum-keep f [] = le_refl 0
sum-keep {A} f (c ∷ cs) = one c.0 (sum-keep f cs)
  where
    one : (m : ℕ) → sum_of f (keep cs) ≤ sum_of (λ x. f x.1) cs → sum_of f (keep_one m c.1 (keep cs)) ≤ f c.1 + sum_of (λ x. f x.1) cs
    one zero h = omega arith
    one (suc zero) h = omega arith
    one (suc (suc m)) h = omega arith

pub bytes_keep : (d : ℕ) (cs : List (Cell (suc d))) → length (joined (leaves d (keep cs))) ≤ length (joined (leaves (suc d) cs))
bytes_keep d cs = omega (arith, bytes_sum d (keep cs), bytes_sum (suc d) cs, sum-keep (λ c. length (leaf d c)) cs)

pub bytes_live : (d : ℕ) (cs : List (Cell d)) → length (joined (live d cs)) ≤ length (joined (leaves d cs))
bytes_live zero cs = le_of_eq (ap (λ (vs : List Value). length (joined vs)) (sym (map_id cs)))
bytes_live (suc d) cs = le_trans (bytes_live d (keep cs)) (bytes_keep d cs)

-- no more bytes are written than the array has
pub bytes_left : (k : Kind) (n : ℕ) (c : Content) → ContentOk k n c → length (joined (values_left k n c)) ≤ length c.values
bytes_left k n c ok =
    let vs : List Value = values_in k.form n c in
    let el : leaves k.depth (cells_of k n c) ≡ vs = leaves-attach n vs (values_length_lem k.form n c ok.values_fit) k.depth c.masks ok.masks_fit in
    omega (arith, bytes_live k.depth (cells_of k n c), ap (λ (us : List Value). length (joined us)) el, values_total k.form n c ok.values_fit)

pub All-live : (P : Value → Type 0) (d : ℕ) (cs : List (Cell d)) → All (λ c. P (leaf d c)) cs → All P (live d cs)
All-live P zero cs p = p
All-live P (suc d) cs p = All-live P d (keep cs) (All-keep (λ c. P (leaf d c)) cs p)

pub sized-live : (f : Form) (d : ℕ) (cs : List (Cell d)) → SizedAs f (leaves d cs) → SizedAs f (live d cs)
sized-live f d cs p = All-live (OfSize f) d cs (All-leaves (OfSize f) d cs p)

-- what encode writes is as long as the sum
pub written_length_lem : (k : Kind) (n : ℕ) (c : Content) → ContentOk k n c → length (stored_form k n c) ≡ written_length k n c
written_length_lem k n c ok =
    let cs : List (Cell k.depth) = cells_of k n c in
    frame-length (mask_form k.masks) (mask_laws k.masks).length_put k.form k.depth cs (All-leaves (OfSize k.form) k.depth cs (cells_sized k n c ok))

-- ---- an upper bound

module _ (x : Masks) (f : Form) (ok : FormOk f) where
  content_le : (d : ℕ) → ((cs : List (Cell d)) → length (frame (mask_form x) (put_values f) d cs) ≤ d * (16 + length cs) + (8 + 8 * suc (length cs) + length (joined (leaves d cs))))
      → (cs : List (Cell d)) → length (unless_none (frame (mask_form x) (put_values f) d) cs) ≤ d * (16 + length cs) + (8 + 8 * suc (length cs) + length (joined (leaves d cs)))
  content_le d h [] = omega arith
  content_le d h (c ∷ cs) = h (c ∷ cs)

  pub length-frame-le : (d : ℕ) (cs : List (Cell d)) → length (frame (mask_form x) (put_values f) d cs) ≤ d * (16 + length cs) + (8 + 8 * suc (length cs) + length (joined (leaves d cs)))
  unfolding frame
  length-frame-le zero cs = omega (arith, length-put_values f ok cs, zero-mul (16 + length cs), ap (λ (vs : List Value). length (joined vs)) (map_id cs))
  length-frame-le (suc d) cs =
      let ks : List (Cell d) = keep cs in
      let ct : List ℕ = unless_none (frame (mask_form x) (put_values f) d) ks in
      let k : length ks ≤ length cs = length-keep-le cs in
      omega (
        arith,
        length-wrap ((mask_form x).put (mask_of cs)) ct,
        (mask_laws x).length_put (mask_of cs),
        (mask_laws x).size_le (length (mask_of cs)),
        length-mask_of cs,
        content_le d (λ xs. length-frame-le d xs) ks,
        bytes_keep d cs,
        mul-le-mul_left d (add-le-add (le_refl 16) k),
        suc-mul d (16 + length cs),
      )

  -- within the limits a frame's length fits 64 bits
  pub frame_small : (d : ℕ) (cs : List (Cell d)) → d ≤ 4 → length cs ≤ most_cells → length (joined (leaves d cs)) ≤ most_bytes
      → length (frame (mask_form x) (put_values f) d cs) < 256 ^ 8
  unfolding most_cells most_bytes
  frame_small d cs h n b = omega (arith, length-frame-le d cs, mul-le-mul h (add-le-add (le_refl 16) n))
