-- A stored mask by its place, over its form: how long it is, and its check.
-- Assumes nothing.
use mathlib.Core.Path.{◌≡◌, sym, ap, ◌∙◌}
use Prim.Native.Nat.{ℕ, ◌≤◌}
use native.Mathlib.Omega.{arith}
use mathlib.Core.Bool.{Bool, true, false}
use mathlib.Core.List.{List}
use lib.ListN.{length, drop}
use lib.Seq.{length-take-le}
use Rattle.array.specs.Answer.{gives, refuses, unless, and_then}
use Rattle.array.specs.Kind.{Masks, as_bytes, as_bits}
use Rattle.codec.specs.Mask.{MaskForm, mask_form, bits_of}
use Rattle.codec.specs.Frame.{count_set}
use Rattle.codec.proofs.Masks.{length_bits}
use Rattle.mask.specs.Marks.{counted_in}
use Rattle.mask_bits.proofs.Said.{said_packed}
use Rattle.codec.specs.MaskAt.{said_mask}

-- a mask says as many bytes as it has cells
pub length_said : (x : Masks) (s : List ℕ) (at n : ℕ) → (mask_form x).size n ≤ length (drop at s) → length (said_mask (mask_form x) s at n) ≡ n
length_said as_bytes s at n h = length-take-le n (drop at s) h
length_said as_bits s at n h = ap length (said_packed s at n h) ∙ length-take-le n (bits_of (drop at s)) (omega (arith, length_bits (drop at s)))

-- ---- the check of a mask: it passes, or its refusal is given

pub counted_passed : (mf : MaskForm) (mask : List ℕ) (n : ℕ) {k : ℕ} → mf.test mask n ≡ true → k ≡ count_set (mf.said mask n) → gives k ≡ counted_in mf mask n
counted_passed mf mask n t e =
    ap (λ (i : ℕ). gives i) e ∙ sym (ap (λ (b : Bool). and_then (unless b mf.refusal (gives (mf.said mask n))) (λ ms. gives (count_set ms))) t)

pub counted_failed : (mf : MaskForm) (mask : List ℕ) (n : ℕ) → mf.test mask n ≡ false → refuses mf.refusal ≡ counted_in mf mask n
counted_failed mf mask n t = sym (ap (λ (b : Bool). and_then (unless b mf.refusal (gives (mf.said mask n))) (λ ms. gives (count_set ms))) t)
