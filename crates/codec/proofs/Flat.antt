-- Ragged values of depth 0 lie end to end from offset 0 in the array and in the stored bytes: they are written and read with no cell moved.
-- Assumes nothing.
use mathlib.Core.Path.{◌≡◌, refl, ap, ap₂}
use Prim.Native.Nat.{ℕ, zero, suc}
use mathlib.Core.List.{List}
use lib.ListN.{length}
use Rattle.array.specs.Answer.{Answer, gives, refuses, and_then}
use Rattle.array.specs.Kind.{Place, ragged, byte_kind}
use Rattle.array.specs.Offsets.{last, Rising, slices}
use Rattle.array.specs.Content.{RaggedContent, end_to_end, unmasked, layout}
use Rattle.array.proofs.Offsets.{joined-slices_all, offsets_slices_all}
use Rattle.array.proofs.Inverse.{layout_cells}
use Rattle.codec.specs.Mask.{MaskForm}
use Rattle.codec.specs.Frame.{read_frame}
use Rattle.codec.specs.Ragged.{put_ragged, get_ragged}
use Rattle.codec.specs.Values.{put_values, get_values}
use Rattle.codec.specs.Calls.{read_in}
use Rattle.codec.proofs.Accepted.{read_content}

-- the values between offsets that begin at 0 have these offsets
pub again : (c : RaggedContent) {n : ℕ} → length c.offsets ≡ suc n → Rising c.offsets → last c.offsets ≡ length c.values
    → end_to_end (slices c.offsets c.values) ≡ c
again c {n} e r l =
    let pair : List ℕ → List ℕ → RaggedContent = λ vs os. record { values = vs; offsets = os } in
    ap₂ pair (joined-slices_all n c.offsets c.values e r l) (offsets_slices_all n c.offsets c.values e r l)

module _ (w : ℕ) (p : Place) where
  pub flat-put : (c : RaggedContent) {n : ℕ} → length c.offsets ≡ suc n → Rising c.offsets → last c.offsets ≡ length c.values
      → put_values (ragged w p) (slices c.offsets c.values) ≡ put_ragged w p c
  unfolding put_values
  flat-put c e r l = ap (put_ragged w p) (again c e r l)

  pub flat_read : (mf : MaskForm) (n : ℕ) (s : List ℕ) → read_in mf (ragged w p) zero n s ≡ and_then (get_ragged w p s n) (λ x. gives (unmasked x))
  unfolding read_in read_frame get_values
  flat_read mf n s = go (get_ragged w p s n) refl
    where
      go : (a : Answer RaggedContent) → get_ragged w p s n ≡ a
          → and_then (and_then a (λ x. gives (slices x.offsets x.values))) (λ cs. gives (layout (ragged w p) zero cs)) ≡ and_then a (λ x. gives (unmasked x))
      go (refuses k) e = refl
      go (gives x) e = ap gives (layout_cells (byte_kind 0 (ragged w p)) n (unmasked x) (read_content w p s n x e).fits)
