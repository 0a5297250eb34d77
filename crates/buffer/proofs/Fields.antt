-- Fields of stored bytes, for any width and refusal: the two answers, and what each says.
-- Assumes nothing.
use mathlib.Core.Path.{◌≡◌, refl, ap}
use mathlib.Core.Bool.{Bool, true, false}
use mathlib.Core.List.{List}
use Prim.Native.Nat.{ℕ, ◌-◌, ◌≤◌, ◌<◌}
use native.Mathlib.Omega.{arith}
use lib.Dec.{leb}
use lib.ListN.{length, take, drop}
use borrow.Author.Tests.{le-leb, lt-leb, leb-true, leb-false}
use Rattle.array.specs.Answer.{gives, refuses, unless}
use Rattle.array.specs.Bytes.{unle}
use Rattle.buffer.specs.Field.{field_at}

module _ (w e : ℕ) (s : List ℕ) (at : ℕ) where
  pub field_short : length s - at < w → refuses e ≡ field_at w e s at
  unfolding field_at
  field_short h = rw (lt-leb w (length s - at) h)

  pub field_full : {v : ℕ} → w ≤ length s - at → v ≡ unle (take w (drop at s)) → gives v ≡ field_at w e s at
  unfolding field_at
  field_full h q = rw (le-leb w (length s - at) h) (ap gives q)

  pub field_value : (v : ℕ) → field_at w e s at ≡ gives v → (w ≤ length s - at) × (v ≡ unle (take w (drop at s)))
  unfolding field_at
  field_value v h = go (leb w (length s - at)) refl h
    where
      go : (b : Bool) → leb w (length s - at) ≡ b → unless b e (gives (unle (take w (drop at s)))) ≡ gives v → (w ≤ length s - at) × (v ≡ unle (take w (drop at s)))
      go true p q = (leb-true w (length s - at) p, cc)
      go false p q = let z : ◌≡◌ {A = ℕ} 0 1 = cc in absurd (omega arith)

  pub field_refused : (k : ℕ) → field_at w e s at ≡ refuses k → (length s - at < w) × (k ≡ e)
  unfolding field_at
  field_refused k h = go (leb w (length s - at)) refl h
    where
      go : (b : Bool) → leb w (length s - at) ≡ b → unless b e (gives (unle (take w (drop at s)))) ≡ refuses k → (length s - at < w) × (k ≡ e)
      go true p q = let z : ◌≡◌ {A = ℕ} 0 1 = cc in absurd (omega arith)
      go false p q = (leb-false w (length s - at) p, cc)
