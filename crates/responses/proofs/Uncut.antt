-- Text of which nothing was cut off.
use mathlib.Core.Path.{◌≡◌, refl, ap, subst, ◌∙◌}
use mathlib.Core.List.{List, [], ◌∷◌}
use Prim.Native.Nat.{ℕ, zero, suc, ◌<◌}
use native.Mathlib.Omega.{arith}
use lib.ListN.{length, take}
use Rattle.std.specs.Prelude.{Option, None, Some, IfSome, Result, Ok, Err, OnOk}
use Rattle.std.specs.Io.KnownBytes.{Appends}

-- a list cut off at n that came out shorter
uncut : (n : ℕ) (s : List ℕ) → length (take n s) < n → take n s ≡ s
uncut zero s h = absurd (omega arith)
uncut (suc n) [] h = refl
uncut (suc n) (x ∷ s) h = ap (λ l. x ∷ l) (uncut n s (omega arith))

module _ {A E : Type 0} (n : ℕ) (r : Result A E) (old new : Option (List ℕ)) where
  nothing_said : (q : Result A E) (bytes : List ℕ) → OnOk q (Appends old new bytes) → OnOk q (Unit {0})
  nothing_said (Ok x) bytes w = tt
  nothing_said (Err x) bytes w = tt

  -- a text of which so little was written that nothing of it was cut off
  pub written_uncut : (o : Option (List ℕ)) {room bytes : List ℕ} → IfSome o (λ text. room ≡ take n text) → bytes ≡ room → length bytes < n
      → OnOk r (Appends old new bytes) → OnOk r (IfSome o (Appends old new))
  written_uncut None h e short wrote = nothing_said r _ wrote
  written_uncut (Some text) h e short wrote =
      let whole = e ∙ h ∙ uncut n text (subst (λ l. length l < n) (e ∙ h) short) in
      subst (λ l. OnOk r (Appends old new l)) whole wrote
