-- What the caller takes from the outputs is what was given, with its lengths named.
-- Assumes nothing.
use mathlib.Core.Path.{◌≡◌, refl, ap}
use Prim.Native.Nat.{ℕ}
use mathlib.Core.List.{List}
use Rattle.array.specs.Answer.{Answer, gives, refuses, and_then}
use Rattle.array.specs.Content.{Content}
use Rattle.array.specs.Buffers.{list_outcome, content_outcome, taken, taken_bytes, whole}
use Rattle.array.proofs.Over.{take-over}
use Rattle.array.proofs.LayoutLaws.{content_path}

pub taken_content : (a : Answer Content) (old : Content) → taken (content_outcome a old) ≡ and_then a (λ c. gives (whole c))
taken_content (gives c) old =
    ap (λ (x : Content). gives (record { named = (whole c).named; content = x }))
    (content_path (take-over c.masks old.masks) (take-over c.values old.values) (take-over c.offsets old.offsets))
taken_content (refuses k) old = refl

pub taken_bytes_lem : (a : Answer (List ℕ)) (old : List ℕ) → taken_bytes (list_outcome a old) ≡ a
taken_bytes_lem (gives s) old = ap gives (take-over s old)
taken_bytes_lem (refuses k) old = refl
