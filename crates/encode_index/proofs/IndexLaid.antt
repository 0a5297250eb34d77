-- An index that begins with 0: its length, and how it is laid over an output.
-- Assumes nothing.
use mathlib.Core.Path.{◌≡◌, sym, ap, ◌∙◌}
use Prim.Native.Nat.{ℕ, ◌+◌, ◌≤◌}
use native.Mathlib.Omega.{arith}
use mathlib.Core.List.{List, ◌∷◌}
use lib.ListN.{length, length-append}
use Rattle.array.specs.Buffers.{over_at}
use Rattle.array.specs.Bytes.{le}
use Rattle.array.proofs.Bytes.{length-le}
use Rattle.codec.specs.Ragged.{index_of}
use Rattle.encode_cells.proofs.Placing.{at_behind}

pub index_head : (w : ℕ) (os : List ℕ) → length (index_of w (0 ∷ os)) ≡ w + length (index_of w os)
index_head w os = length-append (le w 0) (index_of w os) ∙ ap (λ (m : ℕ). m + length (index_of w os)) (length-le w 0)

pub index_laid : {w : ℕ} (to : ℕ) (os out : List ℕ) {k : ℕ} {o1 o2 : List ℕ} → to + length (index_of w (0 ∷ os)) ≤ length out → k ≡ w
    → o1 ≡ over_at to (le w 0) out → o2 ≡ over_at (to + k) (index_of w os) o1 → o2 ≡ over_at to (index_of w (0 ∷ os)) out
index_laid {w = w} to os out {k} {o1} {o2} h ek e1 e2 =
    e2 ∙ ap (over_at (to + k) (index_of w os)) e1 ∙ at_behind to (le w 0) (index_of w os) out (to + k) (ap (λ (m : ℕ). to + m) (length-le w 0 ∙ sym ek)) (omega arith)
