-- A frame laid over an output, part by part.
-- Assumes nothing.
use mathlib.Core.Path.{◌≡◌, sym, ap, ap₂, ◌∙◌}
use Prim.Native.Nat.{ℕ, ◌+◌, ◌≤◌}
use native.Mathlib.Omega.{arith}
use mathlib.Core.List.{List, ◌++◌}
use lib.ListN.{length}
use Rattle.array.specs.Buffers.{over_at}
use Rattle.array.specs.Bytes.{le}
use Rattle.array.proofs.Bytes.{length-le}
use Rattle.codec.specs.Frame.{wrap}
use Rattle.encode_cells.proofs.Placing.{at_front}

-- a frame: the content, then its mask, then the two lengths
pub frame_laid : (at : ℕ) (mask content out : List ℕ) {n m : ℕ} {o1 o2 o3 o4 : List ℕ} → length mask ≡ n → length content ≡ m → at + (16 + n + m) ≤ length out
    → o1 ≡ over_at (at + 16 + n) content out → o2 ≡ over_at (at + 16) mask o1 → o3 ≡ over_at (at + 8) (le 8 m) o2 → o4 ≡ over_at at (le 8 n) o3
    → o4 ≡ over_at at (wrap mask content) out
unfolding wrap
frame_laid at mask content out {n} {m} {o1} {o2} {o3} {o4} en em h e1 e2 e3 e4 =
    let q2 : o2 ≡ over_at (at + 16) (mask ++ content) out = e2 ∙ ap (over_at (at + 16) mask) e1 ∙ at_front (at + 16) mask content out (at + 16 + n) (omega arith) (omega arith) in
    let q3 : o3 ≡ over_at (at + 8) (le 8 m ++ (mask ++ content)) out =
    e3 ∙ ap (over_at (at + 8) (le 8 m)) q2 ∙ at_front (at + 8) (le 8 m) (mask ++ content) out (at + 16) (omega (arith, length-le 8 m)) (omega arith) in
    e4 ∙ ap (over_at at (le 8 n)) q3 ∙ at_front at (le 8 n) (le 8 m ++ (mask ++ content)) out (at + 8) (omega (arith, length-le 8 n)) (omega arith)
    ∙ ap₂ (λ (a b : ℕ). over_at at (le 8 a ++ (le 8 b ++ (mask ++ content))) out) (sym en) (sym em)
