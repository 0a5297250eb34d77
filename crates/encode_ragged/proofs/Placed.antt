-- Ragged values laid over an output, part by part.
-- Assumes nothing.
use mathlib.Core.Path.{◌≡◌, sym, ap, ap₂, ◌∙◌}
use Prim.Native.Nat.{ℕ, ◌+◌, ◌≤◌}
use native.Mathlib.Omega.{arith}
use mathlib.Core.List.{List, ◌++◌}
use lib.ListN.{length, length-append}
use Rattle.array.specs.Buffers.{over_at}
use Rattle.array.specs.Bytes.{le}
use Rattle.array.specs.Kind.{Place, at_start, at_end}
use Rattle.array.specs.Content.{RaggedContent}
use Rattle.array.proofs.Bytes.{length-le}
use Rattle.codec.specs.Ragged.{index_of, put_ragged, length_at, index_at, data_at}
use Rattle.encode_cells.proofs.Placing.{at_front, at_behind}

-- the data, then the index, then its length
pub ragged_laid : (p : Place) (w at : ℕ) {index bytes : ℕ} (out : List ℕ) {o1 o2 o3 : List ℕ} (c : RaggedContent) {place start field : ℕ}
    → length (index_of w c.offsets) ≡ index → length c.values ≡ bytes → at + (8 + index + bytes) ≤ length out
    → place ≡ data_at p index → o1 ≡ over_at (at + place) c.values out
    → start ≡ index_at p (8 + index + bytes) index → o2 ≡ over_at (at + start) (index_of w c.offsets) o1
    → field ≡ length_at p (8 + index + bytes) → o3 ≡ over_at (at + field) (le 8 index) o2
    → o3 ≡ over_at at (put_ragged w p c) out
unfolding put_ragged
ragged_laid at_start w at {index = index} {bytes = bytes} out {o1 = o1} {o2 = o2} {o3 = o3} c {place} {start} {field} ei eb h ed e1 es e2 ef e3 =
    let i : List ℕ = index_of w c.offsets in
    let z : at + field ≡ at = omega arith in
    let q2 : o2 ≡ over_at (at + start) (i ++ c.values) out = e2 ∙ ap (over_at (at + start) i) e1 ∙ at_front (at + start) i c.values out (at + place) (omega arith) (omega arith) in
    e3 ∙ ap (over_at (at + field) (le 8 index)) q2 ∙ at_front (at + field) (le 8 index) (i ++ c.values) out (at + start) (omega (arith, length-le 8 index)) (omega arith)
    ∙ ap₂ (λ (x m : ℕ). over_at x (le 8 m ++ (i ++ c.values)) out) z (sym ei)
ragged_laid at_end w at {index = index} {bytes = bytes} out {o1 = o1} {o2 = o2} {o3 = o3} c {place} {start} {field} ei eb h ed e1 es e2 ef e3 =
    let i : List ℕ = index_of w c.offsets in
    let z : at + place ≡ at = omega arith in
    let q2 : o2 ≡ over_at (at + place) (c.values ++ i) out = e2 ∙ ap (over_at (at + start) i) e1 ∙ at_behind (at + place) c.values i out (at + start) (omega arith) (omega arith) in
    e3 ∙ ap (over_at (at + field) (le 8 index)) q2
    ∙ at_behind (at + place) (c.values ++ i) (le 8 index) out (at + field) (omega (arith, length-append c.values i)) (omega arith)
    ∙ ap₂ (λ (x m : ℕ). over_at x ((c.values ++ i) ++ le 8 m) out) z (sym ei)
