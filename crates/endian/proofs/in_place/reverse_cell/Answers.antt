-- `endian::in_place::reverse_cell`: each turn leaves a smaller cell to reverse (Reversing, Swapping).
-- Assumes nothing.
use mathlib.Core.Path.{ap, ◌∙◌}
use native.Mathlib.Omega.{arith}
use Rattle.std.proofs.Common.{ℕ, ◌≡◌, ◌+◌, ◌-◌, ◌*◌, ◌/◌, ◌≤◌}
use Rattle.endian.proofs.Reversing.{swapped, bytes_swapped, swapping_more, swapping_cast, swapping_ends}
use Rattle.endian.proofs.in_place.reverse_cell.Goals as goal

pub loop-i-preserved : goal.loop-i-preserved
loop-i-preserved c =
    swapping_cast (swapping_more c.loop-i.invariant 8 (omega (arith, c.loop-i-test.true)) c.swap_words.ensures) (omega arith) (omega arith)

pub loop-j-preserved : goal.loop-j-preserved
loop-j-preserved c =
    λ d p.
    let pairs = c.args.size / 16 in
    let low = c.args.at + pairs * 8 + c.loop-j.j in
    let left = c.args.size - pairs * 16 in
    let high = c.args.at + pairs * 8 + (left - 1 - c.loop-j.j) in
    let l = c.loop-j.invariant d p in
    let two : 2 ≤ left - c.loop-j.j * 2 = omega (arith, c.loop-j-test.true) in
    let end : high ≡ low + (left - c.loop-j.j * 2 - 1) = omega arith in
    swapping_cast
    (swapping_more l 1 two (bytes_swapped low high c.loop-j.bytes (omega (arith, l.room)) (omega (arith, l.room)) ∙ ap (λ (h : ℕ). swapped 1 low h c.loop-j.bytes) end))
    (omega arith) (omega arith)

pub returns : goal.returns
returns c =
    let pairs = c.args.size / 16 in
    let done : c.loop-i.i ≡ pairs = omega (arith, c.loop-i-test.false, c.loop-i.auto.i-end) in
    let begun = swapping_cast c.loop-i.invariant {i = c.args.at + pairs * 8} {j = c.args.size - pairs * 16} (omega arith) (omega arith) in
    swapping_ends (c.loop-j.invariant c.args.bytes.now begun) (omega (arith, c.loop-j-test.false))
