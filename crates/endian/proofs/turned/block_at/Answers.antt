-- `endian::turned::block_at`: each cell by its number, and the block is no longer than its cells (Copying).
-- Assumes nothing.
use mathlib.Core.Path.{refl, ap, ap₂, ◌∙◌}
use native.Mathlib.Omega.{arith}
use Rattle.std.proofs.Common.{rules, ◌≡◌, ◌+◌, ◌*◌, ◌≤◌, ℕ, List, length, take, drop, reverse}
use Rattle.array.specs.Buffers.{over_at}
use Rattle.array.specs.Bytes.{le, unle}
use Rattle.array.specs.Kind.{big}
use Rattle.word.proofs.Words.{Slice, le_read}
use Rattle.endian.proofs.Sizes.{word_some, word_block}
use Rattle.endian.proofs.Copying.{copies_room, copies_next, copies_all}
use Rattle.endian.proofs.turned.block_at.Goals as goal

-- a cell read at p, which is `at` however it is reckoned
cell_read : (s : List ℕ) → Slice s → (k : ℕ) → {p at r : ℕ} → r ≡ unle (reverse (take k (drop p s))) → p ≡ at → at + k ≤ length s → le k r ≡ reverse (take k (drop at s))
cell_read s f k {p} {at} e q h = le_read big s f at k h (e ∙ ap (λ (j : ℕ). unle (reverse (take k (drop j s)))) q)

pub loop-i-preserved : goal.loop-i-preserved
loop-i-preserved c =
    let a = c.args in
    let k = a.size.bytes in
    let place = c.loop-i.i * k in
    let front : place ≡ 0 + place = omega arith in
    let room : place + k ≤ 32 = omega (arith, copies_room c.loop-i.invariant c.loop-i-test.true, word_block k a.size.word) in
    copies_next c.loop-i.invariant c.loop-i-test.true
    (c.put_word.ensures ∙ ap₂ (λ (j : ℕ) (l : List ℕ). over_at j l c.loop-i.block) front
    (cell_read a.s.now (search rules) k c.big_at.ensures (omega (arith, room, word_some k a.size.word)) (omega (arith, room))))

pub returns : goal.returns
returns c = copies_all c.loop-i.invariant c.loop-i-test.false (word_block c.args.size.bytes c.args.size.word) refl
