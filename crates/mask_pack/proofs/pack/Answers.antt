-- `mask_pack::pack` meets its contract. The invariant: the bytes of the cells so far lie there, whole ones while cells are left, and those of the others are left.
-- Assumes nothing.
use mathlib.Core.Path.{◌≡◌, sym, ap, subst, ◌∙◌}
use mathlib.Core.List.{List, map}
use Prim.Native.Nat.{ℕ, ◌+◌, ◌-◌, ◌/◌, ◌%◌, ◌<◌, ◌≤◌, min}
use native.Mathlib.Omega.{arith}
use lib.ListN.{length, take, drop}
use Rattle.array.specs.Cells.{bit_of}
use Rattle.array.specs.Buffers.{over_at}
use Rattle.array.proofs.Laying.{Laying, laying_begins, laying_part, laying_is, laying_ends}
use Rattle.codec.specs.Mask.{pack_bits, bytes_for}
use Rattle.codec.proofs.Masks.{length-packed}
use Rattle.mask_bits.proofs.Parts.{length-part_bits}
use Rattle.mask_pack.proofs.Words.{packed_from, length-packed-from, packed_next, packed_end}
use Rattle.mask_pack.proofs.pack.Goals as goal

-- what lies there once the cells up to r are packed
module _ (planes old : List ℕ) (to at n : ℕ) where
  abbrev pub Reached : List ℕ → ℕ → Type 0
  Reached now r = Laying (packed_from planes at n 0) old to now (bytes_for r) (packed_from planes at n r)

  module _ (h : at + n ≤ length planes) where
    reached_begins : to + bytes_for n ≤ length old → Reached old 0
    reached_begins room = laying_begins (packed_from planes at n 0) old to (omega (arith, room, length-packed-from planes at n h))

    reached_more : {now new : List ℕ} (done count : ℕ) → done < n → done % 8 ≡ 0 → count ≡ min 256 (n - done) → Reached now done
        → new ≡ over_at (to + done / 8) (pack_bits (map bit_of (take count (drop (at + done) planes)))) now → Reached new (done + count)
    reached_more {now} {new} done count l whole size inv e =
        let e8 : bytes_for done ≡ done / 8 = omega arith in
        let g : List ℕ = pack_bits (map bit_of (take count (drop (at + done) planes))) in
        let long : length g ≡ bytes_for count =
        length-packed (map bit_of (take count (drop (at + done) planes))) ∙ ap bytes_for (length-part_bits planes (at + done) count (omega (arith, size, h))) in
        let laid : new ≡ over_at (to + bytes_for done) g now = e ∙ ap (λ (k : ℕ). over_at (to + k) g now) (sym e8) in
        laying_part (packed_from planes at n 0) old to now (bytes_for done) g (packed_from planes at n (done + count))
        (laying_is inv (packed_next planes at n h done (omega arith) size)) new laid (bytes_for (done + count)) (omega arith)

    reached_ends : {now : List ℕ} (r : ℕ) → n ≤ r → Reached now r → now ≡ over_at to (packed_from planes at n 0) old
    reached_ends {now} r l inv = laying_ends (packed_from planes at n 0) old to now (bytes_for r) (laying_is inv (packed_end planes at n h r l))

pub loop-done-init : goal.loop-done-init
loop-done-init c =
    let a = c.args in
    let z : 0 ≡ min 0 a.n = omega arith in
    (omega arith, subst (Reached a.planes.now a.out.now a.to a.at a.n a.out.now) z (reached_begins a.planes.now a.out.now a.to a.at a.n c.requires.1 c.requires.0))

pub loop-done-preserved : goal.loop-done-preserved
loop-done-preserved c =
    let a = c.args in
    let l = c.loop-done in
    let here : min l.done a.n ≡ l.done = omega arith in
    let next : l.done + c.min-count.result ≡ min (l.done + 256) a.n = omega (arith, c.min-count.ensures) in
    let reached = Reached a.planes.now a.out.now a.to a.at a.n in
    let more = reached_more a.planes.now a.out.now a.to a.at a.n c.requires.1 l.done c.min-count.result (omega arith) l.invariant.0
    (omega (arith, c.min-count.ensures)) (subst (reached l.out) here l.invariant.1) c.pack_block.ensures in
    (omega (arith, l.invariant.0), subst (reached c.pack_block.new.out) next more)

pub returns-2 : goal.returns-2
returns-2 c =
    let a = c.args in
    let l = c.loop-done in
    let here : min l.done a.n ≡ l.done = omega arith in
    let reached = Reached a.planes.now a.out.now a.to a.at a.n in
    let more = reached_more a.planes.now a.out.now a.to a.at a.n c.requires.1 l.done c.min-count.result (omega arith) l.invariant.0
    (omega (arith, c.min-count.ensures)) (subst (reached l.out) here l.invariant.1) c.pack_block.ensures in
    reached_ends a.planes.now a.out.now a.to a.at a.n c.requires.1 (l.done + c.min-count.result) (omega (arith, c.min-count.ensures)) more
