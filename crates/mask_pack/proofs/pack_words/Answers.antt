-- `mask_pack::pack_words` meets its contract. The invariant: the first i bytes lie there, and those of the other words are left.
-- Assumes nothing.
use mathlib.Core.Path.{◌≡◌, sym, ap, ap₂, ◌∙◌}
use mathlib.Core.List.{List, [], ◌∷◌, map}
use Prim.Native.Nat.{ℕ, ◌+◌, ◌*◌}
use native.Mathlib.Omega.{arith}
use lib.ListN.{take, drop, length-map}
use Rattle.array.specs.Lists.{pieces}
use native.Mathlib.Nat.{sub-zero}
use Rattle.array.specs.Bytes.{number, unle}
use Rattle.array.proofs.Lists.{length-pieces}
use Rattle.array.proofs.Laying.{Laying, laying_begins, laying_store, laying_is, laying_ends}
use Rattle.mask_pack.specs.PackedWord.{packed_word}
use Rattle.mask_pack.proofs.Words.{words_next, words_end}
use Rattle.mask_pack.proofs.pack_words.Invariants.{bytes_from}
use Rattle.mask_pack.proofs.pack_words.Goals as goal

pub loop-i-init : goal.loop-i-init
loop-i-init c =
    let a = c.args in
    let want : List ℕ = map (number 2) (pieces 8 a.count a.block.now) in
    let begins : Laying want a.out.now a.to a.out.now 0 want =
    laying_begins want a.out.now a.to (omega (arith, c.requires.0, length-map (pieces 8 a.count a.block.now) (number 2), length-pieces 8 a.count a.block.now)) in
    laying_is begins (sym (ap (λ (k : ℕ). map (number 2) (pieces 8 k a.block.now)) (sub-zero a.count)))

pub loop-i-preserved : goal.loop-i-preserved
loop-i-preserved c =
    let a = c.args in
    let i : ℕ = c.loop-i.i in
    let rest : List ℕ = bytes_from a.block.now a.count (i + 1) in
    let block : List ℕ = a.block.now in
    let word : packed_word (unle (take 4 (drop (i * 8) block))) (unle (take 4 (drop (i * 8 + 4) block))) ≡ c.packed_word.result =
    ap₂ packed_word (sym c.le4_at-low.ensures) (sym c.le4_at-high.ensures) ∙ sym c.packed_word.ensures in
    let next : bytes_from a.block.now a.count i ≡ c.packed_word.result ∷ rest =
    words_next a.block.now a.count c.requires.2 c.requires.1 i (omega arith) ∙ ap (λ (b : ℕ). b ∷ rest) word in
    laying_store (map (number 2) (pieces 8 a.count a.block.now)) a.out.now a.to c.loop-i.out i c.packed_word.result rest (laying_is c.loop-i.invariant next)

pub returns : goal.returns
returns c =
    let a = c.args in
    let none : bytes_from a.block.now a.count c.loop-i.i ≡ [] = words_end a.block.now a.count c.requires.2 c.requires.1 c.loop-i.i (omega arith) in
    laying_ends (map (number 2) (pieces 8 a.count a.block.now)) a.out.now a.to c.loop-i.out c.loop-i.i (laying_is c.loop-i.invariant none)
