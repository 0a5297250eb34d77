-- `mask_bits::bits::count_bits` meets its contract: the bytes of whole words and those after them (Ones).
-- Assumes nothing.
use mathlib.Core.Path.{◌≡◌, ap, ◌∙◌}
use Prim.Native.Nat.{ℕ, ◌+◌, ◌-◌, ◌*◌, ◌/◌}
use mathlib.Core.List.{List}
use native.Mathlib.Omega.{arith}
use lib.ListN.{take, drop}
use Rattle.std.proofs.Common.{rules}
use Rattle.mask_bits.specs.Bits.{bits_in}
use Rattle.mask_bits.proofs.Ones.{bits_parts}
use Rattle.mask_bits.proofs.bits.count_bits.Goals as goal

-- the bytes from `at` on, as the code cuts them
cut : (s : List ℕ) (at size whole : ℕ)
    → bits_in (take size (drop at s)) ≡ bits_in (take whole (take (at + size - at) (drop at s))) + bits_in (drop whole (take (at + size - at) (drop at s)))
cut s at size whole =
    let e : size ≡ at + size - at = omega arith in
    ap (λ (k : ℕ). bits_in (take k (drop at s))) e ∙ bits_parts (take (at + size - at) (drop at s)) whole

pub count_words-requires : goal.count_words-requires
count_words-requires c =
    let a = c.args in
    (search rules, omega (arith, cut a.s.now a.at a.size (a.size / 8 * 8), ap bits_in c.split_at.ensures.front, c.requires.1))

pub count_bytes-requires : goal.count_bytes-requires
count_bytes-requires c =
    let a = c.args in
    omega (arith, cut a.s.now a.at a.size (a.size / 8 * 8), ap bits_in c.split_at.ensures.back, c.requires.1)

pub overflow_add-result : goal.overflow_add-result
overflow_add-result c =
    let a = c.args in
    omega (arith, cut a.s.now a.at a.size (a.size / 8 * 8), ap bits_in c.split_at.ensures.front, ap bits_in c.split_at.ensures.back, c.requires.1)

pub returns : goal.returns
returns c =
    let a = c.args in
    omega (arith, cut a.s.now a.at a.size (a.size / 8 * 8), ap bits_in c.split_at.ensures.front, ap bits_in c.split_at.ensures.back)
