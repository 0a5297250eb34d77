-- How many cells of a word's size lie in a block of 32 bytes and a line of 64.
-- Assumes nothing.
use mathlib.Core.Path.{◌≡◌, refl}
use mathlib.Core.Bool.{true}
use Prim.Native.Nat.{ℕ, ◌+◌, ◌*◌, ◌/◌, ◌≤◌}
use native.Mathlib.Omega.{arith}
use Rattle.word.specs.Word.{word_test}
use Rattle.word.proofs.Words.{by_size}

pub word_some : (k : ℕ) → word_test k ≡ true → 1 ≤ k
word_some = by_size (λ k. 1 ≤ k) (omega arith) (omega arith) (omega arith) (omega arith)

-- a line of 64 bytes is two blocks of 32
pub word_line : (k : ℕ) → word_test k ≡ true → 64 / k ≡ 32 / k + 32 / k
word_line = by_size (λ k. 64 / k ≡ 32 / k + 32 / k) refl refl refl refl

pub word_block : (k : ℕ) → word_test k ≡ true → 32 / k * k ≡ 32
word_block = by_size (λ k. 32 / k * k ≡ 32) refl refl refl refl

pub lines_fit : (k : ℕ) → word_test k ≡ true → (n : ℕ) → n / 64 * (64 / k) ≤ n / k
lines_fit = by_size (λ k. (n : ℕ) → n / 64 * (64 / k) ≤ n / k) (λ n. omega arith) (λ n. omega arith) (λ n. omega arith) (λ n. omega arith)
