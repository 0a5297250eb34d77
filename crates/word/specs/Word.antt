-- Redundant by the law word_eight in word/proofs/Words.antt: the sizes of a machine word.
-- Assumes nothing.
use Rattle.std.specs.Prelude.{ℕ, Bool, ◌||◌, eqb}

abbrev pub word_test : ℕ → Bool
word_test size = eqb size 1 || eqb size 2 || eqb size 4 || eqb size 8
