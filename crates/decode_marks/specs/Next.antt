-- Redundant by the law values_cell in decode_words/proofs/SpreadingValues.antt: one cell of a plane, by its mark (S4.8).
-- What it gets, and where the next stored one is. In words: word_left there, and pair_is in decode_cells/proofs/PairLaws.antt.
-- Assumes nothing.
use Rattle.std.specs.Prelude.{ℕ, ◌+◌, ◌*◌, List, take, drop, replicate, ltb}
use Rattle.array.specs.Lists.{pick}
use Rattle.array.specs.Cells.{Mark, is_null, is_set, is_other}
use Rattle.array.specs.Kind.{Order, little, big, ordered}

-- x for a set cell, z for any other
abbrev pub if_set : {A : Type 0} → Mark → A → A → A
if_set is_null x z = z
if_set is_set x z = x
if_set is_other x z = z

-- a set cell takes the stored one at `at`, of so many bytes
abbrev pub next_at : Mark → ℕ → ℕ → ℕ
next_at m at size = if_set m (at + size) at

-- the value k of those that are stored from `at` on, or zero bytes behind them
abbrev pub word_at : ℕ → Order → List ℕ → ℕ → ℕ → ℕ → List ℕ
word_at size o s at k cells = pick (ltb k cells) (ordered o (take size (drop (at + k * size) s))) (replicate size 0)

-- which of a value's two words is its first
abbrev pub first_word : Order → ℕ
first_word little = 0
first_word big = 1
