-- Redundant by the law apart_left in table_check/proofs/Checking.antt: the rules for a table (S13.2 to S13.4), one stage after another.
-- What mask planes that fall are, the law rests_are in table_check/proofs/Resting.antt says.
-- Assumes nothing.
use Rattle.std.specs.Prelude.{ℕ, ◌+◌, ◌-◌, ◌<◌, ◌^◌, Bool, ◌&&◌, List, length, get_or, leb, ltb}
use Rattle.array.specs.Lists.{from, every}
use Rattle.array.specs.Cells.{strict_test}
use Rattle.array.specs.Places.{offset_at}
use Rattle.table.specs.Table.{Table, or_zero_test, placed_test, fit_test, rests_test, places_test}

-- a mask byte is not over the one a plane before it
abbrev pub fall_at : ℕ → List ℕ → ℕ → Bool
fall_at n masks i = leb (get_or masks i 0) (get_or masks (i - n) 0)

abbrev pub falls_test : ℕ → List ℕ → Bool
falls_test n masks = every (fall_at n masks) (from n (length masks - n))

-- no bytes where the mask byte, from a place on, is 0
abbrev pub null_at : ℕ → List ℕ → List ℕ → ℕ → Bool
null_at at masks lengths j = or_zero_test (ltb 0 (get_or masks (at + j) 0)) (offset_at lengths j)

abbrev pub nulls_test : ℕ → ℕ → List ℕ → List ℕ → Bool
nulls_test n at masks lengths = every (null_at at masks lengths) (from 0 n)

-- a cell within a store of so many bytes
abbrev pub placed_at : ℕ → List ℕ → List ℕ → ℕ → Bool
placed_at size starts lengths j = placed_test size (offset_at starts j) (offset_at lengths j)

abbrev pub placed_in : ℕ → ℕ → List ℕ → List ℕ → Bool
placed_in size n starts lengths = every (placed_at size starts lengths) (from 0 n)

-- all rules but that the cells share no byte
abbrev pub cells_test : ℕ → ℕ → Table → Bool
cells_test d n t = fit_test d n t && every strict_test t.masks && rests_test d n t && places_test n t

-- a cell whose start and length are there, and whose end is a number of 64 bits
pub record Reached (starts lengths : List ℕ) (j : ℕ) : Type 0 where
  pub has_start : j < length starts
  pub has_length : j < length lengths
  pub ends_low : offset_at starts j + offset_at lengths j < 2 ^ 64
