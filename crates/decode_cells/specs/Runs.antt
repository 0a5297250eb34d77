-- Redundant by the laws set_run and null_run in decode_cells/proofs/RunLaws.antt: runs of cells that are all set, or all not.
-- Assumes nothing.
use Rattle.std.specs.Prelude.{ℕ, zero, suc, Bool, true, false, List, [], ◌∷◌}
use Rattle.std.specs.Bool.{beq}
use Rattle.array.specs.Cells.{set_test}

-- a cell of the run is one more than what follows, and another ends it
abbrev pub run_by : Bool → ℕ → ℕ
run_by true n = suc n
run_by false n = zero

-- how many bytes of a mask are all set, or all not, from the first on
abbrev pub mark_run : Bool → List ℕ → ℕ
mark_run set [] = zero
mark_run set (m ∷ p) = run_by (beq (set_test m) set) (mark_run set p)
