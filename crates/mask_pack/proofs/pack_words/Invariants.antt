-- `mask_pack::pack_words` meets its contract. The invariant: the first i bytes lie there, and those of the other words are left.
-- Assumes nothing.
use mathlib.Core.List.{List, map}
use Prim.Native.Nat.{ℕ, ◌-◌, ◌*◌}
use lib.ListN.{drop}
use Rattle.array.specs.Lists.{pieces}
use Rattle.array.specs.Bytes.{number}
use Rattle.array.proofs.Laying.{Laying}
use Rattle.mask_pack.proofs.pack_words.Given as goal

abbrev pub bytes_from : List ℕ → ℕ → ℕ → List ℕ
bytes_from block count i = map (number 2) (pieces 8 (count - i) (drop (i * 8) block))

abbrev pub invariant-loop-i : goal.invariant-loop-i
invariant-loop-i l = Laying (map (number 2) (pieces 8 l.count l.block)) l.initial.out l.to l.out l.i (bytes_from l.block l.count l.i)
