-- `mask_unpack::all_words` meets its contract. The invariant: the first i numbers are the word.
-- Assumes nothing.
use mathlib.Core.Path.{◌≡◌}
use Prim.Native.Nat.{ℕ, ◌+◌, ◌*◌, ◌<◌}
use lib.ListN.{take, drop}
use Rattle.array.specs.Bytes.{unle}
use Rattle.mask_unpack.proofs.all_words.Given as goal

abbrev pub invariant-loop-i : goal.invariant-loop-i
invariant-loop-i l = (j : ℕ) → j < l.i → unle (take 8 (drop (l.at + j * 8) l.s)) ≡ l.word
