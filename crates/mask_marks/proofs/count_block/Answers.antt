-- `mask_marks::count_block` meets its contract: the sum of each byte's count is the count.
-- Assumes nothing.
use mathlib.Core.Path.{◌≡◌, refl, sym, ◌∙◌}
use Prim.Native.Nat.{ℕ}
use mathlib.Core.List.{[], ◌∷◌, map}
use Rattle.std.proofs.Common.{rules}
use Rattle.std.specs.List.{sum}
use Rattle.std.proofs.iter.runs.Made.{chains}
use Rattle.std.proofs.lemmas.List.Sums.{sum-map}
use Rattle.std.proofs.lemmas.List.Recursion.{is_sum_by}
use Rattle.codec.specs.Frame.{count_set}
use Rattle.codec.proofs.Marks.{count-cons}
use Rattle.mask_marks.proofs.count_block.Goals as goal

pub returns : goal.returns
returns c =
    let one : ℕ → ℕ = λ b. count_set (b ∷ []) in
    let block = c.args.block.now in
    let added : c.sum.result ≡ sum (map one block) = search (rules, chains) in
    added ∙ sum-map one block ∙ sym (is_sum_by count_set one refl count-cons block)
