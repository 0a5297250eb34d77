-- `valid::masks::count_others` meets its contract: the sum of each byte's count is the count.
-- Assumes nothing.
use mathlib.Core.Path.{◌≡◌, refl, sym, ◌∙◌}
use Prim.Native.Nat.{ℕ}
use mathlib.Core.List.{map}
use Rattle.std.proofs.Common.{rules}
use Rattle.std.specs.List.{sum}
use Rattle.std.proofs.iter.runs.Made.{chains}
use Rattle.std.proofs.lemmas.List.Sums.{sum-map}
use Rattle.std.proofs.lemmas.List.Recursion.{is_sum_by}
use Rattle.array.specs.Others.{other_by, others}
use Rattle.array.specs.Cells.{mark_of}
use Rattle.valid.proofs.masks.count_others.Goals as goal

pub returns : goal.returns
returns c =
    let one : ℕ → ℕ = λ b. other_by (mark_of b) in
    let block = c.args.block.now in
    let added : c.sum.result ≡ sum (map one block) = search (rules, chains) in
    added ∙ sum-map one block ∙ sym (is_sum_by others one refl (λ _ _. refl) block)
