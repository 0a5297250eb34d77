-- `check_ragged` meets its contract: the index that was found, and then the limit (IndexLaws).
-- Assumes nothing.
use Rattle.std.proofs.Common.{rules, Result, Ok}
use mathlib.Core.Path.{◌≡◌, sym, ap, ◌∙◌}
use mathlib.Core.Bool.{Bool}
use borrow.Author.Tests.{not-true, not-false}
use Rattle.array.specs.declared.refusal.Refusal.{Refusal}
use Rattle.array.specs.Answer.{Answer, gives, unless}
use Rattle.array.specs.Content.{size_test}
use Rattle.array.specs.Meaning.{width_of, place_of, told}
use Rattle.stored_index.specs.declared.Index.{Index}
use Rattle.stored_index.specs.Index.{checked_in}
use Rattle.stored_index.proofs.IndexLaws.{limited_index, found-limited}
use Rattle.stored_index.proofs.check_ragged.Goals as goal
use Rattle.stored_index.proofs.check_ragged.Goals.{After-find_index}

limits : (c : After-find_index) → let a = c.args in limited_index (told c.find_index.result) ≡ checked_in (width_of a.width) (place_of a.place) a.s.now a.at a.n
limits c = let a = c.args in ap limited_index c.find_index.ensures ∙ found-limited (width_of a.width) (place_of a.place) a.s.now a.at a.n

by_size : {r : Result Index Refusal} {i : Index} {answer : Answer Index} → limited_index (told r) ≡ answer → r ≡ Ok i → {b : Bool} → size_test i.last ≡ b
    → unless b 5 (gives i) ≡ answer
by_size {i = i} limits was e = ap (λ (t : Bool). unless t 5 (gives i)) (sym e) ∙ ap (λ r. limited_index (told r)) (sym was) ∙ limits

pub returns-then-too_large : goal.returns-then-too_large
returns-then-too_large c =
    by_size (limits (goal.at.returns-then-too_large c).After-find_index) c.in_ok-index.was
    (not-true (size_test c.in_ok-index.index.last) (sym c.too_large.ensures ∙ c.if-too_large.true))

pub returns-in_err-index : goal.returns-in_err-index
returns-in_err-index c =
    let e = ap (λ i. limited_index (told i)) (sym c.in_err-index.was) ∙ limits (goal.at.returns-in_err-index c).After-find_index in search rules

pub returns : goal.returns
returns c =
    by_size (limits (goal.at.returns c).After-find_index) c.in_ok-index.was
    (not-false (size_test c.in_ok-index.index.last) (sym c.too_large.ensures ∙ c.if-too_large.false))
