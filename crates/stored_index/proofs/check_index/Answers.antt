-- `check_index` meets its contract: each answer by what was found (IndexLaws).
-- Assumes nothing.
use mathlib.Core.Path.{◌≡◌, sym, ap, ◌∙◌}
use mathlib.Core.List.{List}
use Prim.Native.Nat.{ℕ, suc, ◌+◌, ◌*◌}
use native.Mathlib.Omega.{arith}
use lib.ListN.{take, drop}
use borrow.Author.Tests.{not-true, not-false}
use Rattle.array.specs.Answer.{map_answer}
use Rattle.array.specs.Bytes.{unle}
use Rattle.array.specs.Meaning.{width_of}
use Rattle.array.specs.Offsets.{last}
use Rattle.stored_index.specs.Index.{offsets_in, index_with}
use Rattle.stored_index.proofs.IndexLaws.{last_at, by_data, by_rising, by_last}
use Rattle.stored_index.proofs.check_index.Goals as goal
use Rattle.stored_index.proofs.check_index.Goals.{After-le_at-last}

abbrev offsets : After-le_at-last → List ℕ
offsets c = let a = c.args in offsets_in (width_of a.width) (suc a.n) (drop a.index a.s.now)

last_is : (c : After-le_at-last) → c.le_at-last.result ≡ last (offsets c)
last_is c =
    let a = c.args in
    let width : ℕ = width_of a.width in
    let times_is : a.n * c.width_bytes-w.result ≡ a.n * width = ap (λ (x : ℕ). a.n * x) c.width_bytes-w.ensures in
    last_at width a.n a.s.now a.index (c.le_at-last.ensures ∙ ap (λ (x : ℕ). unle (take width (drop (a.index + x) a.s.now))) times_is)

pub returns-then-last-count : goal.returns-then-last-count
returns-then-last-count c =
    let a = c.args in
    let read = (goal.at.returns-then-last-count c).After-le_at-last in
    ap (map_answer (index_with a.n a.index a.from)) (by_data (offsets read) a.count (last_is read) (λ e. absurd (omega (arith, c.if-last-count.true))))

pub returns-then-not-rise_from_zero : goal.returns-then-not-rise_from_zero
returns-then-not-rise_from_zero c =
    let a = c.args in
    let read = (goal.at.returns-then-not-rise_from_zero c).After-le_at-last in
    ap (map_answer (index_with a.n a.index a.from)) (by_rising (offsets read) a.count (last_is read) (omega (arith, c.if-last-count.false))
    (sym c.rise_from_zero.ensures ∙ not-true c.rise_from_zero.result c.if-not-rise_from_zero.true-raw))

pub returns : goal.returns
returns c =
    let a = c.args in
    let read = (goal.at.returns c).After-le_at-last in
    ap (map_answer (index_with a.n a.index a.from)) (by_last (offsets read) a.count (last_is read) (omega (arith, c.if-last-count.false))
    (sym c.rise_from_zero.ensures ∙ not-false c.rise_from_zero.result c.if-not-rise_from_zero.false-raw))
