-- `rise_from_zero` meets its contract. The invariant, Rises: the test of all offsets is the test of those that are left.
-- Assumes nothing.
use mathlib.Core.Path.{◌≡◌, sym, ap, ◌∙◌, subst}
use mathlib.Core.Bool.{Bool}
use mathlib.Core.List.{List}
use Prim.Native.Nat.{ℕ, suc, ◌+◌, ◌-◌, ◌*◌, ◌<◌}
use native.Mathlib.Omega.{arith}
use lib.ListN.{take, drop}
use Rattle.array.specs.Bytes.{unle}
use Rattle.array.specs.Offsets.{rising_test}
use Rattle.stored_index.specs.Index.{offsets_in}
use Rattle.stored_index.proofs.IndexLaws.{Rises, rises_falls, rises_more}
use Rattle.stored_index.proofs.rise_from_zero.Goals as goal
use Rattle.stored_index.proofs.rise_from_zero.Goals.{After-le_at-prev}

-- an offset read by its width, which w is
read_is : {v w width : ℕ} (s : List ℕ) (at : ℕ) → v ≡ unle (take width (drop at s)) → w ≡ width → v ≡ unle (take w (drop at s))
read_is s at e is = e ∙ ap (λ (x : ℕ). unle (take x (drop at s))) (sym is)

tested : ℕ → List ℕ → ℕ → ℕ → Bool
tested n s at w = rising_test (offsets_in w (suc n) (drop at s))

pub returns-then-next-prev : goal.returns-then-next-prev
unfolding tested
returns-then-next-prev c =
    let a = c.args in
    let some : 0 < a.n - 2 * c.loop-turn._turn = omega arith in
    rises_falls c.loop-turn.invariant some (read_is c.args.s.now (c.loop-turn.p + c.width_bytes-w.result) c.le_at-next.ensures c.width_bytes-w.ensures) c.if-next-prev.true
    ∙ ap (tested a.n a.s.now a.at) c.width_bytes-w.ensures

-- behind the first offset of a turn, and of the second one
first : (c : After-le_at-prev) → let w = c.width_bytes-w.result in
    Rises w c.args.n c.args.s.now c.args.at c.le_at-first.result c.le_at-next.result (c.loop-turn.p + w) (c.args.n - 2 * c.loop-turn._turn - 1)
first c =
    let some : 0 < c.args.n - 2 * c.loop-turn._turn = omega arith in
    rises_more c.loop-turn.invariant some (read_is c.args.s.now (c.loop-turn.p + c.width_bytes-w.result) c.le_at-next.ensures c.width_bytes-w.ensures) c.if-next-prev.false

second : (c : After-le_at-prev) → let w = c.width_bytes-w.result in c.le_at-prev.result ≡ unle (take w (drop (c.loop-turn.p + w + w) c.args.s.now))
second c = let w = c.width_bytes-w.result in read_is c.args.s.now (c.loop-turn.p + w + w) c.le_at-prev.ensures c.width_bytes-w.ensures

more : (c : After-le_at-prev) → 0 < c.args.n - 2 * c.loop-turn._turn - 1
more c = omega arith

pub returns-then-prev-next : goal.returns-then-prev-next
unfolding tested
returns-then-prev-next c =
    let a = c.args in
    let read = (goal.at.returns-then-prev-next c).After-le_at-prev in
    rises_falls (first read) (more read) (second read) c.if-prev-next.true ∙ ap (tested a.n a.s.now a.at) c.width_bytes-w.ensures

pub loop-turn-preserved : goal.loop-turn-preserved
loop-turn-preserved c =
    let a = c.args in
    let w = c.width_bytes-w.result in
    let read = (goal.at.loop-turn-preserved c).After-le_at-prev in
    let two : a.n - 2 * c.loop-turn._turn - 1 - 1 ≡ a.n - 2 * (c.loop-turn._turn + 1) = omega arith in
    subst (Rises w a.n a.s.now a.at c.le_at-first.result c.le_at-prev.result (c.loop-turn.p + w + w)) two
    (rises_more (first read) (more read) (second read) c.if-prev-next.false)
