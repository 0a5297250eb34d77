-- `count_bytes` meets its contract: cell by cell (proofs/Walking).
-- Assumes nothing.
use mathlib.Core.Path.{◌≡◌, refl, sym, ◌∙◌, ap}
use Prim.Native.Nat.{ℕ, ◌+◌}
use native.Mathlib.Omega.{arith}
use mathlib.Core.Bool.{true, false}
use lib.ListN.{take, drop}
use Rattle.std.specs.Prelude.{Option, None, Some, is_some}
use Rattle.array.specs.Limits.{most_cells, most_bytes}
use Rattle.subset.proofs.Rows.{asked_few, asked_count}
use Rattle.subset.specs.Cells.{cells_of}
use mathlib.Core.List.{List}
use Rattle.array.specs.Cells.{Value}
use Rattle.decode_interleaved.specs.Walk.{total_of}
use Rattle.migrate_check.specs.Chunks.{stored_of}
use Rattle.migrate_cells.specs.Reading.{bytes_of, NextCell}
use Rattle.migrate_extract.specs.Asked.{values_asked}
use Rattle.migrate_extract.specs.Chunks.{place_for, chunk_given}
use Rattle.migrate_extract.proofs.Walking.{cell_long, read_small, walking_begins, walking_ends, walking_none, walking_whole, walking_some}
use Rattle.migrate_extract.proofs.Effects.{apart_asked, Any, each_any, count_left, count_one, asked_total, count_fits}
use Rattle.migrate_extract.proofs.chunk.count_bytes.Goals.{After-cell_of-cell, then-is_some, else-is_some}
use Rattle.migrate_extract.proofs.chunk.count_bytes.Goals as goal

pub begin_of-at-requires : goal.begin_of-at-requires
unfolding most_cells
begin_of-at-requires c = asked_few c.args.part.asked

next : (c : After-cell_of-cell) → NextCell (stored_of c.args.stored) c.args.part.count c.loop-i.i c.cell_of-cell.result.begin c.cell_of-cell.result.size c.loop-i.invariant.values
next c = c.cell_of-cell.ensures c.args.part.count c.loop-i.invariant.values c.loop-i-test.true c.loop-i.invariant.left

some_of : (o : Option ℕ) → true ≡ is_some o → (p : ℕ) × (o ≡ Some p)
some_of (Some p) e = (p, refl)
some_of None e = absurd (no e)
  where
    no : true ≡ false → ⊥
    no q = cc

none_of : (o : Option ℕ) → false ≡ is_some o → o ≡ None
none_of None e = refl
none_of (Some p) e = absurd (no e)
  where
    no : false ≡ true → ⊥
    no q = cc

pub loop-i-init : goal.loop-i-init
unfolding most_cells
loop-i-init c =
    walking_begins count_left Any (place_for c.args.asked) (stored_of c.args.stored) c.args.part.count (cells_of c.args.part) 0 (asked_few c.args.part.asked) c.requires.read c.begin_of-at.ensures
    (each_any _ _)

pub overflow_add-sum : goal.overflow_add-sum
unfolding most_bytes
overflow_add-sum c =
    let q = next (goal.at.overflow_add-sum c).After-cell_of-cell in
    let p = some_of c.asked_place.result c.if-is_some.ensures in
    let f = place_for c.args.asked in
    let js = cells_of c.args.part in
    let whole = walking_whole c.loop-i.invariant (asked_count c.args.part.asked) c.loop-i-test.true q p.0 (sym c.asked_place.ensures ∙ p.1) in
    omega (
      arith,
      count_fits c.loop-i.sum c.cell_of-cell.result.size (take c.cell_of-cell.result.size (drop c.cell_of-cell.result.begin (bytes_of (stored_of c.args.stored))))
          (values_asked f (drop (c.loop-i.i + 1) js) q.others) (cell_long q) whole,
      asked_total f js (chunk_given (stored_of c.args.stored) c.args.part.count),
      read_small (stored_of c.args.stored) c.args.part.count c.requires.read,
    )

pub loop-i-preserved : goal.loop-i-preserved
loop-i-preserved c =
    let q = next (goal.at.loop-i-preserved c).After-cell_of-cell in
    let w = c.loop-i.invariant in
    let n = asked_count c.args.part.asked in
    let e = sym c.asked_place.ensures in
    elim c.if-is_some.branch [
      | then-is_some b ↦
          let p = some_of c.asked_place.result b.if-is_some.ensures in
          rw b.sum-is (walking_some w n c.loop-i-test.true q p.0 (e ∙ p.1) _ (count_one c.loop-i.sum c.cell_of-cell.result.size _ (cell_long q) p.0))
      | else-is_some b ↦ rw b.sum-is (walking_none w n c.loop-i-test.true q (e ∙ none_of c.asked_place.result b.if-is_some.ensures))
    ]

pub returns : goal.returns
returns c = omega (arith, walking_ends c.loop-i.invariant (asked_count c.args.part.asked) c.loop-i-test.false)

pub returns-then-apart : goal.returns-then-apart
returns-then-apart c =
    let a = c.args in
    ap (λ (vs : List Value). total_of vs) (sym (apart_asked a.asked a.part c.requires.shape c.if-apart.ensures (stored_of a.stored)))
