-- Writing the values of a plane's cells in runs: a run of cells that are not set and one of set cells more.
-- Assumes nothing.
use mathlib.Core.Path.{◌≡◌, sym, ap, ◌∙◌}
use mathlib.Core.Bool.{true, false}
use mathlib.Core.List.{List}
use Prim.Native.Nat.{ℕ, ◌+◌, ◌*◌, ◌≤◌, ◌<◌}
use native.Mathlib.Omega.{arith}
use lib.ListN.{length, take, drop, replicate, length-drop}
use lib.Seq.{drop-drop}
use Rattle.array.specs.Kind.{Order}
use Rattle.array.specs.Buffers.{over_at}
use Rattle.codec.specs.Frame.{count_set}
use Rattle.codec.proofs.Marks.{count_block}
use Rattle.decode_words.proofs.ValueRuns.{cells_left}
use Rattle.decode_words.proofs.SpreadingValues.{SpreadingValues, values_nulls, values_sets}
use Rattle.decode_cells.specs.Runs.{mark_run}
use Rattle.decode_cells.proofs.RunLaws.{run_within, null_run, set_run, some_run}

module _ {size : ℕ} {o : Order} {p s d : List ℕ} {at cells : ℕ} {out : List ℕ} {i k : ℕ} (v : SpreadingValues size o p s d at cells out i k) {r : ℕ} where
  module _ (e : r ≡ mark_run false (drop i p)) where
    pub nulls_fit : i + r ≤ length p
    nulls_fit = omega (arith, run_within false (drop i p), length-drop i p, v.within)

    pub nulls_laid : {out' : List ℕ} → out' ≡ over_at (i * size) (replicate (r * size) 0) out → SpreadingValues size o p s d at cells out' (i + r) k
    nulls_laid {out'} eo = values_nulls v r nulls_fit (ap (λ (r : ℕ). count_set (take r (drop i p))) e ∙ null_run (drop i p)) eo

    pub sets_some : k < cells → {q : ℕ} → q ≡ mark_run true (drop (i + r) p) → 0 < q
    sets_some h eq =
        omega (arith, some_run (drop i p) (omega (arith, v.count)), ap (λ (r : ℕ). mark_run true (drop r (drop i p))) e, ap (mark_run true) (drop-drop r i p))

  module _ (e : r ≡ mark_run true (drop i p)) where
    set-count : count_set (take r (drop i p)) ≡ r
    set-count = ap (λ (r : ℕ). count_set (take r (drop i p))) e ∙ set_run (drop i p) ∙ sym e

    pub sets_fit : i + r ≤ length p
    sets_fit = omega (arith, run_within true (drop i p), length-drop i p, v.within)

    pub sets_stored : k + r ≤ cells
    sets_stored = omega (arith, v.count, count_block p i r, set-count)

    pub sets_laid : {out' : List ℕ} → out' ≡ over_at (i * size) (cells_left size o s r (at + k * size)) out → SpreadingValues size o p s d at cells out' (i + r) (k + r)
    sets_laid = values_sets v r sets_fit set-count
