-- A loop over the rows of a subset, or over the subsets of a list: what a turn is given, told of what the loop began with.
-- Assumes nothing.
use mathlib.Core.Path.{◌≡◌, sym, ap, ◌∙◌, subst}
use Prim.Native.Nat.{ℕ, ◌+◌, ◌≤◌}
use mathlib.Core.List.{List, [], ◌∷◌}
use lib.ListN.{length}
use Rattle.std.specs.Prelude.{Some}
use Rattle.array.specs.Subset.{pairs, subsets_of, cells_in}
use Rattle.subset.specs.Walk.{SubsetAsked, row_of, Left, RowAt}
use Rattle.subset.specs.Cells.{cells_of, subsets_in, RowsLeft, GivesRow, GivesPart}
use Rattle.subset.specs.declared.walk.Subset.{Subset}
use Rattle.subset.specs.declared.walk.Row.{Row}
use Rattle.subset.specs.declared.walk.Rows.{Rows}
use Rattle.subset.specs.declared.walk.Parts.{Parts}

-- ---- the rows of a subset

pub record RowStep (s : Subset) (old : Rows) (r : Row) (new : Rows) : Type 0 where
  pub row : RowAt s.shape.now s.lens.now (cells_of s) s.count old.at r.first r.cells
  pub here : r.at ≡ old.at
  pub on : new.at ≡ old.at + r.cells
  pub same : new.subset ≡ s

module _ (s : Subset) (old : Rows) (e : old.subset ≡ s) where
  pub row_step : (r : Row) (new : Rows) → GivesRow old (Some r) new → RowStep s old r new
  row_step r new g = record {
    row = subst (λ (t : Subset). RowAt t.shape.now t.lens.now (cells_of t) t.count old.at r.first r.cells) e g.0;
    here = g.1;
    same = g.2 ∙ e;
    on = g.3;
  }

  pub rows_end : old.subset.count ≤ old.at → s.count ≤ old.at
  rows_end g = subst (λ (t : Subset). t.count ≤ old.at) e g

-- a step may be taken where the rows from the place on are left
pub rows_left : (s : Subset) (rows : Rows) → rows.subset ≡ s → Left (cells_of s) s.count (row_of s.lens.now) rows.at → RowsLeft rows
rows_left s rows e g = subst (λ (t : Subset). Left (cells_of t) t.count (row_of t.lens.now) rows.at) (sym e) g

-- ---- the subsets of a list

pub record PartStep (sh : List ℕ) (old : Parts) (s : Subset) (new : Parts) : Type 0 where
  pub next : subsets_of (length sh) old.left.numbers.now ≡ pairs s.starts.now s.lens.now ∷ subsets_of (length sh) new.left.numbers.now
  pub asked : SubsetAsked sh s.starts.now s.lens.now s.count
  pub of : s.shape.now ≡ sh
  pub cells : cells_of s ≡ cells_in sh (pairs s.starts.now s.lens.now)
  pub same : new.left.shape.now ≡ sh

module _ (sh : List ℕ) (old : Parts) (e : old.left.shape.now ≡ sh) where
  pub part_step : (s : Subset) (new : Parts) → GivesPart old (Some s) new → PartStep sh old s new
  part_step s new g =
      let f : s.shape.now ≡ sh = g.1 ∙ e in
      record {
        next = subst (λ (x : List ℕ). subsets_of (length x) old.left.numbers.now ≡ pairs s.starts.now s.lens.now ∷ subsets_of (length x) new.left.numbers.now) e g.0;
        asked = subst (λ (x : List ℕ). SubsetAsked x s.starts.now s.lens.now s.count) f s.asked;
        of = f;
        cells = ap (λ (x : List ℕ). cells_in x (pairs s.starts.now s.lens.now)) f;
        same = g.2 ∙ e;
      }

  pub parts_end : subsets_in old.left ≡ [] → subsets_of (length sh) old.left.numbers.now ≡ []
  parts_end g = subst (λ (x : List ℕ). subsets_of (length x) old.left.numbers.now ≡ []) e g
