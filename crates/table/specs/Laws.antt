-- docs/SPEC.md, S13.11 to S13.15: what holds of working tables over several calls, outputs long enough.
-- Assumes nothing.
use Rattle.std.specs.Prelude.{ℕ, zero, suc, ◌*◌, ◌≤◌, ◌<◌, min, ◌≡◌, List, [], length, take, drop, eqb}
use Rattle.array.specs.Answer.{gives, map_answer}
use Rattle.array.specs.Limits.{most_bytes}
use Rattle.array.specs.Lists.{pick}
use Rattle.array.specs.Kind.{Kind}
use Rattle.array.specs.Cells.{Value}
use Rattle.array.specs.Content.{Content, ArrayOk, rest_form}
use Rattle.array.specs.Buffers.{lengths_of, Enough, content_outcome}
use Rattle.array.specs.Places.{sum}
use Rattle.table.specs.Table.{Table, cell_of, TableKind, CountOk, TableOk, most_store}
use Rattle.table.specs.Lying.{displaced, moved_cells}
use Rattle.table.specs.Setting.{SettingOk, setting_of, sum_after}
use Rattle.table.specs.declared.answer.TableLengths.{TableLengths}
use Rattle.table.specs.declared.answer.Preview.{Preview}
use Rattle.table.specs.Calls.{table_lengths, TableEnough, table_of, content_of, made, read_out, cell_set, looked_at, previewed, cells_packed}

-- a table that the calls accept
pub record Working (k : Kind) (n : ℕ) (t : Table) : Type 0 where
  pub kind : TableKind k
  pub count : CountOk n
  pub sound : TableOk k.depth n t
  pub small : length t.store ≤ most_store

-- what the caller has after a making: masks, starts and lengths up to those that success names, and the whole store that was lent
abbrev pub table_in : TableLengths → Table → Table
table_in r t = record { masks = take r.masks t.masks; starts = take r.starts t.starts; lengths = take r.lengths t.lengths; store = t.store }

-- ---- a valid array, made a table and read out: its rest form

pub record MakeLaw (k : Kind) (n : ℕ) (c : Content) (out : Table) : Type 0 where
  pub given : (made k n c out).answer ≡ gives (table_lengths (table_of n (rest_form k n c)))
  pub working : Working k n (table_in (table_lengths (table_of n (rest_form k n c))) (made k n c out).buffers)
  -- packed, in cell order
  pub packed : displaced (table_in (table_lengths (table_of n (rest_form k n c))) (made k n c out).buffers) n ≡ []
  pub returns : (into : Content) → Enough (rest_form k n c) (lengths_of into)
      → read_out k n (table_in (table_lengths (table_of n (rest_form k n c))) (made k n c out).buffers) into ≡ content_outcome (gives (rest_form k n c)) into

abbrev pub Makes : Type 0
Makes = (k : Kind) (n : ℕ) (c : Content) (out : Table) → TableKind k → CountOk n → ArrayOk k n c → length c.values ≤ most_bytes → length out.store ≤ most_store
    → TableEnough (table_of n (rest_form k n c)) (table_lengths out) → MakeLaw k n c out

-- ---- any working table read out is its own rest form

pub record ReadLaw (k : Kind) (n : ℕ) (t : Table) : Type 0 where
  pub given : (into : Content) → Enough (content_of k n t) (lengths_of into) → read_out k n t into ≡ content_outcome (gives (content_of k n t)) into
  pub rests : rest_form k n (content_of k n t) ≡ content_of k n t
  pub valid : ArrayOk k n (content_of k n t)

abbrev pub Reads : Type 0
Reads = (k : Kind) (n : ℕ) (t : Table) → Working k n t → ReadLaw k n t

-- ---- a setting changes the masks and the value of one cell

pub record SetLaw (k : Kind) (n : ℕ) (t : Table) (c : ℕ) (ms : List ℕ) (v : Value) : Type 0 where
  pub given : (cell_set k n t c ms v).answer ≡ gives tt
  pub working : Working k n (cell_set k n t c ms v).buffers
  pub cells : (j : ℕ) → j < n → cell_of k.depth n (cell_set k n t c ms v).buffers j ≡ pick (eqb j c) (setting_of k.depth ms v) (cell_of k.depth n t j)
  pub total : sum (cell_set k n t c ms v).buffers.lengths ≡ sum_after k.depth c (setting_of k.depth ms v) t

abbrev pub Sets : Type 0
Sets = (k : Kind) (n : ℕ) (t : Table) (c : ℕ) (ms : List ℕ) (v : Value) → Working k n t → SettingOk k.depth ms → c < n
    → sum_after k.depth c (setting_of k.depth ms v) t ≤ length t.store → SetLaw k n t c ms v

-- ---- a packing call moves cells and changes none

pub record PackLaw (k : Kind) (n : ℕ) (t : Table) (most : ℕ) : Type 0 where
  pub given : (cells_packed k n t most).answer ≡ gives (length (moved_cells most n t))
  pub working : Working k n (cells_packed k n t most).buffers
  pub cells : (j : ℕ) → j < n → cell_of k.depth n (cells_packed k n t most).buffers j ≡ cell_of k.depth n t j
  pub total : (cells_packed k n t most).buffers.lengths ≡ t.lengths
  -- those that are left to move
  pub left : displaced (cells_packed k n t most).buffers n ≡ drop most (displaced t n)

-- so many calls, with no setting between
abbrev pub packed_times : ℕ → Kind → ℕ → ℕ → Table → Table
packed_times zero k n most t = t
packed_times (suc q) k n most t = packed_times q k n most (cells_packed k n t most).buffers

pub record Packs : Type 0 where
  pub once : (k : Kind) (n : ℕ) (t : Table) (most : ℕ) → Working k n t → 1 ≤ most → most ≤ 256 → PackLaw k n t most
  -- r / most calls, rounded up, are the least q with r ≤ q × most
  pub whole : (k : Kind) (n : ℕ) (t : Table) (most q : ℕ) → Working k n t → 1 ≤ most → most ≤ 256 → length (displaced t n) ≤ q * most
      → displaced (packed_times q k n most t) n ≡ []

-- ---- a preview is the setting made on a copy, and a look there

pub record PreviewLaw (k : Kind) (n : ℕ) (t : Table) (c : ℕ) (ms : List ℕ) (v : Value) : Type 0 where
  -- refused by the same number, or by none
  pub refusal : map_answer (λ p. tt) (previewed k n t c ms v) ≡ (cell_set k n t c ms v).answer
  pub looks : (cell_set k n t c ms v).answer ≡ gives tt → previewed k n t c ms v ≡ gives (looked_at n (cell_set k n t c ms v).buffers)
  -- so many cells a packing call would move there, and at most as many as it is asked for
  pub packs : (p : Preview) (most : ℕ) → previewed k n t c ms v ≡ gives p → 1 ≤ most → most ≤ 256
      → (cells_packed k n (cell_set k n t c ms v).buffers most).answer ≡ gives (min most p.unpacked)

-- on all input
abbrev pub Previews : Type 0
Previews = (k : Kind) (n : ℕ) (t : Table) (c : ℕ) (ms : List ℕ) (v : Value) → PreviewLaw k n t c ms v
