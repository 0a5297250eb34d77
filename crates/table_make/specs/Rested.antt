-- Redundant by the law rested_is in table_make/proofs/Rested.antt: the table of an array's rest form, packed in cell order (S6.18), by cell numbers.
-- Assumes nothing.
use Rattle.std.specs.Prelude.{ℕ, suc, ◌*◌, ◌≤◌, ◌≡◌, List, map, length}
use Rattle.array.specs.Answer.{Answer, map_answer, Outcome}
use Rattle.array.specs.Limits.{most_depth, most_cells}
use Rattle.array.specs.Lists.{pick, from, joined, passing}
use Rattle.array.specs.Offsets.{last, Rising}
use Rattle.array.specs.Content.{Content}
use Rattle.array.specs.Buffers.{if_room}
use Rattle.array.specs.Places.{offset_at, step_at, bytes_at, values_at, shown_at}
use Rattle.array.specs.Outcome.{content_array}
use Rattle.live_cells.specs.Live.{live_at}
use Rattle.encode_data.specs.declared.LiveOffsets.{LiveOffsets}
use Rattle.encode_data.specs.declared.LiveValues.{LiveValues}
use Rattle.rest_masks.specs.Rested.{rest_planes}
use Rattle.table.specs.Table.{Table}
use Rattle.table.specs.declared.answer.TableLengths.{TableLengths}
use Rattle.table.specs.Calls.{starts_at, table_lengths, table_enough_test, table_after}

-- ---- n cells of d levels: cell j has bytes where all its masks are set, and starts behind those of the cells before it

module _ (n : ℕ) (ms : List ℕ) (d : ℕ) (os : List ℕ) where
  abbrev pub size_at : ℕ → ℕ
  size_at j = pick (shown_at n ms d j) (step_at (offset_at os) j) 0

  abbrev pub start_at : ℕ → ℕ
  start_at j = starts_at (bytes_at (offset_at os) (passing (shown_at n ms d) (from 0 j))) (size_at j)

  abbrev pub rest_starts : List ℕ
  rest_starts = map start_at (from 0 n)

  abbrev pub rest_lengths : List ℕ
  rest_lengths = map size_at (from 0 n)

abbrev pub rest_store : ℕ → List ℕ → ℕ → List ℕ → List ℕ → List ℕ
rest_store n ms d os s = joined (values_at (offset_at os) s (live_at n ms d))

abbrev pub rest_table : ℕ → ℕ → Content → Table
rest_table d n c = record {
  masks = rest_planes n c.masks d;
  starts = rest_starts n c.masks d c.offsets;
  lengths = rest_lengths n c.masks d c.offsets;
  store = rest_store n c.masks d c.offsets c.values;
}

-- ---- the same of ragged values as the code holds them

abbrev pub starts_of : LiveOffsets → List ℕ
starts_of p = let l = p.live.level in rest_starts l.cells l.masks.now l.depth p.offsets.now

abbrev pub lengths_of : LiveOffsets → List ℕ
lengths_of p = let l = p.live.level in rest_lengths l.cells l.masks.now l.depth p.offsets.now

abbrev pub content_of : LiveValues → Content
content_of v = content_array v.places.live.level.masks.now v.values.now v.places.offsets.now

abbrev pub rest_of : LiveValues → Table
rest_of v = let l = v.places.live.level in rest_table l.depth l.cells (content_of v)

-- ---- a ragged array of n cells that keeps its rules

pub record Held (d n : ℕ) (c : Content) : Type 0 where
  pub shallow : d ≤ most_depth
  pub few : n ≤ most_cells
  pub masks_fit : length c.masks ≡ d * n
  pub counted : length c.offsets ≡ suc n
  pub rising : Rising c.offsets
  pub ended : last c.offsets ≡ length c.values

-- ---- a table laid into outputs that are long enough for it, else refusal 6

abbrev pub table_outcome : Answer Table → Table → Outcome TableLengths Table
table_outcome a old = record { answer = map_answer table_lengths a; buffers = table_after a old }

abbrev pub put_table : Table → Table → Outcome TableLengths Table
put_table t old = table_outcome (if_room (table_enough_test t (table_lengths old)) t) old
