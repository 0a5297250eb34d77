-- docs/SPEC.md, S10.56 to S10.62: a live table of two chunks worked out by hand, step by step, and the refusals in their order.
-- Cell 1 is "A" and lies in chunk 0; cell 0 is "BC" and lies in chunk 1, whose old string has a byte behind it.
-- Assumes nothing.
use Rattle.std.specs.Prelude.{ℕ, ◌≡◌, List, [], ◌∷◌, ◌++◌}
use Rattle.array.specs.Answer.{gives, refuses, Outcome}
use Rattle.array.specs.Content.{RaggedContent}
use Rattle.array.specs.declared.answer.RaggedLengths.{RaggedLengths}
use Rattle.chunks.specs.Lines.{u32, u64, old, lent_ragged, gave_ragged}
use Rattle.migrate.specs.Live.{LiveTable}
use Rattle.migrate.specs.Calls.{Progress, nothing, entered, Lent, migrate_extract, lent_of, migrate_step}
use Rattle.migrate.specs.Law.{after, with_area}

-- with such a count in the second chunk
abbrev pub old_strings : ℕ → List ℕ
old_strings n = u32 1 ++ (u32 1 ++ (0x41 ∷ (u32 n ++ (u32 2 ++ (0x42 ∷ 0x43 ∷ 0xFF ∷ [])))))

-- cell 1 before cell 0, or cell 1 twice
abbrev pub two_cells : List ℕ
two_cells = 1 ∷ 1 ∷ 0 ∷ 1 ∷ []

abbrev pub one_twice : List ℕ
one_twice = 1 ∷ 1 ∷ 1 ∷ 1 ∷ []

-- so many moved, with these lengths
abbrev pub table : List ℕ → List ℕ → List ℕ → ℕ → List ℕ → List ℕ → LiveTable
table subsets lengths strings m ls a = record {
  shape = 2 ∷ [];
  subsets = subsets;
  old_lengths = lengths;
  old = strings;
  moved = m;
  moved_lengths = ls;
  area = a;
}

-- none moved yet, an area of so many bytes, and any second list, which is not read past the number moved
abbrev pub start : ℕ → LiveTable
start a = table two_cells (9 ∷ 11 ∷ []) (old_strings 1) 0 (7 ∷ 7 ∷ []) (old a)

abbrev pub first : List ℕ
first = u64 16 ++ (u64 0 ++ (u64 1 ++ (0x41 ∷ [])))

abbrev pub second : List ℕ
second = u64 16 ++ (u64 0 ++ (u64 2 ++ (0x42 ∷ 0x43 ∷ [])))

abbrev pub stepped : ℕ → ℕ → List ℕ → List ℕ → Outcome Progress Lent
stepped bytes moved ls area = record { answer = gives (entered bytes moved); buffers = record { moved_lengths = ls; area = area } }

-- nothing is stored
abbrev pub stops : ℕ → LiveTable → Outcome Progress Lent
stops number t = record { answer = refuses number; buffers = lent_of t }

abbrev pub keeps : ℕ → RaggedContent → Outcome RaggedLengths RaggedContent
keeps number out = record { answer = refuses number; buffers = out }

abbrev pub all_cells : List ℕ
all_cells = 0 ∷ 2 ∷ []

abbrev pub both : Outcome RaggedLengths RaggedContent
both = gave_ragged 3 3 (0x42 ∷ 0x43 ∷ 0x41 ∷ []) (0 ∷ 2 ∷ 3 ∷ [])

pub record Lines : Type 0 where
  pub first_step : migrate_step (start 52) ≡ stepped 25 1 (25 ∷ 7 ∷ []) (first ++ old 27)
  pub second_step : migrate_step (after (start 52)) ≡ stepped 26 2 (25 ∷ 26 ∷ []) (first ++ (second ++ old 1))
  pub none_left : migrate_step (after (after (start 52)))
      ≡ record { answer = gives nothing; buffers = record { moved_lengths = 25 ∷ 26 ∷ []; area = first ++ (second ++ old 1) } }
  -- cells in row order, each from its chunk, before, between and after
  pub cut_old : migrate_extract (start 52) all_cells (lent_ragged 4 4) ≡ both
  pub cut_between : migrate_extract (after (start 52)) all_cells (lent_ragged 4 4) ≡ both
  pub cut_new : migrate_extract (after (after (start 52))) all_cells (lent_ragged 4 4) ≡ both
  pub cut_none : migrate_extract (start 52) (1 ∷ 0 ∷ []) (lent_ragged 0 2) ≡ record { answer = gives (record { values = 0; offsets = 1 }); buffers = record { values = []; offsets = 0 ∷ 0xEE ∷ [] } }
  pub cut_past : migrate_extract (start 52) (1 ∷ 2 ∷ []) (lent_ragged 4 4) ≡ keeps 3 (lent_ragged 4 4)
  -- too short an area is 6, and nothing is moved; tried again in a longer one that holds the same moved bytes it succeeds
  pub no_room : migrate_step (after (start 50)) ≡ stops 6 (after (start 50))
  pub again : migrate_step (with_area (after (after (start 50))) (first ++ old 26)) ≡ stepped 26 2 (25 ∷ 26 ∷ []) (first ++ second)
  -- every chunk is read at every call: an unreadable second one is 9 for a cut of the first's cell, and for a step of the first
  pub unreadable : migrate_extract (table two_cells (9 ∷ 11 ∷ []) (old_strings 2) 0 (7 ∷ 7 ∷ []) (old 52)) (1 ∷ 1 ∷ []) (lent_ragged 4 4) ≡ keeps 9 (lent_ragged 4 4)
  pub unreadable_step : migrate_step (table two_cells (9 ∷ 11 ∷ []) (old_strings 2) 0 (7 ∷ 7 ∷ []) (old 52))
      ≡ stops 9 (table two_cells (9 ∷ 11 ∷ []) (old_strings 2) 0 (7 ∷ 7 ∷ []) (old 52))
  -- a cell that runs on into the next chunk is 11; a moved string with a byte more than it has is 8
  pub runs_on : migrate_step (table two_cells (8 ∷ 12 ∷ []) (old_strings 1) 0 (7 ∷ 7 ∷ []) [])
      ≡ stops 11 (table two_cells (8 ∷ 12 ∷ []) (old_strings 1) 0 (7 ∷ 7 ∷ []) [])
  pub byte_more : migrate_step (table two_cells (9 ∷ 11 ∷ []) (old_strings 1) 1 (26 ∷ 7 ∷ []) (first ++ old 30))
      ≡ stops 8 (table two_cells (9 ∷ 11 ∷ []) (old_strings 1) 1 (26 ∷ 7 ∷ []) (first ++ old 30))
  -- 4 before 12, and 12 before any chunk: a short second list, old lengths that sum to less, three of two moved, moved lengths past the area
  pub short_list : migrate_step (table one_twice (9 ∷ 11 ∷ []) (old_strings 2) 0 (7 ∷ []) []) ≡ stops 4 (table one_twice (9 ∷ 11 ∷ []) (old_strings 2) 0 (7 ∷ []) [])
  pub bytes_left : migrate_step (table one_twice (9 ∷ 10 ∷ []) (old_strings 2) 0 (7 ∷ 7 ∷ []) [])
      ≡ stops 4 (table one_twice (9 ∷ 10 ∷ []) (old_strings 2) 0 (7 ∷ 7 ∷ []) [])
  pub three_moved : migrate_step (table one_twice (9 ∷ 11 ∷ []) (old_strings 2) 3 (0 ∷ 0 ∷ []) [])
      ≡ stops 4 (table one_twice (9 ∷ 11 ∷ []) (old_strings 2) 3 (0 ∷ 0 ∷ []) [])
  pub past_area : migrate_step (table one_twice (9 ∷ 11 ∷ []) (old_strings 2) 1 (25 ∷ 7 ∷ []) (old 24))
      ≡ stops 4 (table one_twice (9 ∷ 11 ∷ []) (old_strings 2) 1 (25 ∷ 7 ∷ []) (old 24))
  pub cell_twice : migrate_step (table one_twice (9 ∷ 11 ∷ []) (old_strings 2) 0 (7 ∷ 7 ∷ []) [])
      ≡ stops 12 (table one_twice (9 ∷ 11 ∷ []) (old_strings 2) 0 (7 ∷ 7 ∷ []) [])
  -- no chunks cover no cell
  pub no_chunks : migrate_step (table [] [] [] 0 [] []) ≡ stops 12 (table [] [] [] 0 [] [])
  pub bytes_of_none : migrate_step (table [] [] (0 ∷ []) 0 [] []) ≡ stops 4 (table [] [] (0 ∷ []) 0 [] [])
