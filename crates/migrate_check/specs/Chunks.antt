-- Redundant by the contract of `migrate_check::check_table`, migrate_check/src/lib.rt: the strings of chunks (S16.1) as the code has them.
-- Assumes nothing.
use Rattle.std.specs.Prelude.{ℕ, List, [], ◌++◌, map, length, drop, get_or}
use Rattle.array.specs.Cells.{Value}
use Rattle.decode_interleaved.specs.Walk.{total_of}
use Rattle.migrate.specs.Live.{strings, Stored, older, newer}
use Rattle.migrate_check.specs.declared.stored.Stored as stored
use Rattle.migrate_check.specs.declared.stored.StoredChunks.{StoredChunks}

abbrev pub stored_of : stored.Stored → Stored
stored_of (stored.Stored.Older s) = older s.now
stored_of (stored.Stored.Newer s) = newer s.now

-- strings of these lengths, those of the first ones new
abbrev pub chunks_lying : (old_lengths old new_lengths area : List ℕ) → List Stored
chunks_lying ls old ms area = map newer (strings ms area) ++ map older (drop (length ms) (strings ls old))

abbrev pub chunks_in : StoredChunks → List Stored
chunks_in c = chunks_lying c.old_lengths.now c.old.now c.new_lengths.now c.area.now

-- how many value bytes the chunk of this number has, of those that were read
abbrev pub bytes_at : ℕ → List (List Value) → ℕ
bytes_at m vss = total_of (get_or vss m [])
