-- The laws' hypotheses can be met: the worked table of two chunks, moved in areas that are lent one after another, two of them too short; and read chunk by
-- chunk and merged, while one of them is moved.
-- Assumes nothing.
use Rattle.std.proofs.Common.{◌≡◌, refl, ap, ◌∙◌, List, [], ◌∷◌, ◌++◌, ℕ, zero, suc, ◌<◌, get_or, lit≤, lit<, inl, arith}
use Rattle.array.specs.Limits.{most_bytes, most_cells}
use Rattle.array.specs.Bytes.{le, unle}
use Rattle.array.specs.Kind.{as_bytes, as_bits, at_end}
use Rattle.array.specs.Cells.{Value}
use Rattle.array.specs.Content.{Content}
use Rattle.array.specs.Buffers.{lengths_of, Enough}
use Rattle.array.proofs.Rules.{numbers_ok}
use Rattle.codec.specs.Ragged.{put_ragged, get_ragged}
use Rattle.codec.specs.Values.{put_values, get_values}
use Rattle.codec.specs.Interleaved.{interleaved_cells, interleaved_values}
use Rattle.codec.specs.Older.{flat_kind}
use Rattle.chunks.specs.Chunks.{no_content}
use Rattle.chunks.specs.Lines.{old, lent, lent_ragged, gave}
use Rattle.migrate.specs.Live.{read_stored, read_chunks, chunk_values}
use Rattle.migrate.specs.Calls.{cut_values, migrate_extract, migrate_step_answer, migrate_step}
use Rattle.migrate.specs.Law.{CutLaw, Readable, steps, Migrates, Again, after, Lendable, successes, Tries}
use Rattle.migrate.specs.Meaning.{beside, read_chunk, read_then_merge, held_in, MeaningLaw}
use Rattle.migrate.specs.Lines.{start, first, all_cells, both}
use Rattle.migrate.proofs.Cuts.{cuts}
use Rattle.migrate.proofs.Law.{cut_stays, all_moved, try_again, any_tries}
use Rattle.migrate.proofs.Meaning.{meaning}
use Rattle.migrate.proofs.Lines.{lines}

-- what the chunks hold
abbrev held : List (List Value)
held = ((0x41 ∷ []) ∷ []) ∷ ((0x42 ∷ 0x43 ∷ []) ∷ []) ∷ []

readable : Readable (start 52) held
unfolding most_bytes most_cells unle interleaved_cells interleaved_values read_stored read_chunks chunk_values
readable = refl

readable_in_none : Readable (start 0) held
unfolding most_bytes most_cells unle interleaved_cells interleaved_values read_stored read_chunks chunk_values
readable_in_none = refl

pub cut : CutLaw (start 52) held all_cells
cut = cuts (start 52) held readable all_cells (numbers_ok (2 ∷ []) all_cells refl)

-- cell 0 of the cut lies in chunk 1
pub from_its_chunk : get_or (cut_values (start 52) all_cells held) 0 [] ≡ 0x42 ∷ 0x43 ∷ []
from_its_chunk = cut.cells 0 1 0 (lit< tt) (lit< tt) (lit< tt) refl

pub moved : Migrates (start 52) held
unfolding le put_ragged put_values
moved = all_moved (start 52) held readable (lit≤ tt)

pub then_cut : migrate_extract (steps 2 (start 52)) all_cells (lent_ragged 4 4) ≡ both
then_cut = cut_stays (start 52) 2 all_cells (lent_ragged 4 4) ∙ lines.cut_old

-- the second chunk met 6
pub longer : Again (after (start 50))
longer = try_again (after (start 50)) (ap (λ o. o.answer) lines.no_room)

-- four tries, of which the first and the third meet 6
abbrev areas : List (List ℕ)
areas = old 24 ∷ old 50 ∷ (first ++ old 25) ∷ (first ++ old 26) ∷ []

lendable : Lendable areas (start 0)
unfolding most_bytes most_cells le unle put_ragged get_ragged put_values get_values interleaved_cells interleaved_values read_stored read_chunks chunk_values migrate_step_answer migrate_step
lendable = (record { long = lit≤ tt; same = refl }, (record { long = lit≤ tt; same = refl }, (record { long = lit≤ tt; same = refl }, (record { long = lit≤ tt; same = refl }, tt))))

pub tries : Tries areas (start 0)
tries = any_tries (start 0) held readable_in_none areas lendable

pub two_succeeded : successes areas (start 0) ≡ 2
unfolding most_bytes most_cells le unle put_ragged get_ragged put_values get_values interleaved_cells interleaved_values read_stored read_chunks chunk_values migrate_step_answer migrate_step
two_succeeded = refl

-- ---- one chunk moved: both are read, each by its call, and merged with a kind of other masks, width and place

between : MeaningLaw (after (start 52)) held
between = meaning (start 52) held readable (old 52 ∷ []) (record { long = lit≤ tt; same = refl }, tt)

abbrev backs : List Content
backs = lent 0 2 3 ∷ lent 1 3 2 ∷ []

long_enough : (i : ℕ) → i < 2 → Enough (held_in held i) (lengths_of (get_or backs i no_content))
long_enough zero h = record { for_masks = lit≤ tt; for_values = lit≤ tt; for_offsets = lit≤ tt }
long_enough (suc zero) h = record { for_masks = lit≤ tt; for_values = lit≤ tt; for_offsets = lit≤ tt }
long_enough (suc (suc i)) h = absurd (omega arith)

-- the moved one by decode
pub moved_alone : read_chunk (after (start 52)) as_bytes 0 (lent 1 2 3) ≡ gave 0 1 2 [] (0x41 ∷ []) (0 ∷ 1 ∷ [])
moved_alone = between.reads as_bytes 0 (lit< tt) (lent 1 2 3)

pub then_merged : read_then_merge (after (start 52)) as_bytes (flat_kind as_bits 4 at_end) backs (lent 1 4 4) ≡ beside (old 1) both
then_merged =
    between.merges as_bytes as_bits 4 at_end (record { shallow = lit≤ tt; sound = inl refl }) backs (record { counted = refl; long = long_enough }) (lent 1 4 4)
    ∙ ap (beside (old 1)) lines.cut_between
