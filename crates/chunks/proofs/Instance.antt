-- Demand 3's hypotheses can be met: a ragged array of depth 2 with packed masks in a shape of 2 × 3, cut into two subsets, with an empty
-- Q. And those of partial_decode as decode, then extract: the 34 bytes of S10.5. And those of the older form's way: one cell of one byte.
-- And those of one stored form: the 21 bytes of S10.13, and what the table is written as.
-- Assumes nothing.
use mathlib.Core.Path.{◌≡◌, refl, ap}
use mathlib.Core.Logic.{inl, inr}
use Prim.Native.Nat.{ℕ, zero, suc, ◌<◌}
use native.Mathlib.Omega.{arith}
use mathlib.Core.List.{List, [], ◌∷◌, ◌++◌}
use lib.Dec.{lit≤, ltb}
use borrow.Author.Tests.{ltb-true}
use Rattle.array.specs.Answer.{gives, and_then, Outcome}
use Rattle.array.specs.Limits.{most_bytes, most_cells}
use Rattle.array.specs.Bytes.{le, unle}
use Rattle.array.specs.Kind.{Kind, as_bytes, as_bits, ragged, at_start, at_end}
use Rattle.array.specs.Content.{Content, Valid}
use Rattle.array.specs.declared.answer.Lengths.{Lengths}
use Rattle.array.specs.Buffers.{lengths_of, Enough, taken, whole}
use Rattle.array.proofs.Rules.{all_every}
use Rattle.codec.specs.Frame.{wrap, frame, read_frame}
use Rattle.codec.specs.Ragged.{put_ragged, get_ragged}
use Rattle.codec.specs.Values.{put_values, get_values}
use Rattle.codec.specs.Interleaved.{put_cells, put_interleaved}
use Rattle.codec.specs.Calls.{read_in, decode_answer, decoded, interleaved_decoded, interleaved_encoded}
use Rattle.codec.specs.Older.{flat_kind, OlderWay}
use Rattle.codec.specs.OneForm.{Reads, read_then_written}
use Rattle.codec.proofs.Older.{older_returns}
use Rattle.codec.proofs.OneForm.{written_again, success_reads}
use Rattle.chunks.specs.Calls.{extracted, partially_decoded}
use Rattle.chunks.specs.Demand.{Entry, EntryOk, Covers, subsets_in, whole_way}
use Rattle.chunks.specs.Lines.{lent, lent_ragged, old, wrote, gave_ragged, u32, u64, packed1, bytes21, bytes34, array}
use Rattle.chunks.specs.ReadThenCut.{without_masks, read_then_cut, LongEnough}
use Rattle.chunks.proofs.Demand.{demand3}
use Rattle.chunks.proofs.Lines.{lines}
use Rattle.chunks.proofs.ReadThenCut.{partial_decode}

abbrev kind : Kind
kind = record { depth = 2; masks = as_bits; form = ragged 4 at_end }

abbrev shape : List ℕ
shape = 2 ∷ 3 ∷ []

-- cell 1 is null at the outer level, cell 2 at the inner one
abbrev table : Content
table = record {
  masks = 1 ∷ 0 ∷ 1 ∷ 1 ∷ 1 ∷ 1 ∷ 1 ∷ 1 ∷ 0 ∷ 1 ∷ 1 ∷ 1 ∷ [];
  values = 1 ∷ 2 ∷ 3 ∷ 4 ∷ 5 ∷ 6 ∷ [];
  offsets = 0 ∷ 1 ∷ 2 ∷ 3 ∷ 3 ∷ 5 ∷ 6 ∷ [];
}

-- the columns 1 and 2, and the column 0, each with the outputs lent on its way
abbrev wide : Entry
wide = record { subset = 0 ∷ 1 ∷ 2 ∷ 2 ∷ []; cut = lent 8 5 5; stored = old 70; back = lent 12 9 9 }

abbrev narrow : Entry
narrow = record { subset = 0 ∷ 0 ∷ 2 ∷ 1 ∷ []; cut = lent 4 2 3; stored = old 60; back = lent 4 2 3 }

abbrev entries : List Entry
entries = wide ∷ narrow ∷ []

-- the rest form: the cells 1 and 2 have lost their values, and cell 1 its inner mask
abbrev resting : Content
resting = record {
  masks = 1 ∷ 0 ∷ 1 ∷ 1 ∷ 1 ∷ 1 ∷ 1 ∷ 0 ∷ 0 ∷ 1 ∷ 1 ∷ 1 ∷ [];
  values = 1 ∷ 4 ∷ 5 ∷ 6 ∷ [];
  offsets = 0 ∷ 1 ∷ 1 ∷ 1 ∷ 1 ∷ 3 ∷ 4 ∷ [];
}

valid : Valid kind shape table
unfolding most_bytes most_cells
valid = record {
  kind = record { shallow = lit≤ tt; sound = inl refl };
  shaped = record { some_sides = lit≤ tt; few_sides = lit≤ tt; sides = omega arith; few_cells = lit≤ tt };
  content = record { fits = record { masks_fit = refl; values_fit = (refl, (refl, omega arith), refl) }; strict = omega arith };
  small = lit≤ tt;
}

wide_ok : EntryOk kind shape table wide
unfolding frame put_values put_ragged wrap le
wide_ok = record {
  numbers = record { counted = refl; fits = omega arith };
  full = omega arith;
  cut_enough = record { for_masks = lit≤ tt; for_values = lit≤ tt; for_offsets = lit≤ tt };
  carried = omega arith;
  stored_enough = lit≤ tt;
  back_enough = record { for_masks = lit≤ tt; for_values = lit≤ tt; for_offsets = lit≤ tt };
}

narrow_ok : EntryOk kind shape table narrow
unfolding frame put_values put_ragged wrap le
narrow_ok = record {
  numbers = record { counted = refl; fits = omega arith };
  full = omega arith;
  cut_enough = record { for_masks = lit≤ tt; for_values = lit≤ tt; for_offsets = lit≤ tt };
  carried = omega arith;
  stored_enough = lit≤ tt;
  back_enough = record { for_masks = lit≤ tt; for_values = lit≤ tt; for_offsets = lit≤ tt };
}

covers : Covers shape (subsets_in shape entries)
covers zero h = refl
covers (suc zero) h = refl
covers (suc (suc zero)) h = refl
covers (suc (suc (suc zero))) h = refl
covers (suc (suc (suc (suc zero)))) h = refl
covers (suc (suc (suc (suc (suc zero))))) h = refl
covers (suc (suc (suc (suc (suc (suc i)))))) h = absurd (omega arith)

enough : Enough resting (lengths_of (lent 12 4 7))
enough = record { for_masks = lit≤ tt; for_values = lit≤ tt; for_offsets = lit≤ tt }

-- the outcome of the merge
pub outcome : whole_way kind shape table entries (lent 12 4 7) ≡ gives (whole resting)
outcome = (demand3 kind shape table valid entries (wide_ok, (narrow_ok, tt)) covers (lent 12 4 7) enough).0

-- an empty Q past the last column: no masks, no values, the one offset 0
pub empty_cut : and_then (whole_way kind shape table entries (lent 12 4 7)) (λ m. taken (extracted kind shape (0 ∷ 3 ∷ 2 ∷ 0 ∷ []) m.content (lent 0 0 1)))
    ≡ gives (whole (record { masks = []; values = []; offsets = 0 ∷ [] }))
empty_cut =
    (demand3 kind shape table valid entries (wide_ok, (narrow_ok, tt)) covers (lent 12 4 7) enough).1
    (0 ∷ 3 ∷ 2 ∷ 0 ∷ []) (record { counted = refl; fits = omega arith }) (lent 0 0 1)
    (record { for_masks = lit≤ tt; for_values = lit≤ tt; for_offsets = lit≤ tt })

-- the first of the two cells of the 34 bytes

abbrev first_of_two : List ℕ
first_of_two = 0 ∷ 1 ∷ []

long_enough : LongEnough 8 at_start (2 ∷ []) bytes34 (lent 0 2 3)
unfolding most_bytes most_cells unle get_ragged get_values read_frame read_in decode_answer decoded
long_enough e = let never : ◌≡◌ {A = ℕ} 0 1 = cc in omega arith

pub first_cell : partially_decoded 8 at_start (2 ∷ []) first_of_two bytes34 (lent_ragged 3 3) ≡ without_masks (read_then_cut 8 at_start (2 ∷ []) bytes34 first_of_two (lent 0 2 3) (lent 0 3 3))
first_cell = (partial_decode 8 at_start (inr refl) (2 ∷ []) bytes34 (lent 0 2 3) long_enough first_of_two (lent 0 3 3)).else_equal (λ sh. record { counted = refl; fits = omega arith })

-- one cell in the older form: written, and read again

abbrev flat : Kind
flat = flat_kind as_bytes 4 at_start

abbrev one : Content
one = array [] (0x42 ∷ []) (0 ∷ 1 ∷ [])

one_valid : Valid flat (1 ∷ []) one
unfolding most_bytes most_cells
one_valid = record {
  kind = record { shallow = lit≤ tt; sound = inl refl };
  shaped = record { some_sides = lit≤ tt; few_sides = lit≤ tt; sides = omega arith; few_cells = lit≤ tt };
  content = record { fits = record { masks_fit = refl; values_fit = (refl, (refl, omega arith), refl) }; strict = tt };
  small = lit≤ tt;
}

older_way : OlderWay flat (1 ∷ []) one (old 10) (lent_ragged 2 3)
older_way = older_returns as_bytes 4 at_start (1 ∷ []) one one_valid (omega arith) (old 10) (lit≤ tt) (lent_ragged 2 3) (record { for_values = lit≤ tt; for_offsets = lit≤ tt })

pub older_written : interleaved_encoded flat (1 ∷ []) one (old 10) ≡ wrote 9 (u32 1 ++ (u32 1 ++ (0x42 ∷ [])))
unfolding le put_cells put_interleaved
older_written = older_way.writes

pub older_read : interleaved_decoded 1 (u32 1 ++ (u32 1 ++ (0x42 ∷ []))) (lent_ragged 2 3) ≡ gave_ragged 1 2 (0x42 ∷ []) (0 ∷ 1 ∷ [])
unfolding le put_cells put_interleaved
older_read = older_way.reads

-- accepted bytes, read and written again: the 21 bytes of S10.13, and what the table is written as

pub packed_again : read_then_written packed1 (9 ∷ []) bytes21 (lent 10 10 1) (old 22) ≡ gives (wrote 21 bytes21)
packed_again =
    written_again packed1 (9 ∷ []) bytes21 (lent 10 10 1)
    (success_reads packed1 (9 ∷ []) bytes21 (lent 10 10 1) (omega arith) (ap (λ (o : Outcome Lengths Content). o.answer) lines.reads_packed)) (old 22) (lit≤ tt)

-- outer mask 3D, inner mask 1D, and four values with their index at the end
abbrev bytes66 : List ℕ
bytes66 = u64 1 ++ (u64 49 ++ (0x3D ∷ (u64 1 ++ (u64 32 ++ (0x1D ∷ 1 ∷ 4 ∷ 5 ∷ 6 ∷ (u32 0 ++ (u32 1 ++ (u32 1 ++ (u32 3 ++ (u32 4 ++ u64 20))))))))))

reads_66 : Reads kind shape bytes66 (lent 13 5 8)
unfolding most_bytes most_cells unle get_ragged get_values read_frame read_in decode_answer decoded
reads_66 = success_reads kind shape bytes66 (lent 13 5 8) {n = lengths_of resting} (all_every (λ b. b < 256) (λ b. ltb b 256) (λ b. ltb-true b 256) bytes66 refl) refl

pub table_again : read_then_written kind shape bytes66 (lent 13 5 8) (old 67) ≡ gives (wrote 66 bytes66)
table_again = written_again kind shape bytes66 (lent 13 5 8) reads_66 (old 67) (lit≤ tt)
