-- docs/SPEC.md, S10.1 to S10.11, S10.13 to S10.15, S10.19, S10.25 to S10.28, S10.31 to S10.35: the worked bytes marked proved, one table.
-- Over the calls and the buffers lent to them: every lent output is longer than its result by a byte or a number, so that what lies beyond is
-- seen to stay.
-- Assumes nothing.
use Rattle.std.specs.Prelude.{ℕ, ◌≡◌, List, [], ◌∷◌, ◌++◌, replicate, take}
use Rattle.array.specs.Answer.{gives, refuses, Outcome}
use Rattle.array.specs.Kind.{Kind, byte_kind, as_bits, fixed, ragged, little, big, at_start, at_end}
use Rattle.array.specs.Content.{Content, RaggedContent}
use Rattle.array.specs.declared.answer.Lengths.{Lengths}
use Rattle.array.specs.declared.answer.RaggedLengths.{RaggedLengths}
use Rattle.array.specs.Calls.{endianness_reversed, subset_cells}
use Rattle.codec.specs.Calls.{encoded, decoded, interleaved_decoded, interleaved_encoded}
use Rattle.chunks.specs.Calls.{extracted, merged}

-- ---- lent outputs, and what is left in them

abbrev pub old : ℕ → List ℕ
old n = replicate n 0xEE

abbrev pub lent : ℕ → ℕ → ℕ → Content
lent m v o = record { masks = old m; values = old v; offsets = old o }

abbrev pub lent_ragged : ℕ → ℕ → RaggedContent
lent_ragged v o = record { values = old v; offsets = old o }

-- bytes were written, one fewer than the output holds
abbrev pub wrote : ℕ → List ℕ → Outcome ℕ (List ℕ)
wrote n s = record { answer = gives n; buffers = s ++ old 1 }

abbrev pub gave : ℕ → ℕ → ℕ → List ℕ → List ℕ → List ℕ → Outcome Lengths Content
gave m v o ms vs os = record { answer = gives (record { masks = m; values = v; offsets = o }); buffers = record { masks = ms ++ old 1; values = vs ++ old 1; offsets = os ++ old 1 } }

abbrev pub gave_ragged : ℕ → ℕ → List ℕ → List ℕ → Outcome RaggedLengths RaggedContent
gave_ragged v o vs os = record { answer = gives (record { values = v; offsets = o }); buffers = record { values = vs ++ old 1; offsets = os ++ old 1 } }

abbrev pub array : List ℕ → List ℕ → List ℕ → Content
array ms vs os = record { masks = ms; values = vs; offsets = os }

-- ---- the inputs

-- 8-byte little-endian numbers below 256
abbrev pub u64 : ℕ → List ℕ
u64 n = n ∷ replicate 7 0

abbrev pub u32 : ℕ → List ℕ
u32 n = n ∷ replicate 3 0

abbrev pub depth1 : Kind
depth1 = byte_kind 1 (fixed 2 little)

abbrev pub six : List ℕ
six = 0x0A ∷ 0x0B ∷ 0x0C ∷ 0x0D ∷ 0x0E ∷ 0x0F ∷ []

abbrev pub bytes23 : List ℕ
bytes23 = u64 3 ++ (u64 4 ++ (1 ∷ 0 ∷ 1 ∷ 0x0A ∷ 0x0B ∷ 0x0E ∷ 0x0F ∷ []))

abbrev pub bytes19 : List ℕ
bytes19 = u64 3 ++ (u64 0 ++ (0 ∷ 0 ∷ 0 ∷ []))

-- any five bytes behind a mask with nothing set
abbrev pub bytes24 : ℕ → ℕ → ℕ → ℕ → ℕ → List ℕ
bytes24 a b c d e = u64 3 ++ (u64 5 ++ (0 ∷ 0 ∷ 0 ∷ a ∷ b ∷ c ∷ d ∷ e ∷ []))

abbrev pub big1 : Kind
big1 = byte_kind 1 (fixed 2 big)

abbrev pub bytes_big : List ℕ
bytes_big = u64 1 ++ (u64 2 ++ (1 ∷ 0x0B ∷ 0x0A ∷ []))

abbrev pub depth2 : Kind
depth2 = byte_kind 2 (fixed 1 little)

abbrev pub byte1 : Kind
byte1 = byte_kind 1 (fixed 1 little)

abbrev pub bytes38 : List ℕ
bytes38 = u64 3 ++ (u64 19 ++ (1 ∷ 1 ∷ 0 ∷ (u64 2 ++ (u64 1 ++ (1 ∷ 0 ∷ 7 ∷ [])))))

abbrev pub ragged_end : Kind
ragged_end = byte_kind 0 (ragged 4 at_end)

abbrev pub ragged_start : Kind
ragged_start = byte_kind 0 (ragged 8 at_start)

abbrev pub ab : Content
ab = array [] (0x41 ∷ 0x42 ∷ []) (0 ∷ 2 ∷ 2 ∷ [])

abbrev pub bytes22 : List ℕ
bytes22 = 0x41 ∷ 0x42 ∷ (u32 0 ++ (u32 2 ++ (u32 2 ++ u64 12)))

abbrev pub bytes34 : List ℕ
bytes34 = u64 24 ++ (u64 0 ++ (u64 2 ++ (u64 2 ++ (0x41 ∷ 0x42 ∷ []))))

abbrev pub late : Content
late = array [] (0x41 ∷ 0x42 ∷ []) (1 ∷ 2 ∷ [])

abbrev pub older : List ℕ
older = u32 2 ++ (u32 1 ++ (0x41 ∷ u32 0))

-- depth 1, size 1, with packed masks
abbrev pub packed1 : Kind
packed1 = record { depth = 1; masks = as_bits; form = fixed 1 little }

abbrev pub nine : List ℕ
nine = 1 ∷ 2 ∷ 3 ∷ 4 ∷ 5 ∷ 6 ∷ 7 ∷ 8 ∷ 9 ∷ []

-- cells 0, 2 and 8 are set
abbrev pub bytes21 : List ℕ
bytes21 = u64 2 ++ (u64 3 ++ (5 ∷ 1 ∷ 1 ∷ 3 ∷ 9 ∷ []))

abbrev pub index_ff : List ℕ
index_ff = replicate 8 0xFF

-- ---- the table

pub record Lines : Type 0 where
  -- depth 1, size 2, little order, mask 01 00 01, values 0A0B 0C0D 0E0F: 23 bytes; reads back with the middle value 00 00
  pub writes_23 : encoded depth1 (3 ∷ []) (array (1 ∷ 0 ∷ 1 ∷ []) six []) (old 24) ≡ wrote 23 bytes23
  pub reads_23 : decoded depth1 (3 ∷ []) bytes23 (lent 4 7 1) ≡ gave 3 6 0 (1 ∷ 0 ∷ 1 ∷ []) (0x0A ∷ 0x0B ∷ 0 ∷ 0 ∷ 0x0E ∷ 0x0F ∷ []) []
  -- the same with mask 00 00 00: 19 bytes; with content length 5 and any five bytes more it is 8
  pub writes_19 : encoded depth1 (3 ∷ []) (array (0 ∷ 0 ∷ 0 ∷ []) six []) (old 20) ≡ wrote 19 bytes19
  pub reads_19 : decoded depth1 (3 ∷ []) bytes19 (lent 4 7 1) ≡ gave 3 6 0 (0 ∷ 0 ∷ 0 ∷ []) (replicate 6 0) []
  pub hidden_content : (a b c d e : ℕ) → decoded depth1 (3 ∷ []) (bytes24 a b c d e) (lent 4 7 1) ≡ record { answer = refuses 8; buffers = lent 4 7 1 }
  -- depth 2, size 1, masks 01 01 00 and 01 00 01, values 07 08 09: 38 bytes; reads as 01 01 00, 01 00 00, 07 00 00
  pub writes_38 : encoded depth2 (3 ∷ []) (array (1 ∷ 1 ∷ 0 ∷ 1 ∷ 0 ∷ 1 ∷ []) (7 ∷ 8 ∷ 9 ∷ []) []) (old 39) ≡ wrote 38 bytes38
  pub reads_38 : decoded depth2 (3 ∷ []) bytes38 (lent 7 4 1) ≡ gave 6 3 0 (1 ∷ 1 ∷ 0 ∷ 1 ∷ 0 ∷ 0 ∷ []) (7 ∷ 0 ∷ 0 ∷ []) []
  -- ragged "AB", "", width 4, end: 22 bytes; width 8, start: 34 bytes
  pub writes_22 : encoded ragged_end (2 ∷ []) ab (old 23) ≡ wrote 22 bytes22
  pub writes_34 : encoded ragged_start (2 ∷ []) ab (old 35) ≡ wrote 34 bytes34
  -- offsets 1, 2 over 41 42: a cut and a writing are 4, and stored it is 10; data behind a last offset of 0 is 8, before the 10 of offsets that decrease
  pub late_cut : extracted ragged_end (1 ∷ []) (0 ∷ 1 ∷ []) late (lent 1 2 3) ≡ record { answer = refuses 4; buffers = lent 1 2 3 }
  pub late_written : encoded ragged_end (1 ∷ []) late (old 30) ≡ record { answer = refuses 4; buffers = old 30 }
  pub late_stored : decoded ragged_end (1 ∷ []) (0x41 ∷ 0x42 ∷ (u32 1 ++ (u32 2 ++ u64 8))) (lent 1 2 3) ≡ record { answer = refuses 10; buffers = lent 1 2 3 }
  pub hidden_data : decoded ragged_end (1 ∷ []) (0x41 ∷ (u32 0 ++ (u32 0 ++ u64 8))) (lent 1 2 3) ≡ record { answer = refuses 8; buffers = lent 1 2 3 }
  pub data_first : decoded ragged_end (1 ∷ []) (0x41 ∷ (u32 5 ++ (u32 0 ++ u64 8))) (lent 1 2 3) ≡ record { answer = refuses 8; buffers = lent 1 2 3 }
  pub then_offsets : decoded ragged_end (1 ∷ []) (u32 5 ++ (u32 0 ++ u64 8)) (lent 1 2 3) ≡ record { answer = refuses 10; buffers = lent 1 2 3 }
  -- also where all cells are empty, and in any chunk of a list
  pub empty_cells : extracted ragged_end (1 ∷ []) (0 ∷ 1 ∷ []) (array [] (0x41 ∷ []) (1 ∷ 1 ∷ [])) (lent 1 2 3) ≡ record { answer = refuses 4; buffers = lent 1 2 3 }
  pub late_chunk : merged ragged_end (2 ∷ []) (0 ∷ 1 ∷ 1 ∷ 1 ∷ []) (array [] (0x61 ∷ 0x62 ∷ 0x63 ∷ []) (0 ∷ 1 ∷ 1 ∷ 2 ∷ [])) (lent 0 3 4)
      ≡ record { answer = refuses 4; buffers = lent 0 3 4 }
  -- an inner frame behind a mask with nothing set is content
  pub hidden_frame : decoded depth2 (1 ∷ []) (u64 1 ++ (u64 17 ++ (0 ∷ (u64 1 ++ (u64 0 ++ (0 ∷ [])))))) (lent 3 2 1) ≡ record { answer = refuses 8; buffers = lent 3 2 1 }
  -- older form, 2 cells: "A" and "", also with a byte appended; its first 11 bytes: 7; a first length of 05: 11
  pub older_form : interleaved_decoded 2 older (lent_ragged 2 4) ≡ gave_ragged 1 3 (0x41 ∷ []) (0 ∷ 1 ∷ 1 ∷ [])
  pub older_tail : (b : ℕ) → interleaved_decoded 2 (older ++ (b ∷ [])) (lent_ragged 2 4) ≡ gave_ragged 1 3 (0x41 ∷ []) (0 ∷ 1 ∷ 1 ∷ [])
  pub older_short : interleaved_decoded 2 (take 11 older) (lent_ragged 2 4) ≡ record { answer = refuses 7; buffers = lent_ragged 2 4 }
  pub older_past : interleaved_decoded 2 (u32 2 ++ (u32 5 ++ (0x41 ∷ u32 0))) (lent_ragged 2 4) ≡ record { answer = refuses 11; buffers = lent_ragged 2 4 }
  -- shape 2 × 3, start (0, 1), lengths (2, 2): cells 1, 2, 4, 5; start (0, 2): refusal 3
  pub four_cells : subset_cells (2 ∷ 3 ∷ []) (0 ∷ 1 ∷ 2 ∷ 2 ∷ []) (old 5) ≡ wrote 4 (1 ∷ 2 ∷ 4 ∷ 5 ∷ [])
  pub past_shape : subset_cells (2 ∷ 3 ∷ []) (0 ∷ 2 ∷ 2 ∷ 2 ∷ []) (old 5) ≡ record { answer = refuses 3; buffers = old 5 }
  -- index length of eight FF: 8, at the start and at the end
  pub index_FF_start : decoded ragged_start (1 ∷ []) (index_ff ++ replicate 16 0) (lent 1 1 3) ≡ record { answer = refuses 8; buffers = lent 1 1 3 }
  pub index_FF_end : decoded ragged_end (1 ∷ []) (replicate 8 0 ++ index_ff) (lent 1 1 3) ≡ record { answer = refuses 8; buffers = lent 1 1 3 }
  -- size 3 on 01 02 03 04 05 06 07 gives 03 02 01 06 05 04 07 (S10.11)
  pub reversed_3 : endianness_reversed 3 (1 ∷ 2 ∷ 3 ∷ 4 ∷ 5 ∷ 6 ∷ 7 ∷ []) ≡ record { answer = gives 6; buffers = 3 ∷ 2 ∷ 1 ∷ 6 ∷ 5 ∷ 4 ∷ 7 ∷ [] }
  -- big order reverses a cell, and nothing else (S4.2)
  pub writes_big : encoded big1 (1 ∷ []) (array (1 ∷ []) (0x0A ∷ 0x0B ∷ []) []) (old 20) ≡ wrote 19 bytes_big
  pub reads_big : decoded big1 (1 ∷ []) bytes_big (lent 2 3 1) ≡ gave 1 2 0 (1 ∷ []) (0x0A ∷ 0x0B ∷ []) []
  -- S10.13 to S10.15: packed masks; a set cell reads as 01; a bit after the last cell that is set is 13, after the mask's length and before the content
  pub writes_packed : encoded packed1 (9 ∷ []) (array (1 ∷ 0 ∷ 1 ∷ 0 ∷ 0 ∷ 0 ∷ 0 ∷ 0 ∷ 1 ∷ []) nine []) (old 22) ≡ wrote 21 bytes21
  pub reads_packed : decoded packed1 (9 ∷ []) bytes21 (lent 10 10 1) ≡ gave 9 9 0 (1 ∷ 0 ∷ 1 ∷ 0 ∷ 0 ∷ 0 ∷ 0 ∷ 0 ∷ 1 ∷ []) (1 ∷ 0 ∷ 3 ∷ 0 ∷ 0 ∷ 0 ∷ 0 ∷ 0 ∷ 9 ∷ []) []
  pub unused_bit : decoded packed1 (1 ∷ []) (u64 1 ++ (u64 2 ++ (3 ∷ 7 ∷ 7 ∷ []))) (lent 1 1 0) ≡ record { answer = refuses 13; buffers = lent 1 1 0 }
  pub packed_long : decoded packed1 (1 ∷ []) (u64 2 ++ (u64 1 ++ (1 ∷ 2 ∷ 7 ∷ []))) (lent 1 1 0) ≡ record { answer = refuses 8; buffers = lent 1 1 0 }
  -- S10.19: the older form written; a first offset above 0 is 4; a depth above 0 or a fixed kind is 1, before the shape;
  -- masks at depth 0 are 4; a short output is 6
  pub writes_older : interleaved_encoded ragged_end (2 ∷ []) (array [] (0x41 ∷ []) (0 ∷ 1 ∷ 1 ∷ [])) (old 14) ≡ wrote 13 older
  pub older_late : interleaved_encoded (byte_kind 0 (ragged 4 at_start)) (1 ∷ []) late (old 10) ≡ record { answer = refuses 4; buffers = old 10 }
  pub older_depth : interleaved_encoded (byte_kind 1 (ragged 4 at_end)) [] (array [] [] []) (old 1) ≡ record { answer = refuses 1; buffers = old 1 }
  pub older_fixed : interleaved_encoded (byte_kind 0 (fixed 1 little)) (1 ∷ []) (array [] (7 ∷ []) []) (old 9) ≡ record { answer = refuses 1; buffers = old 9 }
  pub older_masks : interleaved_encoded ragged_end (1 ∷ []) (array (1 ∷ []) [] (0 ∷ 0 ∷ [])) (old 9) ≡ record { answer = refuses 4; buffers = old 9 }
  pub older_room : interleaved_encoded ragged_end (1 ∷ []) (array [] [] (0 ∷ 0 ∷ [])) (old 7) ≡ record { answer = refuses 6; buffers = old 7 }
  -- S10.25 to S10.28: a stored mask byte over 01 is 14, after the mask's length and before the content; handed over it is 4, hidden or not
  pub stored_02 : decoded byte1 (1 ∷ []) (u64 1 ++ (u64 1 ++ (2 ∷ 7 ∷ []))) (lent 1 1 0) ≡ record { answer = refuses 14; buffers = lent 1 1 0 }
  pub whole_mask_first : decoded depth2 (2 ∷ []) (u64 2 ++ (u64 1 ++ (1 ∷ 2 ∷ 0x78 ∷ []))) (lent 4 2 0) ≡ record { answer = refuses 14; buffers = lent 4 2 0 }
  pub hidden_02 : encoded depth2 (1 ∷ []) (array (0 ∷ 2 ∷ []) (7 ∷ []) []) (old 40) ≡ record { answer = refuses 4; buffers = old 40 }
  pub packed_02 : encoded packed1 (1 ∷ []) (array (2 ∷ []) (7 ∷ []) []) (old 40) ≡ record { answer = refuses 4; buffers = old 40 }
  pub cut_02 : extracted byte1 (2 ∷ []) (0 ∷ 1 ∷ []) (array (1 ∷ 2 ∷ []) (7 ∷ 8 ∷ []) []) (lent 1 1 0) ≡ record { answer = refuses 4; buffers = lent 1 1 0 }
  pub chunk_02 : merged byte1 (2 ∷ []) (0 ∷ 1 ∷ 0 ∷ 1 ∷ []) (array (1 ∷ 2 ∷ []) (7 ∷ 8 ∷ []) []) (lent 2 2 0) ≡ record { answer = refuses 4; buffers = lent 2 2 0 }
