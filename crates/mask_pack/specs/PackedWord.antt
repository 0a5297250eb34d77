-- Redundant by the law word_packed in mask_pack/proofs/Words.antt: the byte of eight mask bytes 00 and 01 (S4.11), from two halves.
-- Assumes nothing.
use Rattle.std.specs.Prelude.{ℕ, ◌+◌, ◌*◌, ◌/◌, ◌%◌}

-- the byte whose bits are the bytes of two halves of four, where these are 0 or 1
abbrev pub packed_word : ℕ → ℕ → ℕ
packed_word low high = (low % 4294967296 + 16 * (high % 4294967296)) * 16909320 / 16777216 % 256
