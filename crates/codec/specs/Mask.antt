-- docs/SPEC.md, S4.6, S4.11 to S4.14: how a mask lies in stored bytes.
-- A form is its length for so many cells, the stored bytes that mask bytes are put into, the mask bytes that stored bytes say, and the test of
-- stored bytes with the number of its refusal.
-- Assumes nothing.
use Rattle.std.specs.Prelude.{ℕ, ◌+◌, ◌-◌, ◌*◌, ◌/◌, Bool, List, ◌++◌, map, length, take, drop, replicate, eqb}
use Rattle.array.specs.Answer.{Answer, gives, unless}
use Rattle.array.specs.Lists.{joined, pieces, every}
use Rattle.array.specs.Bytes.{digits, number}
use Rattle.array.specs.Kind.{Masks, as_bytes, as_bits}
use Rattle.array.specs.Cells.{strict_test, bit_of}

pub record MaskForm : Type 0 where
  pub size : ℕ → ℕ
  pub put : List ℕ → List ℕ
  pub said : List ℕ → ℕ → List ℕ
  pub test : List ℕ → ℕ → Bool
  pub refusal : ℕ

-- the mask bytes of n cells, got back from stored bytes or refused
abbrev pub get_mask : MaskForm → List ℕ → ℕ → Answer (List ℕ)
get_mask mf s n = unless (mf.test s n) mf.refusal (gives (mf.said s n))

-- ---- a byte a cell: one over 01 is 14

abbrev pub byte_mask : MaskForm
byte_mask = record { size = λ n. n; put = λ ms. ms; said = λ s n. s; test = λ s n. every strict_test s; refusal = 14 }

-- ---- a bit a cell, the lowest of a byte first

-- how many bytes n bits take
abbrev pub bytes_for : ℕ → ℕ
bytes_for n = (n + 7) / 8

-- the bits up to whole bytes: those after the last cell are 0
abbrev pub padded : List ℕ → List ℕ
padded bs = bs ++ replicate (bytes_for (length bs) * 8 - length bs) 0

abbrev pub pack_bits : List ℕ → List ℕ
pack_bits bs = map (number 2) (pieces 8 (bytes_for (length bs)) (padded bs))

-- all bits of the bytes
abbrev pub bits_of : List ℕ → List ℕ
bits_of s = joined (map (digits 2 8) s)

-- an unused bit that is not 0 is 13
abbrev pub packed_mask : MaskForm
packed_mask = record {
  size = bytes_for;
  put = λ ms. pack_bits (map bit_of ms);
  said = λ s n. take n (bits_of s);
  test = λ s n. every (eqb 0) (drop n (bits_of s));
  refusal = 13;
}

-- the form that a kind names
abbrev pub mask_form : Masks → MaskForm
mask_form as_bytes = byte_mask
mask_form as_bits = packed_mask
