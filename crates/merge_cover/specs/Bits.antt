-- Redundant by the contract of `merge_cover::covers`, merge_cover/src/lib.rt: marks as the bits of 64-bit words.
-- Assumes nothing.
use Rattle.std.specs.Prelude.{ℕ, zero, suc, ◌/◌, ◌%◌, ◌^◌, List, [], ◌∷◌, ◌++◌, get_or, replicate}

-- k bits of a number, the lowest first
unfoldable pub bits_of : ℕ → ℕ → List ℕ
bits_of zero w = []
bits_of (suc k) w = w % 2 ∷ bits_of k (w / 2)

-- the marks that words hold
unfoldable pub marks_of : List ℕ → List ℕ
marks_of [] = []
marks_of (w ∷ ws) = bits_of 64 w ++ marks_of ws

-- the n bits from bit i on, which lie in one word, as a number
unfoldable pub bits_at : List ℕ → ℕ → ℕ → ℕ
bits_at ws i n = get_or ws (i / 64) 0 / 2 ^ (i % 64) % 2 ^ n

-- 65,536 bits, none of them set
unfoldable pub no_words : List ℕ
no_words = replicate 1024 0
