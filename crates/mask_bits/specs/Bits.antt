-- Redundant by the law count_left in mask_bits/proofs/Said.antt: how many bits of bytes are set (S4.11), the sum of each byte's set bits.
-- Assumes nothing.
use Rattle.std.specs.Prelude.{ℕ, ◌+◌, List, [], ◌∷◌}
use Rattle.codec.specs.Frame.{set_bits}

abbrev pub bits_in : List ℕ → ℕ
bits_in [] = 0
bits_in (b ∷ s) = set_bits b + bits_in s
