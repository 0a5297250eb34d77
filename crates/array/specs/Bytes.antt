-- docs/SPEC.md, S4.1, S4.11: numbers as digits in any base, for any width. Bytes are digits in base 256, bits in base 2.
-- Assumes nothing.
use Rattle.std.specs.Prelude.{ℕ, zero, suc, ◌+◌, ◌*◌, ◌/◌, ◌%◌, ◌<◌, List, [], ◌∷◌}
use Rattle.array.specs.Lists.{All}

-- the w lowest digits of n in base b, the lowest first
abbrev pub digits : ℕ → ℕ → ℕ → List ℕ
digits b zero n = []
digits b (suc w) n = n % b ∷ digits b w (n / b)

-- the number whose digits these are
abbrev pub number : ℕ → List ℕ → ℕ
number b [] = 0
number b (d ∷ ds) = d + b * number b ds

-- the w lowest bytes of n, and the number whose bytes these are
unfoldable pub le : ℕ → ℕ → List ℕ
le w n = digits 256 w n

unfoldable pub unle : List ℕ → ℕ
unle s = number 256 s

-- each element is a byte, as in every slice of bytes
abbrev pub AllBytes : List ℕ → Type 0
AllBytes s = All (λ b. b < 256) s
