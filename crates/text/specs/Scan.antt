-- Redundant: no promise of a call rests on it, only the gate's programs do. What text says: digits, numbers and bytes, and parts of a list.
-- Assumes nothing.
use Rattle.std.specs.Prelude.{ℕ, ◌+◌, ◌-◌, ◌*◌, ◌^◌, ◌&&◌, Option, None, Some, List, [], ◌∷◌, length, take, drop, leb, ltb}
use Rattle.array.specs.Lists.{pick}

-- 0 to 9 and A to F
unfoldable pub digit_of : ℕ → Option ℕ
digit_of b = pick (ltb b 48) None (pick (ltb b 58) (Some (b - 48)) (pick (ltb b 65) None (pick (ltb b 71) (Some (b - 55)) None)))

abbrev pub go_on : Option ℕ → (ℕ → Option ℕ) → Option ℕ
go_on (Some v) f = f v
go_on None f = None

-- one more decimal digit behind a number, where 64 bits hold it
unfoldable pub next_number : ℕ → ℕ → Option ℕ
next_number v b = go_on (digit_of b) (λ d. pick (leb d 9 && ltb (v * 10 + d) (2 ^ 64)) (Some (v * 10 + d)) None)

unfoldable pub number_from : ℕ → List ℕ → Option ℕ
number_from v [] = Some v
number_from v (b ∷ bs) = go_on (next_number v b) (λ w. number_from w bs)

-- at least one digit
unfoldable pub number_of : List ℕ → Option ℕ
unfolding number_from
number_of [] = None
number_of (b ∷ bs) = number_from 0 (b ∷ bs)

-- exactly two hexadecimal digits
unfoldable pub octet_of : List ℕ → Option ℕ
octet_of (high ∷ (low ∷ [])) = go_on (digit_of high) (λ h. go_on (digit_of low) (λ l. Some (16 * h + l)))
octet_of _ = None

-- the elements between two places; none where these are no places of the list
unfoldable pub between : {A : Type 0} → ℕ → ℕ → List A → List A
between from to s = pick (leb from to) (pick (leb to (length s)) (take (to - from) (drop from s)) []) []
