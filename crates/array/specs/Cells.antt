-- docs/SPEC.md, S1.5, S1.6, S1.11, S2.1, S2.2: cells, what a mask byte says, and the rest form of a cell.
-- A cell of depth d is its mask bytes, outermost first, and its value: by recursion on the depth, so that a cell of depth d + 1 is a mask byte
-- and a cell of depth d.
-- Assumes nothing.
use Rattle.std.specs.Prelude.{ℕ, zero, suc, ◌≤◌, Bool, true, false, List, [], ◌∷◌, map}

abbrev pub Value : Type 0
Value = List ℕ

abbrev pub Cell : ℕ → Type 0
Cell zero = Value
Cell (suc d) = ℕ × Cell d

-- what a mask byte says: 00 is null, 01 is set, and no other byte is one (docs/SPEC.md, S1.5, S1.11)
pub data Mark : Type 0 where
  is_null is_set is_other : Mark

abbrev pub mark_of : ℕ → Mark
mark_of zero = is_null
mark_of (suc zero) = is_set
mark_of (suc (suc m)) = is_other

-- the rule for a mask byte, and the test of it: refusal 4 of what is handed over, 14 of what is stored
abbrev pub Strict : ℕ → Type 0
Strict m = m ≤ 1

abbrev pub strict_by : Mark → Bool
strict_by is_null = true
strict_by is_set = true
strict_by is_other = false

abbrev pub strict_test : ℕ → Bool
strict_test m = strict_by (mark_of m)

abbrev pub set_test_by : Mark → Bool
set_test_by is_null = false
set_test_by is_set = true
set_test_by is_other = false

abbrev pub set_test : ℕ → Bool
set_test m = set_test_by (mark_of m)

-- the bit that a mask byte says
abbrev pub bit_by : Mark → ℕ
bit_by is_null = 0
bit_by is_set = 1
bit_by is_other = 0

abbrev pub bit_of : ℕ → ℕ
bit_of m = bit_by (mark_of m)

-- the mask bytes of the outermost level, and what stands below it
abbrev pub mask_of : {A : Type 0} → List (ℕ × A) → List ℕ
mask_of [] = []
mask_of (c ∷ cs) = c.0 ∷ mask_of cs

abbrev pub inners : {A : Type 0} → List (ℕ × A) → List A
inners cs = map (λ c. c.1) cs

-- the value of a cell
abbrev pub leaf : (d : ℕ) → Cell d → Value
leaf zero v = v
leaf (suc d) c = leaf d c.1

-- z is the value of a null cell
module _ (z : Value) where
  -- the cell below a null
  abbrev pub blank : (d : ℕ) → Cell d
  blank zero = z
  blank (suc d) = (zero, blank d)

  -- a mask byte stays; below a set one f goes on, below any other stands b
  abbrev pub rest_by : {A : Type 0} → Mark → A → (A → A) → ℕ → A → ℕ × A
  rest_by is_null b f m a = (zero, b)
  rest_by is_set b f m a = (m, f a)
  rest_by is_other b f m a = (m, b)

  abbrev pub rest_one : {A : Type 0} → A → (A → A) → ℕ → A → ℕ × A
  rest_one b f m a = rest_by (mark_of m) b f m a

  -- the rest form (S2.1, S2.2): a mask byte stays if all outer ones are set, else it is 0; the value stays if all masks are set
  abbrev pub rest : (d : ℕ) → Cell d → Cell d
  rest zero v = v
  rest (suc d) c = rest_one (blank d) (rest d) c.0 c.1
