-- Redundant: no promise of a call rests on it, only the gate's programs do. How numbers, bytes and lists of them are shown.
use Rattle.std.specs.Prelude.{ℕ, zero, suc, ◌+◌, ◌-◌, ◌/◌, ◌%◌, Bool, cond, List, [], ◌∷◌, ◌++◌, length, codes, ltb, eqb}
use Rattle.std.specs.Fmt.{decimal}
use Rattle.print.specs.declared.Last.{Last}
use Rattle.print.specs.declared.Last.TheVariants.{Nothing, Plain, Run}

-- a hexadecimal digit, in upper case
unfoldable pub glyph_of : ℕ → ℕ
glyph_of d = cond (ltb d 10) (48 + d) (55 + d)

-- a byte
abbrev pub octet_text : ℕ → List ℕ
octet_text b = glyph_of (b / 16) ∷ (glyph_of (b % 16) ∷ [])

-- five and more equal elements are shown as a run, fewer one by one
unfoldable pub shown_of : ℕ → ℕ
shown_of n = cond (ltb n 5) 1 n

-- a part that shows n elements
abbrev pub part_of : ℕ → Last
part_of n = cond (eqb n 1) Plain Run

-- what joins a part to what stands before it
abbrev pub joint_of : List ℕ → Last → Last → List ℕ
joint_of joint Nothing next = []
joint_of joint Plain Plain = joint
joint_of joint Plain next = codes "+"
joint_of joint Run next = codes "+"

-- what stands before the element of a part that shows n of it
abbrev pub count_text : ℕ → List ℕ
count_text n = cond (eqb n 1) [] (decimal n ++ codes "*")

module _ {A : Type 0} (eq : A → A → Bool) where
  -- how many of the first elements equal x
  unfoldable pub equal_run : A → List A → ℕ
  equal_run x [] = zero
  equal_run x (y ∷ ys) = cond (eq y x) (suc (equal_run x ys)) zero

  -- how many elements at the front of a list are shown as one part
  unfoldable pub shown_part : List A → ℕ
  unfolding shown_of
  shown_part [] = 1
  shown_part (x ∷ xs) = shown_of (equal_run x (x ∷ xs))

  module _ (joint : List ℕ) (text : A → List ℕ) where
    -- the rest of a list behind a part of which it holds `left` elements more
    unfoldable pub text_after : Last → ℕ → List A → List ℕ
    text_after last left [] = []
    text_after last zero (x ∷ xs) =
        let n = shown_part (x ∷ xs) in
        joint_of joint last (part_of n) ++ (count_text n ++ (text x ++ text_after (part_of n) (n - 1) xs))
    text_after last (suc left) (x ∷ xs) = text_after last left xs

    -- a list
    abbrev pub list_text : List A → List ℕ
    list_text [] = codes "-"
    list_text (x ∷ xs) = text_after Nothing 0 (x ∷ xs)

module _ {A : Type 0} (joint : List ℕ) (text : A → List ℕ) where
  -- elements one by one, and what stands before the first
  abbrev pub each_text : List ℕ → List A → List ℕ
  each_text before [] = []
  each_text before (x ∷ xs) = before ++ (text x ++ each_text joint xs)

  -- equal elements
  abbrev pub equal_text : Last → List A → List ℕ
  equal_text last [] = []
  equal_text last (x ∷ xs) =
      let n = length (x ∷ xs) in
      cond (ltb n 5) (each_text (joint_of joint last Plain) (x ∷ xs)) (joint_of joint last Run ++ (decimal n ++ (codes "*" ++ text x)))

-- the last part of n equal elements
abbrev pub last_of : ℕ → Last
last_of n = cond (ltb n 5) Plain Run
