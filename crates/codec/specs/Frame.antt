-- docs/SPEC.md, S4.6 to S4.8, S7.6 to S7.8: frames. Mask length, content length, mask, content.
-- The content covers only the cells set in the mask, as a frame of the next level, or, at the innermost, as values, which `w` writes and `r`
-- reads. mf is how the mask lies in bytes.
-- Assumes nothing.
use Rattle.std.specs.Prelude.{ℕ, zero, suc, ◌+◌, List, [], ◌∷◌, ◌++◌, length, take, drop, leb, eqb}
use Rattle.array.specs.Answer.{Answer, gives, and_then, unless}
use Rattle.array.specs.Bytes.{digits, le, unle}
use Rattle.array.specs.Cells.{Value, Cell, Mark, is_null, is_set, is_other, mark_of, mask_of, blank}
use Rattle.codec.specs.Mask.{MaskForm, get_mask}

-- ---- the cells that are set

-- a cell that is set comes before the rest, and one that is not is left out
abbrev pub keep_by : {A : Type 0} → Mark → A → List A → List A
keep_by is_null a r = r
keep_by is_set a r = a ∷ r
keep_by is_other a r = r

abbrev pub keep_one : {A : Type 0} → ℕ → A → List A → List A
keep_one m a r = keep_by (mark_of m) a r

-- what stands below the set mask bytes
abbrev pub keep : {A : Type 0} → List (ℕ × A) → List A
keep [] = []
keep (c ∷ cs) = keep_one c.0 c.1 (keep cs)

-- how many mask bytes are set
abbrev pub count_by : Mark → ℕ → ℕ
count_by is_null n = n
count_by is_set n = suc n
count_by is_other n = n

abbrev pub count_set : List ℕ → ℕ
count_set [] = zero
count_set (m ∷ ms) = count_by (mark_of m) (count_set ms)

-- how many bits of a byte are set
abbrev pub set_bits : ℕ → ℕ
set_bits b = count_set (digits 2 8 b)

-- the other way round: a set mask byte takes the next of the list, and below any other stands b
abbrev pub next_by : {A : Type 0} → Mark → A → List A → A
next_by is_null b xs = b
next_by is_set b [] = b
next_by is_set b (a ∷ xs) = a
next_by is_other b xs = b

-- what it leaves of the list
abbrev pub left_by : {A : Type 0} → Mark → List A → List A
left_by is_null xs = xs
left_by is_set [] = []
left_by is_set (a ∷ xs) = xs
left_by is_other xs = xs

-- each mask byte and what stands below it
abbrev pub expand : {A : Type 0} → A → List ℕ → List A → List (ℕ × A)
expand b [] xs = []
expand b (m ∷ ms) xs = (m, next_by (mark_of m) b xs) ∷ expand b ms (left_by (mark_of m) xs)

-- ---- writing

unfoldable pub wrap : List ℕ → List ℕ → List ℕ
unfolding le
wrap mask content = le 8 (length mask) ++ (le 8 (length content) ++ (mask ++ content))

-- f of the list, and nothing for no elements
abbrev pub unless_none : {A : Type 0} → (List A → List ℕ) → List A → List ℕ
unless_none f [] = []
unless_none f (a ∷ xs) = f (a ∷ xs)

unfoldable pub frame : MaskForm → (List Value → List ℕ) → (d : ℕ) → List (Cell d) → List ℕ
unfolding wrap
frame mf w zero cs = w cs
frame mf w (suc d) cs = wrap (mf.put (mask_of cs)) (unless_none (frame mf w d) (keep cs))

-- ---- reading

-- content of c bytes for so many cells: with no cell set it must be empty
abbrev pub content_of : {A : Type 0} → ℕ → ℕ → (ℕ → Answer (List A)) → Answer (List A)
content_of c zero f = unless (eqb c 0) 8 (gives [])
content_of c (suc k) f = f (suc k)

-- a frame of n cells in bytes of length len: its two length fields m and c, its mask, and what reads its content of so many cells
abbrev pub open_frame : {A : Type 0} → MaskForm → A → ℕ → ℕ → ℕ → List ℕ → ℕ → (ℕ → Answer (List A)) → Answer (List (ℕ × A))
open_frame mf b len m c mask n content =
    unless (leb 16 len) 7
    (unless (eqb len (16 + m + c)) 8
    (unless (eqb m (mf.size n)) 8
    (and_then (get_mask mf mask n) (λ ms.
    and_then (content_of c (count_set ms) content) (λ xs. gives (expand b ms xs))))))

-- z is the value of a null cell
unfoldable pub read_frame : MaskForm → Value → (List ℕ → ℕ → Answer (List Value)) → (d : ℕ) → List ℕ → ℕ → Answer (List (Cell d))
unfolding unle
read_frame mf z r zero s n = r s n
read_frame mf z r (suc d) s n =
    let m = unle (take 8 s) in
    let c = unle (take 8 (drop 8 s)) in
    open_frame mf (blank z d) (length s) m c (take m (drop 16 s)) n (read_frame mf z r d (drop m (drop 16 s)))

-- the values that a frame holds: those whose masks are all set
abbrev pub live : (d : ℕ) → List (Cell d) → List Value
live zero cs = cs
live (suc d) cs = live d (keep cs)
