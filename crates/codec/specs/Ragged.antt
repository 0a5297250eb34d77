-- docs/SPEC.md, S4.3, S4.4, S4.9, S7.9: ragged values with their index, for any width of an offset and for both places of the index.
-- Place start: index length (8 bytes), index, data. Place end: data, index, index length.
-- Assumes nothing.
use Rattle.std.specs.Prelude.{ℕ, suc, ◌+◌, ◌-◌, ◌*◌, List, ◌++◌, map, length, take, drop, leb, eqb}
use Rattle.array.specs.Answer.{Answer, gives, unless}
use Rattle.array.specs.Lists.{joined, pieces}
use Rattle.array.specs.Bytes.{le, unle}
use Rattle.array.specs.Kind.{Place, at_start, at_end}
use Rattle.array.specs.Offsets.{last, rising_test}
use Rattle.array.specs.Content.{RaggedContent, size_test}

-- ---- a part at the start or at the end

abbrev pub put : Place → List ℕ → List ℕ → List ℕ
put at_start part s = part ++ s
put at_end part s = s ++ part

-- the part of k bytes, and what is left
abbrev pub part_of : Place → ℕ → List ℕ → List ℕ
part_of at_start k s = take k s
part_of at_end k s = drop (length s - k) s

abbrev pub left_of : Place → ℕ → List ℕ → List ℕ
left_of at_start k s = drop k s
left_of at_end k s = take (length s - k) s

-- ---- writing

abbrev pub index_of : ℕ → List ℕ → List ℕ
index_of w os = joined (map (le w) os)

unfoldable pub put_ragged : ℕ → Place → RaggedContent → List ℕ
put_ragged w p c = put p (le 8 (length (index_of w c.offsets))) (put p (index_of w c.offsets) c.values)

-- ---- where the index length, the index and the data lie, in l bytes with an index of i

abbrev pub length_at : Place → ℕ → ℕ
length_at at_start l = 0
length_at at_end l = l - 8

abbrev pub index_at : Place → ℕ → ℕ → ℕ
index_at at_start l i = 8
index_at at_end l i = l - 8 - i

abbrev pub data_at : Place → ℕ → ℕ
data_at at_start i = 8 + i
data_at at_end i = 0

-- ---- reading

-- offsets and data that were taken apart
abbrev pub check_ragged : List ℕ → List ℕ → Answer RaggedContent
check_ragged os s =
    unless (eqb (last os) (length s)) 8
    (unless (rising_test os) 10
    (unless (size_test (last os)) 5 (gives (record { values = s; offsets = os }))))

-- an index of l bytes for n cells, in what the index length leaves
abbrev pub open_ragged : ℕ → Place → ℕ → List ℕ → ℕ → Answer RaggedContent
open_ragged w p l s n =
    unless (leb l (length s)) 8
    (unless (eqb l (w * suc n)) 8
    (check_ragged (map unle (pieces w (suc n) (part_of p l s))) (left_of p l s)))

unfoldable pub get_ragged : ℕ → Place → List ℕ → ℕ → Answer RaggedContent
get_ragged w p s n = unless (leb 8 (length s)) 7 (open_ragged w p (unle (part_of p 8 s)) (left_of p 8 s) n)
