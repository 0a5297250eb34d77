-- Redundant by the law index_found in stored_index/proofs/CheckedIndex.antt: the check of ragged values (S4.3, S4.4), by positions.
-- Where their index and their data lie, and the last offset; or the refusal (found_refused there).
-- Assumes nothing.
use Rattle.std.specs.Prelude.{ℕ, suc, ◌+◌, ◌-◌, ◌*◌, ◌≤◌, ◌≡◌, List, map, length, take, drop, leb, eqb}
use Rattle.array.specs.Answer.{Answer, gives, unless, and_then, map_answer}
use Rattle.array.specs.Lists.{pieces}
use Rattle.array.specs.Bytes.{unle}
use Rattle.array.specs.Kind.{Place}
use Rattle.array.specs.Offsets.{last, last_from, RisingFrom, rising_test}
use Rattle.array.specs.Content.{RaggedContent, size_test}
use Rattle.codec.specs.Ragged.{part_of, left_of, get_ragged, index_at, data_at}
use Rattle.stored_index.specs.declared.Index.{Index}

-- the first n offsets of width w that the bytes hold
abbrev pub offsets_in : ℕ → ℕ → List ℕ → List ℕ
offsets_in w n s = map unle (pieces w n s)

-- the reader of what is stored for n cells, with any check of the offsets and the data that it takes apart
abbrev pub open_by : {A : Type 0} → (List ℕ → List ℕ → Answer A) → ℕ → Place → ℕ → List ℕ → ℕ → Answer A
open_by check w p l s n =
    unless (leb l (length s)) 8 (unless (eqb l (w * suc n)) 8 (check (offsets_in w (suc n) (part_of p l s)) (left_of p l s)))

abbrev pub read_by : {A : Type 0} → (List ℕ → List ℕ → Answer A) → ℕ → Place → List ℕ → ℕ → Answer A
read_by check w p s n = unless (leb 8 (length s)) 7 (open_by check w p (unle (part_of p 8 s)) (left_of p 8 s) n)

-- the last of offsets with k bytes of data, before it is limited
unfoldable pub indexed_by : List ℕ → ℕ → Answer ℕ
indexed_by os k = unless (eqb (last os) k) 8 (unless (rising_test os) 10 (gives (last os)))

abbrev pub index_check : List ℕ → List ℕ → Answer ℕ
index_check os s = indexed_by os (length s)

-- the last offset of what is stored, before it is limited
unfoldable pub index_in : ℕ → Place → List ℕ → ℕ → Answer ℕ
index_in w p s n = read_by index_check w p s n

-- the limit of value bytes
abbrev pub limited : Answer ℕ → Answer ℕ
limited a = and_then a (λ l. unless (size_test l) 5 (gives l))

-- what the check tells of the reader's answer
abbrev pub last_in : Answer RaggedContent → Answer ℕ
last_in a = map_answer (λ c. last c.offsets) a

-- ---- what was found: n cells, the index at `index`, the data at `from`, and the last offset l

abbrev pub index_with : ℕ → ℕ → ℕ → ℕ → Index
index_with n index from l = record { cells = n; index = index; from = from; last = l }

-- in the bytes from `at` on to the end
abbrev pub located : ℕ → Place → List ℕ → ℕ → ℕ → ℕ → Index
located w p s at n l = index_with n (at + index_at p (length s - at) (w + n * w)) (at + data_at p (w + n * w)) l

-- the index of the ragged values of n cells that lie there, before it is limited and after
unfoldable pub found_in : ℕ → Place → List ℕ → ℕ → ℕ → Answer Index
found_in w p s at n = map_answer (located w p s at n) (index_in w p (drop at s) n)

unfoldable pub checked_in : ℕ → Place → List ℕ → ℕ → ℕ → Answer Index
checked_in w p s at n = map_answer (located w p s at n) (last_in (get_ragged w p (drop at s) n))

-- the values of a checked index
abbrev pub ragged_at : ℕ → List ℕ → Index → RaggedContent
ragged_at w s i = record { values = take i.last (drop i.from s); offsets = offsets_in w (suc i.cells) (drop i.index s) }

-- where its cells end: its offsets behind the first
abbrev pub ends_in : ℕ → List ℕ → Index → List ℕ
ends_in w s i = offsets_in w i.cells (drop (i.index + w) s)

-- it lies within the bytes, as its data does, its first offset is 0, and the ends never fall from 0
pub record IndexWithin (w : ℕ) (s : List ℕ) (i : Index) : Type 0 where
  pub index_room : i.index + (w + i.cells * w) ≤ length s
  pub data_room : i.from + i.last ≤ length s
  pub first_is : 1 ≤ i.cells → unle (take w (drop i.index s)) ≡ 0
  pub rising : RisingFrom 0 (ends_in w s i)
  pub last_is : i.last ≡ last_from 0 (ends_in w s i)
