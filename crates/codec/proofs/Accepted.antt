-- What is read of stored ragged values keeps the rules of an array, and written again it is the same bytes.
-- Assumes nothing.
use mathlib.Core.Path.{◌≡◌, refl, sym, ap, ap₂, ◌∙◌, subst}
use Prim.Native.Nat.{ℕ, zero, suc, ◌-◌, ◌*◌, ◌^◌, ◌<◌, ◌≤◌}
use native.Mathlib.Nat.{zero-mul, suc-mul, mul_comm}
use native.Mathlib.Omega.{arith}
use mathlib.Core.List.{List, ◌∷◌, map}
use lib.ListN.{length, take, drop, length-map, length-drop, take-append-drop}
use lib.Seq.{length-take-le}
use borrow.Author.Tests.{le-leb, eq-eqb}
use Rattle.array.specs.Answer.{gives}
use Rattle.array.specs.Limits.{most_bytes}
use Rattle.array.specs.Lists.{joined, pieces, All}
use Rattle.array.specs.Bytes.{le, unle, AllBytes}
use Rattle.array.specs.Kind.{Place, at_start, at_end, ragged, byte_kind}
use Rattle.array.specs.Offsets.{last, Rising}
use Rattle.array.specs.Content.{RaggedContent, unmasked, ArrayOk}
use Rattle.array.proofs.Answers.{same_given}
use Rattle.array.proofs.Bytes.{bytes_take, bytes_drop, number_again, unle_below}
use Rattle.array.proofs.Lists.{length-pieces, sized-pieces, joined-pieces}
use Rattle.array.proofs.Refusals.{Kept, all_kept}
use Rattle.codec.specs.Ragged.{put, part_of, left_of, index_of, put_ragged, get_ragged}
use Rattle.codec.specs.Refusals.{data_rules, ragged_rules}
use Rattle.codec.proofs.Carried.{last_below}
use Rattle.codec.proofs.Ragged.{check_gives}
use Rattle.codec.proofs.Refusals.{ragged_order}

-- ---- a part and what is left

put-part : (p : Place) (k : ℕ) (s : List ℕ) → put p (part_of p k s) (left_of p k s) ≡ s
put-part at_start k s = take-append-drop k s
put-part at_end k s = take-append-drop (length s - k) s

length_part : (p : Place) (k : ℕ) (s : List ℕ) → k ≤ length s → length (part_of p k s) ≡ k
length_part at_start k s h = length-take-le k s h
length_part at_end k s h = length-drop (length s - k) s ∙ omega arith

bytes_part : (p : Place) (k : ℕ) (s : List ℕ) → AllBytes s → AllBytes (part_of p k s)
bytes_part at_start k s b = bytes_take k s b
bytes_part at_end k s b = bytes_drop (length s - k) s b

bytes_left : (p : Place) (k : ℕ) (s : List ℕ) → AllBytes s → AllBytes (left_of p k s)
bytes_left at_start k s b = bytes_drop k s b
bytes_left at_end k s b = bytes_take (length s - k) s b

-- an index is what its offsets are written as
pieces_again : (w n : ℕ) (s : List ℕ) → AllBytes s → length s ≡ n * w → map (le w) (map unle (pieces w n s)) ≡ pieces w n s
pieces_again w zero s b l = refl
pieces_again w (suc n) s b l =
    ap₂ (λ (x : List ℕ) (r : List (List ℕ)). x ∷ r) (number_again (take w s) (sized-pieces w (suc n) s l).0 (bytes_take w s b))
    (pieces_again w n (drop w s) (bytes_drop w s b) (omega (arith, suc-mul n w, length-drop w s)))

index_again : (w n : ℕ) (s : List ℕ) → AllBytes s → length s ≡ n * w → index_of w (map unle (pieces w n s)) ≡ s
index_again w n s b l = ap joined (pieces_again w n s b l) ∙ joined-pieces w n s l

-- each of its offsets fits the width
offsets_below : (w n : ℕ) (s : List ℕ) → AllBytes s → length s ≡ n * w → All (λ o. o < 256 ^ w) (map unle (pieces w n s))
offsets_below w zero s b l = tt
offsets_below w (suc n) s b l = (
  unle_below (take w s) (sized-pieces w (suc n) s l).0 (bytes_take w s b),
  offsets_below w n (drop w s) (bytes_drop w s b) (omega (arith, suc-mul n w, length-drop w s)),
)

-- ---- ragged values

-- offsets of n cells, and as many value bytes as the last of them says, at most so many
abbrev RaggedOk : ℕ → RaggedContent → Type 0
RaggedOk n c = (length c.offsets ≡ suc n) × Rising c.offsets × (last c.offsets ≡ length c.values) × (length c.values ≤ most_bytes)

module _ (w : ℕ) (p : Place) (s : List ℕ) (n : ℕ) (c : RaggedContent) (e : get_ragged w p s n ≡ gives c) where
  abbrev index_length : ℕ
  index_length = unle (part_of p 8 s)

  abbrev behind : List ℕ
  behind = left_of p 8 s

  abbrev index : List ℕ
  index = part_of p index_length behind

  abbrev offsets : List ℕ
  offsets = map unle (pieces w (suc n) index)

  abbrev bytes : List ℕ
  bytes = left_of p index_length behind

  facts : Kept (ragged_rules w p s n)
  facts = all_kept (ragged_order w p s n) e

  of_data : Kept (data_rules offsets bytes)
  of_data = facts.1.1

  read_is : record { values = bytes; offsets = offsets } ≡ c
  unfolding get_ragged
  read_is =
      let is : get_ragged w p s n ≡ gives (record { values = bytes; offsets = offsets }) =
      rw (le-leb 8 (length s) facts.0, le-leb index_length (length behind) facts.1.0.0, eq-eqb index_length (w * suc n) facts.1.0.1)
      (check_gives offsets bytes of_data.0 of_data.1.0 of_data.1.1.0) in
      same_given (sym is ∙ e)

  pub ragged_ok : RaggedOk n c
  ragged_ok = subst (RaggedOk n) read_is
      (simp (length-map, length-pieces), of_data.1.0, of_data.0, omega (arith, of_data.0, of_data.1.1.0))

  pub read_content : ArrayOk (byte_kind 0 (ragged w p)) n (unmasked c)
  read_content = record { fits = record { masks_fit = sym (zero-mul n); values_fit = (ragged_ok.0, ragged_ok.1, ragged_ok.2) }; strict = tt }

  pub read_small : length c.values ≤ most_bytes
  read_small = ragged_ok.3

  -- all the bytes have been carried
  pub read_fits : AllBytes s → length c.values < 256 ^ w
  read_fits b =
      let li : length index ≡ index_length = length_part p index_length behind facts.1.0.0 in
      let below : All (λ o. o < 256 ^ w) offsets =
      offsets_below w (suc n) index (bytes_part p index_length behind (bytes_left p 8 s b)) (li ∙ facts.1.0.1 ∙ mul_comm w (suc n)) in
      subst (λ (x : RaggedContent). length x.values < 256 ^ w) read_is
      (omega (arith, of_data.0, last_below (256 ^ w) (unle (take w index)) (map unle (pieces w n (drop w index))) below.0 below.1))

  -- written, they are the index length, the index and the data again
  pub ragged_again : AllBytes s → put_ragged w p c ≡ s
  unfolding put_ragged
  ragged_again b =
      let li : length index ≡ index_length = length_part p index_length behind facts.1.0.0 in
      let is : index_of w offsets ≡ index =
      index_again w (suc n) index (bytes_part p index_length behind (bytes_left p 8 s b)) (li ∙ facts.1.0.1 ∙ mul_comm w (suc n)) in
      let field : le 8 index_length ≡ part_of p 8 s = number_again (part_of p 8 s) (length_part p 8 s facts.0) (bytes_part p 8 s b) in
      ap (put_ragged w p) (sym read_is)
      ∙ ap (λ (i : List ℕ). put p (le 8 (length i)) (put p i bytes)) is
      ∙ ap₂ (put p) (ap (le 8) li ∙ field) (put-part p index_length behind) ∙ put-part p 8 s
