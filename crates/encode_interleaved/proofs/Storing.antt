-- The loop that writes the older form, by the offsets that are left: what stands in the output, and what is still to be written.
-- Assumes nothing.
use mathlib.Core.Path.{◌≡◌, refl, sym, ap, ap₂, ◌∙◌, subst}
use Prim.Native.Nat.{ℕ, suc, ◌+◌, ◌-◌, ◌*◌, ◌<◌, ◌≤◌}
use native.Mathlib.Nat.{le_refl}
use native.Mathlib.Numerals.{add-one}
use native.Mathlib.Omega.{arith}
use mathlib.Core.List.{List, [], ◌∷◌, ◌++◌, append_assoc, append-nil}
use lib.ListN.{length, take, drop, get_or, length-append, length-drop, drop_of_length-le}
use lib.Seq.{drop-cons, take_all, length-take-le}
use Rattle.std.proofs.lemmas.Grind.{get_or_after_one}
use Rattle.array.specs.Lists.{joined}
use Rattle.array.specs.Bytes.{le}
use Rattle.array.specs.Offsets.{last, last_from, Rising, RisingFrom, slices_from, slices}
use Rattle.array.specs.Cells.{Value}
use Rattle.array.specs.Buffers.{over, over_at}
use Rattle.array.proofs.Bytes.{length-le}
use Rattle.array.proofs.Offsets.{rising_le, length-slices_from, joined-slices, joined-slices_all}
use Rattle.array.proofs.Over.{over_again}
use Rattle.codec.specs.Interleaved.{put_cells, put_interleaved}
use Rattle.codec.proofs.Older.{length_cells, length_interleaved}
use Rattle.interleaved_cells.specs.Cell.{Copied}
use Rattle.encode_interleaved.specs.Held.{Held, interleaved_of}
use Rattle.interleaved_cells.proofs.Placing.{Placing, placing_begins, placing_is, placing_left, placing_ends, placing_part, placing_cell}

-- ---- the offsets begin at 0

module _ {n : ℕ} {s os : List ℕ} (h : Held n s os) where
  pub from_zero : os ≡ 0 ∷ drop 1 os
  from_zero = go os h.counted h.rising
    where
      go : (os : List ℕ) → length os ≡ suc n → Rising os → os ≡ 0 ∷ drop 1 os
      go [] e r = absurd (omega arith)
      go (a ∷ bs) e r = ap (λ (x : ℕ). x ∷ bs) r.0

  pub cells_are : slices os s ≡ slices_from 0 (drop 1 os) s
  cells_are = ap (λ (l : List ℕ). slices l s) from_zero

  cells_counted : length (slices os s) ≡ n
  cells_counted = omega (arith, ap length cells_are, length-slices_from 0 (drop 1 os) s, length-drop 1 os, h.counted)

  -- the written length, from the counts of cells and of value bytes
  pub need_is : length (interleaved_of s os) ≡ 4 + 4 * n + length s
  need_is = omega (arith, length_interleaved (slices os s), cells_counted, ap length (joined-slices_all n os s h.counted h.rising h.ended))

-- ---- the loop, by the offsets behind the first

module _ {n : ℕ} (os : List ℕ) (e : length os ≡ suc n) where
  pub behind_are : take (length os - 1) (drop 1 os) ≡ drop 1 os
  behind_are = take_all (length os - 1) (drop 1 os) (omega (arith, length-drop 1 os))

  pub turns_are : length (take (length os - 1) (drop 1 os)) ≡ n
  turns_are = omega (arith, ap length behind_are, length-drop 1 os, e)

  pub end_is : (i : ℕ) → get_or (take (length os - 1) (drop 1 os)) i 0 ≡ get_or os (i + 1) 0
  end_is i = ap (λ (l : List ℕ). get_or l i 0) behind_are ∙ get_or_after_one os i 0 ∙ ap (λ (k : ℕ). get_or os k 0) (omega arith)

-- i cells stand in what was d, up to `at`; the next one begins at `start`
pub record Storing (n : ℕ) (s os d out : List ℕ) (start i at : ℕ) : Type 0 where
  pub within : i ≤ n
  pub counted : length os ≡ suc n
  pub rising : RisingFrom start (drop (i + 1) os)
  pub ended : last_from start (drop (i + 1) os) ≡ length s
  pub placed : Placing (interleaved_of s os) d out at (put_cells (slices_from start (drop (i + 1) os) s))

-- the count is stored
module _ {n : ℕ} {s os : List ℕ} (h : Held n s os) (d : List ℕ) (room : length (interleaved_of s os) ≤ length d) {out : List ℕ} (e : out ≡ over_at 0 (le 4 n) d) where
  behind : Placing (interleaved_of s os) d out 4 (put_cells (slices_from 0 (drop 1 os) s))
  unfolding put_interleaved
  behind =
      let cells : List ℕ = put_cells (slices_from 0 (drop 1 os) s) in
      let count : List ℕ = le 4 n in
      let long : length count ≡ 4 = length-le 4 n in
      let whole : interleaved_of s os ≡ count ++ cells =
      ap₂ (λ (m : ℕ) (vs : List Value). le 4 m ++ put_cells vs) (cells_counted h) (cells_are h) in
      subst (λ (k : ℕ). Placing (interleaved_of s os) d out k cells) (omega arith)
      (placing_part cells (placing_is (placing_begins (interleaved_of s os) d room) whole) count
      (omega (arith, ap length whole, length-append count cells)) (le_refl (length count)) (take_all (length count) count (le_refl (length count))) e)

  pub storing_begins : Storing n s os out out 0 0 4
  storing_begins =
      let p : Placing (interleaved_of s os) d out 4 (put_cells (slices_from 0 (drop 1 os) s)) = behind in
      record {
        within = omega arith;
        counted = h.counted;
        rising = (subst Rising (from_zero h) h.rising).1;
        ended = ap last (sym (from_zero h)) ∙ h.ended;
        placed = record { room = omega (arith, p.room, p.same); same = refl; within = p.within; front = p.front; back = refl; left = p.left };
      }

  -- what lies beyond is as it was before the count
  pub storing_done : {end : List ℕ} → end ≡ over (interleaved_of s os) out → end ≡ over (interleaved_of s os) d
  storing_done f = f ∙ ap (λ (l : List ℕ). interleaved_of s os ++ l) behind.back

  pub count_same : length out ≡ length d
  count_same = behind.same

pub storing_is : {n start i at start' at' : ℕ} {s os d out out' : List ℕ} → Storing n s os d out start i at
    → out' ≡ out → start' ≡ start → at' ≡ at → Storing n s os d out' start' i at'
storing_is {n} {start} {i} {at} {start'} {at'} {s} {os} {d} {out} {out'} c e f g =
    subst (λ (l : List ℕ). Storing n s os d l start' i at') (sym e)
    (subst (λ (k : ℕ). Storing n s os d out k i at') (sym f) (subst (Storing n s os d out start i) (sym g) c))

module _ {n : ℕ} {s os d out : List ℕ} {start i at : ℕ} (c : Storing n s os d out start i at) where
  pub storing_same : length out ≡ length d
  storing_same = c.placed.same

  pub storing_ends : n ≤ i → out ≡ over (interleaved_of s os) d
  unfolding put_cells
  storing_ends h =
      placing_ends (placing_is c.placed (ap (λ (r : List ℕ). put_cells (slices_from start r s)) (drop_of_length-le os {i = i + 1} (omega (arith, c.counted)))))

  module _ (h : i < n) where
    -- the next cell ends at the next offset
    abbrev end : ℕ
    end = get_or os (i + 1) 0

    abbrev later : List ℕ
    later = drop (i + 1 + 1) os

    abbrev cell : Value
    cell = take (end - start) (drop start s)

    abbrev rest : List ℕ
    rest = put_cells (slices_from end later s)

    pub storing_inside : i + 1 < length os
    storing_inside = omega (arith, c.counted)

    next : drop (i + 1) os ≡ end ∷ later
    next = drop-cons os (i + 1) 0 storing_inside ∙ ap (λ (k : ℕ). end ∷ drop k os) (sym (add-one (i + 1)))

    rises : RisingFrom start (end ∷ later)
    rises = subst (RisingFrom start) next c.rising

    closes : last_from end later ≡ length s
    closes = ap (last_from start) (sym next) ∙ c.ended

    pub storing_rises : (start ≤ end) × (end ≤ length s)
    storing_rises = (rises.0, omega (arith, rising_le end later rises.1, closes))

    long : length cell ≡ end - start
    long = length-take-le (end - start) (drop start s) (omega (arith, length-drop start s, storing_rises))

    field_left : Placing (interleaved_of s os) d out at (le 4 (end - start) ++ (cell ++ rest))
    unfolding put_cells
    field_left =
        placing_is c.placed
        (ap (λ (r : List ℕ). put_cells (slices_from start r s)) next ∙ ap (λ (k : ℕ). le 4 k ++ (cell ++ rest)) long)

    -- its bytes, with those of all cells behind it, are what is left of the values
    bytes_left : length cell + length (joined (slices_from end later s)) ≡ length s - start
    bytes_left =
        sym (length-append cell (joined (slices_from end later s)))
        ∙ ap length (joined-slices start (end ∷ later) s rises closes) ∙ length-drop start s

    -- as many places are left in the output, and a field for each
    pub storing_room : at + 4 + (length s - start) ≤ length (interleaved_of s os)
    storing_room =
        omega (
          arith,
          placing_left field_left,
          length-append (le 4 (end - start)) (cell ++ rest),
          length-le 4 (end - start),
          length-append cell rest,
          length_cells (slices_from end later s),
          bytes_left,
        )

    pub storing_output : at + 4 + (length s - start) ≤ length out
    storing_output = omega (arith, storing_room, c.placed.room, c.placed.same)

    -- a number v is stored, and v is its length
    module _ {v : ℕ} {out₁ : List ℕ} (f₁ : out₁ ≡ over_at at (le 4 v) out) (e₁ : v ≡ end - start) where
      cell_left : Placing (interleaved_of s os) d out₁ (at + 4) (cell ++ rest)
      cell_left =
          let field : List ℕ = le 4 (end - start) in
          subst (λ (k : ℕ). Placing (interleaved_of s os) d out₁ (at + k) (cell ++ rest)) (length-le 4 (end - start))
          (placing_part (cell ++ rest) field_left field (omega (arith, length-le 4 (end - start), storing_room)) (le_refl (length field))
          (take_all (length field) field (le_refl (length field))) (f₁ ∙ ap (λ (k : ℕ). over_at at (le 4 k) out) e₁))

      pub stored_same : length out₁ ≡ length d
      stored_same = cell_left.same

      stored : {out₂ : List ℕ} → Placing (interleaved_of s os) d out₂ (at + 4 + (end - start)) rest → Storing n s os d out₂ end (i + 1) (at + 4 + (end - start))
      stored p = record { within = omega arith; counted = c.counted; rising = rises.1; ended = closes; placed = p }

      pub storing_none : v ≤ 0 → Storing n s os d out₁ start (i + 1) (at + 4)
      storing_none z =
          let nothing : end - start ≡ 0 = omega (arith, e₁) in
          let here : end ≡ start = omega (arith, storing_rises) in
          let p : Placing (interleaved_of s os) d out₁ (at + 4) rest = placing_is cell_left (ap (λ (k : ℕ). take k (drop start s) ++ rest) nothing) in
          subst (λ (k : ℕ). Storing n s os d out₁ k (i + 1) (at + 4)) here
          (subst (Storing n s os d out₁ end (i + 1)) (omega arith)
          (stored (subst (λ (k : ℕ). Placing (interleaved_of s os) d out₁ k rest) (omega arith) p)))

      -- the cell is copied, with what lies behind it
      pub storing_more : {out₂ : List ℕ} → Copied v (length s - start) (drop start s) (at + 4) out₁ out₂ → Storing n s os d out₂ end (i + 1) (at + 4 + v)
      storing_more {out₂} f =
          subst (λ (k : ℕ). Storing n s os d out₂ end (i + 1) (at + 4 + k)) (sym e₁)
          (stored (placing_cell cell_left (omega (arith, length-drop start s, storing_rises)) storing_room
          (subst (λ (k : ℕ). Copied k (length s - start) (drop start s) (at + 4) out₁ out₂) e₁ f)))

-- ---- one cell

-- it has all the values
pub one_cell : {s os : List ℕ} → Held 1 s os → s ∷ [] ≡ slices os s
one_cell {s} {os} h = go os h.counted h.rising h.ended
  where
    go : (os : List ℕ) → length os ≡ 2 → Rising os → last os ≡ length s → s ∷ [] ≡ slices os s
    go [] e r l = absurd (omega arith)
    go (a ∷ []) e r l = absurd (omega arith)
    go (a ∷ b ∷ []) e r l =
        sym (ap₂ (λ (x y : ℕ). take (y - x) (drop x s) ∷ []) r.0 l ∙ ap (λ (v : Value). v ∷ []) (take_all (length s - 0) s (omega arith)))
    go (a ∷ b ∷ c ∷ os) e r l = absurd (omega arith)

pub one_need : (v : Value) → length (put_interleaved (v ∷ [])) ≡ 8 + length v
one_need v = omega (arith, length_interleaved (v ∷ []), length-append v [])

-- count, length and bytes are stored, or count and length where it is empty
module _ (v : Value) (d : List ℕ) {out out₁ : List ℕ} (e : out ≡ over (le 4 1) d) (f : out₁ ≡ over_at 4 (le 4 (length v)) out) where
  told : out₁ ≡ over (le 4 1 ++ le 4 (length v)) d
  told = f ∙ ap (over_at 4 (le 4 (length v))) e ∙ over_again (le 4 1) (le 4 (length v)) d 4 (length-le 4 1)

  pub one_copied : {out₂ : List ℕ} → out₂ ≡ over_at 8 (take (length v) v) out₁ → out₂ ≡ over (put_interleaved (v ∷ [])) d
  unfolding put_interleaved put_cells
  one_copied g =
      let field : List ℕ = le 4 (length v) in
      g ∙ ap₂ (over_at 8) (take_all (length v) v (omega arith)) told
      ∙ over_again (le 4 1 ++ field) v d 8 (omega (arith, length-append (le 4 1) field, length-le 4 1, length-le 4 (length v)))
      ∙ ap (λ (w : List ℕ). over w d) (append_assoc (le 4 1) field v ∙ ap (λ (w : List ℕ). le 4 1 ++ (field ++ w)) (sym (append-nil v)))

  pub one_empty : length v ≤ 0 → out₁ ≡ over (put_interleaved (v ∷ [])) d
  unfolding put_interleaved put_cells
  one_empty z = told ∙ ap (λ (w : List ℕ). over (le 4 1 ++ w) d) (nothing v z)
    where
      nothing : (v : Value) → length v ≤ 0 → le 4 (length v) ≡ le 4 (length v) ++ (v ++ [])
      nothing [] z = sym (append-nil (le 4 0))
      nothing (x ∷ v) z = absurd (omega arith)
