-- Storing the ragged values of a subset row by row: a turn of the loop.
-- Assumes nothing.
use mathlib.Core.Path.{◌≡◌, refl, sym, ap, ◌∙◌, subst}
use Prim.Native.Nat.{ℕ, ◌+◌, ◌-◌, ◌≤◌}
use native.Mathlib.Nat.{add_assoc}
use native.Mathlib.Omega.{arith}
use mathlib.Core.List.{List, ◌++◌}
use lib.ListN.{length, take, drop, length-drop, take-append-drop}
use lib.Seq.{drop-drop, take-add, take_at}
use Rattle.array.specs.Buffers.{over_at}
use Rattle.array.specs.Lists.{from}
use Rattle.array.specs.Places.{offset_at, bytes_at}
use Rattle.array.proofs.Lists.{length_from_lem}
use Rattle.array.proofs.Places.{bytes_append, run_rises, run_below, run_total}
use Rattle.subset.specs.Walk.{row_of, Left, RowAt}
use Rattle.merge_stores.specs.Ragged.{RaggedAsked}
use Rattle.merge_stores.proofs.RowsStored.{Store, store_begins, store_more}

module _ {sh d begins values : List ℕ} {base : ℕ} {src : List ℕ} {first : ℕ} {cs : List ℕ} (q : RaggedAsked sh d begins values base src first cs) where
  pub ragged_begins : {cells n : ℕ} → Left cs cells n 0 → Store (offset_at begins) cs (drop base values) d d cells n 0 (offset_at src (first + 0))
  ragged_begins {cells} {n} g =
      subst (λ (k : ℕ). Store (offset_at begins) cs (drop base values) d d cells n 0 k) (q.agrees 0 (omega arith)) (store_begins (offset_at begins) (drop base values) d g)

  -- a row, of n cells from a on
  module _ {o : List ℕ} {cells m at : ℕ} (c : Store (offset_at begins) cs (drop base values) d o cells m at (offset_at src (first + at)))
      {ls : List ℕ} {a n : ℕ} (r : RowAt sh ls cs cells at a n) where
    abbrev w : ℕ
    w = offset_at src (first + at + n) - offset_at src (first + at)

    ends : at + n ≤ length cs
    ends = omega (arith, r.within, c.geo.whole)

    -- the chunk's offsets at both ends of the row say where the bytes of its cells lie
    row_ends : offset_at src (first + at + n) ≡ bytes_at (offset_at begins) (take (at + n) cs)
    row_ends = ap (offset_at src) (add_assoc first at n) ∙ sym (q.agrees (at + n) ends)

    -- they are as many in the output as in the chunk
    row_bytes : offset_at src (first + at + n) ≡ offset_at src (first + at) + (offset_at begins (a + n) - offset_at begins a)
    row_bytes =
        let run : take n (drop at cs) ≡ from a n = ap (take n) r.next ∙ take_at (from a n) (drop (at + n) cs) n (length_from_lem a n) in
        let both : bytes_at (offset_at begins) (take (at + n) cs) ≡ bytes_at (offset_at begins) (take at cs) + bytes_at (offset_at begins) (from a n) =
        ap (bytes_at (offset_at begins)) (take-add at n cs ∙ ap (λ (x : List ℕ). take at cs ++ x) run) ∙ bytes_append (offset_at begins) (take at cs) (from a n) in
        omega (arith, both, run_total q.laid.rises a n r.inside, row_ends, q.agrees at (omega (arith, ends)))

    pub row_rises : offset_at src (first + at) ≤ offset_at src (first + at + n)
    row_rises = omega (arith, row_bytes)

    -- they have room in the output, and lie in the values
    pub row_room : offset_at begins a + w ≤ length d
    row_room = omega (arith, row_bytes, run_rises q.laid.rises a n r.inside, run_below q.laid.rises a n r.inside, q.laid.room)

    pub row_enough : base + offset_at src (first + at) + w ≤ length values
    row_enough =
        let all : bytes_at (offset_at begins) cs ≡ bytes_at (offset_at begins) (take (at + n) cs) + bytes_at (offset_at begins) (drop (at + n) cs) =
        ap (bytes_at (offset_at begins)) (sym (take-append-drop (at + n) cs)) ∙ bytes_append (offset_at begins) (take (at + n) cs) (drop (at + n) cs) in
        omega (arith, all, row_ends, row_rises, q.enough)

    pub ragged_more : {o' : List ℕ} → o' ≡ over_at (offset_at begins a) (take w (drop (base + offset_at src (first + at)) values)) o
        → Store (offset_at begins) cs (drop base values) d o' cells (row_of ls) (at + n) (offset_at src (first + (at + n)))
    ragged_more {o'} p =
        let t : offset_at src (first + (at + n)) ≡ offset_at src (first + at + n) = ap (offset_at src) (sym (add_assoc first at n)) in
        store_more c r q.laid.rises (offset_at begins a) w (offset_at src (first + (at + n))) refl
        (omega (arith, row_bytes, run_rises q.laid.rises a n r.inside)) (omega (arith, t, row_rises)) row_room
        (omega (arith, t, row_rises, row_enough, length-drop base values))
        (p ∙ ap (λ (x : List ℕ). over_at (offset_at begins a) (take w x) o) (sym (drop-drop (offset_at src (first + at)) base values)))
