-- A plane below another: what its stored mask says is laid at its end, and spread from there over the plane before it, turn by turn.
-- Assumes nothing.
use mathlib.Core.Path.{◌≡◌, refl, sym, ap, ap₂, ◌∙◌}
use mathlib.Core.List.{List, [], ◌∷◌, ◌++◌, append_assoc, append-nil}
use Prim.Native.Nat.{ℕ, suc, ◌+◌, ◌-◌, ◌≤◌, ◌<◌}
use native.Mathlib.Omega.{arith}
use native.Mathlib.Numerals.{add-one}
use lib.ListN.{length, take, drop, get_or, set, replicate, length-append, length-drop}
use lib.Seq.{drop-cons, drop_at, take_at, take-take, take-append-le, length-take-le, get_or-append-add, get_or-drop}
use Rattle.array.specs.Kind.{Masks}
use Rattle.array.specs.Cells.{Mark, is_null, is_set, is_other, mark_of}
use Rattle.array.specs.Buffers.{over_at}
use Rattle.array.proofs.Over.{over_at_length}
use Rattle.array.proofs.Laying.{Laying, laying_begins, laying_same, laying_ends, laying_part, laying_store, laying_is, laying_before}
use Rattle.codec.specs.Mask.{mask_form}
use Rattle.codec.specs.Frame.{count_set}
use Rattle.codec.specs.Spread.{spread}
use Rattle.codec.proofs.Marks.{count_mark, count-le}
use Rattle.codec.proofs.SpreadLaws.{length-spread, spread_none, spread_all, spread_mark}
use Rattle.codec.specs.MaskAt.{said_mask}
use Rattle.mask.proofs.Said.{length_said}
use Rattle.stored_index.proofs.IndexLaws.{drop-take}
use Rattle.decode_marks.specs.Next.{if_set, next_at}
use Rattle.decode_marks.proofs.PlaneLaws.{plane_at, plane_length, plane_byte}
use Rattle.decode_planes.specs.Within.{LaidWithin, PlaneWithin}

-- ---- what lies in a buffer

-- what lies behind is as it was
laying_behind : {want d : List ℕ} {to : ℕ} {out : List ℕ} {i : ℕ} {r : List ℕ} → Laying want d to out i r → (k : ℕ) → to + i ≤ k → get_or out k 0 ≡ get_or d k 0
laying_behind {want} {d} {to} {out} {i} l k h =
    let f : List ℕ = take to d ++ take i want in
    let lf : length f ≡ to + i = omega (arith, length-append (take to d) (take i want), length-take-le to d (omega (arith, l.room)), length-take-le i want l.within) in
    let e : k ≡ length f + (k - length f) = omega arith in
    ap₂ (λ (o : List ℕ) (n : ℕ). get_or o n 0) l.here e ∙ get_or-append-add f (drop (length f) d) (k - length f) 0 ∙ get_or-drop (length f) d (k - length f) 0 ∙ ap (λ (n : ℕ). get_or d n 0) (sym e)

-- the plane that was laid, read again
pub plane_again : (d q : List ℕ) (to : ℕ) {n : ℕ} → to ≤ length d → length q ≡ n → take n (drop to (over_at to q d)) ≡ q
plane_again d q to {n} h e =
    let lt : length (take to d) ≡ to = length-take-le to d h in
    ap (λ (l : List ℕ). take n (drop to l)) (append_assoc (take to d) q (drop (length (take to d ++ q)) d))
    ∙ ap (take n) (drop_at (take to d) (q ++ drop (length (take to d ++ q)) d) to lt)
    ∙ take_at q (drop (length (take to d ++ q)) d) n e

-- p is laid at `at`: what lies before it and behind it is as it was
module _ (d p : List ℕ) (at : ℕ) (h : at + length p ≤ length d) where
  front : length (take at d ++ p) ≡ at + length p
  front = length-append (take at d) p ∙ ap (λ (n : ℕ). n + length p) (length-take-le at d (omega arith))

  laid_before : (k : ℕ) → k ≤ at → take k (over_at at p d) ≡ take k d
  laid_before k l =
      take-append-le k (take at d ++ p) (drop (length (take at d ++ p)) d) (omega (arith, front))
      ∙ take-append-le k (take at d) p (omega (arith, length-take-le at d (omega arith))) ∙ take-take k at d l

  laid_after : {k : ℕ} → k ≡ at + length p → drop k (over_at at p d) ≡ drop k d
  laid_after {k} e = drop_at (take at d ++ p) (drop (length (take at d ++ p)) d) k (front ∙ sym e) ∙ ap (λ (n : ℕ). drop n d) (front ∙ sym e)

  -- what is laid over p and ends with it might as well be laid at once
  over_laid : (to : ℕ) (q : List ℕ) → to ≤ at → to + length q ≡ at + length p → over_at to q (over_at at p d) ≡ over_at to q d
  over_laid to q l e =
      let b : take to (over_at at p d) ≡ take to d = laid_before to l in
      let lf : length (take to d ++ q) ≡ at + length p = length-append (take to d) q ∙ ap (λ (n : ℕ). n + length q) (length-take-le to d (omega arith)) ∙ e in
      ap (λ (t : List ℕ). (t ++ q) ++ drop (length (t ++ q)) (over_at at p d)) b ∙ ap (λ (r : List ℕ). (take to d ++ q) ++ r) (laid_after lf)

-- ---- the loop

-- the mask bytes at the end of the plane at `to`
abbrev laid_in : List ℕ → ℕ → ℕ → ℕ → List ℕ
laid_in d to n cells = plane_at (to + (n - cells)) cells d

-- i cells of the plane at `to` are written, and j of the mask bytes are taken
pub record Placing (d : List ℕ) (from to n cells : ℕ) (out : List ℕ) (i j : ℕ) : Type 0 where
  pub start : LaidWithin d from to n cells
  pub within : i ≤ n
  pub count : j + count_set (drop i (plane_at from n d)) ≡ cells
  pub laid : Laying (spread 0 (plane_at from n d) (laid_in d to n cells)) d to out i (spread 0 (drop i (plane_at from n d)) (drop j (laid_in d to n cells)))

-- what the reads and stores of a turn rest on
pub record Turn (from to n cells : ℕ) (out : List ℕ) (i j : ℕ) : Type 0 where
  pub inside : i < n
  pub few : cells ≤ n
  pub next : j < cells
  pub ahead : i ≤ n - cells + j
  pub apart : from + n ≤ to
  pub room : to + n ≤ length out

module _ {d : List ℕ} {from to n cells : ℕ} (p : LaidWithin d from to n cells) where
  whole : length (plane_at from n d) ≡ n
  whole = plane_length from n d (omega (arith, p.apart, p.room))

  pub few : cells ≤ n
  few = omega (arith, p.count, count-le (plane_at from n d), whole)

  long : length (laid_in d to n cells) ≡ cells
  long = plane_length (to + (n - cells)) cells d (omega (arith, few, p.room))

  pub placing_begins : Placing d from to n cells d 0 0
  placing_begins = record {
    start = p;
    within = omega arith;
    count = omega (arith, p.count);
    laid = laying_begins (spread 0 (plane_at from n d) (laid_in d to n cells)) d to (omega (arith, length-spread 0 (plane_at from n d) (laid_in d to n cells), whole, p.room));
  }

module _ {d : List ℕ} {from to n cells : ℕ} {out : List ℕ} {i j : ℕ} (l : Placing d from to n cells out i j) where
  abbrev plane : List ℕ
  plane = plane_at from n d

  abbrev bytes : List ℕ
  bytes = laid_in d to n cells

  pub placing_same : length out ≡ length d
  placing_same = laying_same (spread 0 plane bytes) d to out i _ l.laid

  -- no mask byte is left: the other cells are null
  pub placing_ends : cells ≤ j → {out' : List ℕ} → out' ≡ over_at (to + i) (replicate (n - i) 0) out → out' ≡ over_at to (spread 0 plane bytes) d
  placing_ends h {out'} eo =
      let z : List ℕ = replicate (n - i) 0 in
      let e : count_set (drop i plane) ≡ 0 = omega (arith, l.count) in
      let k : length (drop i plane) ≡ n - i = length-drop i plane ∙ ap (λ (k : ℕ). k - i) (whole l.start) in
      let left : spread 0 (drop i plane) (drop j bytes) ≡ z ++ [] = spread_none 0 (drop i plane) (drop j bytes) e ∙ ap (λ (k : ℕ). replicate {A = ℕ} k 0) k ∙ sym (append-nil z) in
      laying_ends (spread 0 plane bytes) d to out' (i + length z) (laying_part (spread 0 plane bytes) d to out i z [] (laying_is l.laid left) out' eo (i + length z) refl)

  module _ (h : j < cells) where
    -- a mask byte is left, so some cell is, and the byte lies behind what is written
    pub placing_turn : Turn from to n cells out i j
    placing_turn =
        let left : count_set (drop i plane) ≤ n - i = omega (arith, count-le (drop i plane), length-drop i plane, whole l.start) in
        record {
          inside = omega (arith, l.count);
          few = few l.start;
          next = h;
          ahead = omega (arith, l.count, l.within, few l.start);
          apart = l.start.apart;
          room = omega (arith, l.start.room, placing_same);
        }

    byte_is : get_or out (to + (n - cells) + j) 0 ≡ get_or bytes j 0
    byte_is = laying_behind l.laid (to + (n - cells) + j) (omega (arith, placing_turn.ahead)) ∙ plane_byte (to + (n - cells)) cells d j h

    module _ (m : Mark) (em : m ≡ mark_of (get_or out (from + i) 0)) where
      inside : i < length plane
      inside = omega (arith, whole l.start, placing_turn.inside)

      -- the plane before is as it was
      mark_is : mark_of (get_or plane i 0) ≡ m
      mark_is =
          sym (em ∙ ap mark_of (laying_before (spread 0 plane bytes) d to out i _ l.laid (from + i) (omega (arith, placing_turn.apart, placing_turn.inside))
          ∙ plane_byte from n d i placing_turn.inside))

      -- the next cell, and what is left then
      next : (m : Mark) → mark_of (get_or plane i 0) ≡ m → (next_at m j 1 + count_set (drop (i + 1) plane) ≡ cells)
          × (spread 0 (drop i plane) (drop j bytes) ≡ if_set m (get_or bytes j 0) 0 ∷ spread 0 (drop (i + 1) plane) (drop (next_at m j 1) bytes))
      next is_null e = (omega (arith, l.count, count_mark plane i inside e), spread_mark 0 plane i (drop j bytes) inside e)
      next is_other e = (omega (arith, l.count, count_mark plane i inside e), spread_mark 0 plane i (drop j bytes) inside e)
      next is_set e = (
        omega (arith, l.count, count_mark plane i inside e),
        ap (spread 0 (drop i plane)) (drop-cons bytes j 0 (omega (arith, long l.start))) ∙ spread_mark 0 plane i (get_or bytes j 0 ∷ drop (suc j) bytes) inside e
            ∙ ap (λ (k : ℕ). get_or bytes j 0 ∷ spread 0 (drop (i + 1) plane) (drop k bytes)) (sym (add-one j)),
      )

      -- b is what the cell gets of the byte that is read for it
      pub placing_more : {b : ℕ} → b ≡ if_set m (get_or out (to + (n - cells) + j) 0) 0 → Placing d from to n cells (set out (to + i) b) (i + 1) (next_at m j 1)
      placing_more {b} eb =
          let e : if_set m (get_or bytes j 0) 0 ≡ b = sym (eb ∙ ap (λ (y : ℕ). if_set m y 0) byte_is) in
          record {
            start = l.start;
            within = omega (arith, placing_turn.inside);
            count = (next m mark_is).0;
            laid = laying_store (spread 0 plane bytes) d to out i b _
                (laying_is l.laid ((next m mark_is).1 ∙ ap (λ (y : ℕ). y ∷ spread 0 (drop (i + 1) plane) (drop (next_at m j 1) bytes)) e));
          }

-- ---- a stored mask: `out` has what it says at the end of the plane at `to`

module _ {x : Masks} {d : List ℕ} {from to n : ℕ} {s : List ℕ} {at cells : ℕ} (p : PlaneWithin x d from to n s at cells) where
  abbrev said : List ℕ
  said = said_mask (mask_form x) s at cells

  said_long : length said ≡ cells
  said_long = length_said x s at cells (omega (arith, p.stored, length-drop at s))

  pub mask_fits : to + (n - cells) + cells ≤ length d
  mask_fits = omega (arith, few p.planes, p.planes.room)

  fits : to + (n - cells) + length said ≤ length d
  fits = omega (arith, said_long, mask_fits)

  module _ {out : List ℕ} (eo : out ≡ over_at (to + (n - cells)) said d) where
    same : length out ≡ length d
    same = ap length eo ∙ over_at_length (to + (n - cells)) said d fits

    plane_is : plane_at from n out ≡ plane_at from n d
    plane_is =
        sym (drop-take from n out)
        ∙ ap (drop from) (ap (take (from + n)) eo ∙ laid_before d said (to + (n - cells)) fits (from + n) (omega (arith, p.planes.apart))) ∙ drop-take from n d

    pub laid_within : LaidWithin out from to n cells
    laid_within = record { apart = p.planes.apart; room = omega (arith, same, p.planes.room); count = p.planes.count ∙ ap count_set (sym plane_is) }

    pub laid_spread : {out' : List ℕ} → out' ≡ over_at to (spread 0 (plane_at from n out) (plane_at (to + (n - cells)) cells out)) out → out' ≡ over_at to (spread 0 (plane_at from n d) said) d
    laid_spread e =
        let w : List ℕ = spread 0 (plane_at from n d) said in
        let lw : length w ≡ n = length-spread 0 (plane_at from n d) said ∙ whole p.planes in
        let mask : plane_at (to + (n - cells)) cells out ≡ said =
        ap (plane_at (to + (n - cells)) cells) eo ∙ plane_again d said (to + (n - cells)) (omega (arith, mask_fits)) said_long in
        e ∙ ap₂ (λ (a b : List ℕ). over_at to (spread 0 a b) out) plane_is mask ∙ ap (over_at to w) eo
        ∙ over_laid d said (to + (n - cells)) fits to w (omega arith) (omega (arith, lw, said_long, few p.planes))

    -- where all cells are set the plane is the mask
    pub laid_all : n ≤ cells → out ≡ over_at to (spread 0 (plane_at from n d) said) d
    laid_all h =
        let e : to + (n - cells) ≡ to = omega arith in
        let long : length (plane_at from n d) ≡ n = whole p.planes in
        eo ∙ ap₂ (λ (k : ℕ) (m : List ℕ). over_at k m d) e
        (sym (spread_all 0 (plane_at from n d) said (omega (arith, long, p.planes.count, few p.planes)) (omega (arith, long, said_long, few p.planes))))
