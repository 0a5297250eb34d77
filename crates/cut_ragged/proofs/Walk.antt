-- The rows of a subset, copied one after another: what holds at the loop's head, and a turn. Any cells, by where they lie.
-- Assumes nothing.
use mathlib.Core.Path.{◌≡◌, sym, ap, ap₂, ◌∙◌}
use Prim.Native.Nat.{ℕ, suc, ◌+◌, ◌-◌, ◌≤◌}
use native.Mathlib.Omega.{arith}
use mathlib.Core.List.{List, ◌++◌, map}
use lib.ListN.{length, take, drop, length-append, length-map}
use Rattle.array.specs.Lists.{from, joined}
use Rattle.array.specs.Shape.{volume}
use Rattle.array.specs.Offsets.{ends}
use Rattle.array.specs.Buffers.{over_at}
use Rattle.array.specs.Places.{Rises, step_at, values_at}
use Rattle.array.proofs.Lists.{map-append, joined-append, length_from_lem}
use Rattle.array.proofs.Offsets.{length-ends}
use Rattle.array.proofs.Laying.{Laying, laying_begins, laying_same, laying_ends, laying_left, laying_part, laying_is}
use Rattle.array.proofs.Places.{ends-append, run_below, run_bytes, run_long, run_ends}
use Rattle.subset.specs.Walk.{row_of, Left, RowAt}
use Rattle.subset.proofs.Rows.{left-ends}

-- ---- the rows of a subset: the cells before `at` are copied, so many bytes

pub record Copied (off : ℕ → ℕ) (s cs d : List ℕ) (to : ℕ) (out : List ℕ) (cells n at done : ℕ) : Type 0 where
  pub geo : Left cs cells n at
  pub laid : Laying (joined (values_at off s cs)) d to out done (joined (values_at off s (drop at cs)))

pub copied_begins : (off : ℕ → ℕ) (s d : List ℕ) (to : ℕ) {cs : List ℕ} {cells n : ℕ} → Left cs cells n 0 → to + length (joined (values_at off s cs)) ≤ length d
    → Copied off s cs d to d cells n 0 0
copied_begins off s d to {cs} g h = record { geo = g; laid = laying_begins (joined (values_at off s cs)) d to h }

module _ {off : ℕ → ℕ} {s cs d : List ℕ} {to : ℕ} {out : List ℕ} {cells n at done : ℕ} (c : Copied off s cs d to out cells n at done) where
  pub copied_same : length out ≡ length d
  copied_same = laying_same (joined (values_at off s cs)) d to out done (joined (values_at off s (drop at cs))) c.laid

  pub copied_ends : cells ≤ at → out ≡ over_at to (joined (values_at off s cs)) d
  copied_ends h =
      laying_ends (joined (values_at off s cs)) d to out done (laying_is c.laid (ap (λ (js : List ℕ). joined (values_at off s js)) (left-ends c.geo h)))

-- ---- the next row: n neighbours from the cell a on

module _ {off : ℕ → ℕ} {sh ls cs : List ℕ} {cells at a n : ℕ} (q : RowAt sh ls cs cells at a n) (r : Rises off (volume sh)) (s : List ℕ) (l : off (volume sh) ≤ length s) where
  abbrev row : List ℕ
  row = take (off (a + n) - off a) (drop (off a) s)

  pub row_source : off (a + n) ≤ length s
  row_source = omega (arith, run_below r a n q.inside)

  row_long : length row ≡ off (a + n) - off a
  row_long = run_long r s a n q.inside row_source

  row_next : values_at off s (drop at cs) ≡ values_at off s (from a n) ++ values_at off s (drop (at + n) cs)
  row_next = ap (values_at off s) q.next ∙ map-append _ (from a n) (drop (at + n) cs)

  row_first : joined (values_at off s (drop at cs)) ≡ row ++ joined (values_at off s (drop (at + n) cs))
  row_first =
      ap joined row_next ∙ joined-append (values_at off s (from a n)) (values_at off s (drop (at + n) cs))
      ∙ ap (λ (w : List ℕ). w ++ joined (values_at off s (drop (at + n) cs))) (run_bytes r s a n q.inside)

  module _ {d : List ℕ} {to : ℕ} {out : List ℕ} {m done : ℕ} (c : Copied off s cs d to out cells m at done) where
    -- it has room
    pub row_room : to + done + (off (a + n) - off a) ≤ length out
    row_room =
        omega (
          arith,
          laying_left (joined (values_at off s cs)) d to out done (joined (values_at off s (drop at cs))) c.laid,
          copied_same c,
          c.laid.room,
          ap length row_first,
          length-append row (joined (values_at off s (drop (at + n) cs))),
          row_long,
        )

    -- and is copied
    pub row_copied : {k : ℕ} → k ≡ off (a + n) - off a → {out' : List ℕ} → out' ≡ over_at (to + done) (take k (drop (off a) s)) out
        → Copied off s cs d to out' cells (row_of ls) (at + n) (done + k)
    row_copied {k} ek {out'} e = record {
      geo = q.rest;
      laid = laying_part (joined (values_at off s cs)) d to out done row (joined (values_at off s (drop (at + n) cs))) (laying_is c.laid row_first) out'
          (e ∙ ap (λ (x : ℕ). over_at (to + done) (take x (drop (off a) s)) out) ek) (done + k) (ap (λ (x : ℕ). done + x) (ek ∙ sym row_long));
    }

  -- where its cells end, the cells before it having t bytes
  module _ {d out : List ℕ} (t : ℕ) (c : Laying (ends 0 (values_at off s cs)) d 1 out at (ends t (values_at off s (drop at cs)))) where
    pub row_ended : {out' : List ℕ} → out' ≡ over_at (at + 1) (map (λ j. t + (off (suc j) - off a)) (from a n)) out
        → Laying (ends 0 (values_at off s cs)) d 1 out' (at + n) (ends (t + (off (a + n) - off a)) (values_at off s (drop (at + n) cs)))
    row_ended {out'} e =
        let f : ℕ → ℕ = λ j. t + (off (suc j) - off a) in
        let p : at + 1 ≡ 1 + at = omega arith in
        let i : length (joined (values_at off s (from a n))) ≡ off (a + n) - off a = ap length (run_bytes r s a n q.inside) ∙ row_long in
        laying_part (ends 0 (values_at off s cs)) d 1 out at (map f (from a n)) (ends (t + (off (a + n) - off a)) (values_at off s (drop (at + n) cs)))
        (laying_is c (ap (ends t) row_next ∙ ends-append t (values_at off s (from a n)) (values_at off s (drop (at + n) cs))
        ∙ ap₂ (λ (x : List ℕ) (y : ℕ). x ++ ends (t + y) (values_at off s (drop (at + n) cs))) (run_ends r s t a n q.inside row_source) i))
        out' (e ∙ ap (λ (x : ℕ). over_at x (map f (from a n)) out) p) (at + n) (ap (λ (x : ℕ). at + x) (sym (length-map (from a n) f ∙ length_from_lem a n)))

    pub row_ends_room : at + 1 + n ≤ length out
    row_ends_room =
        omega (
          arith,
          c.room,
          laying_same (ends 0 (values_at off s cs)) d 1 out at (ends t (values_at off s (drop at cs))) c,
          q.within,
          q.rest.whole,
          length-ends 0 (values_at off s cs),
          length-map cs (λ j. take (step_at off j) (drop (off j) s)),
        )
