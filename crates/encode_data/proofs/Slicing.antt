-- The loop that writes ragged values of the cells that a level counts, run by run.
-- Assumes nothing.
use mathlib.Core.Path.{◌≡◌, sym, ap, ◌∙◌}
use Prim.Native.Nat.{ℕ, ◌+◌, ◌-◌, ◌<◌, ◌≤◌}
use native.Mathlib.Nat.{le_trans}
use native.Mathlib.Omega.{arith}
use mathlib.Core.Bool.{Bool}
use mathlib.Core.List.{List, ◌∷◌}
use lib.ListN.{length, take, drop, get_or}
use Rattle.array.specs.Lists.{pick, from, joined, passing}
use Rattle.array.specs.Buffers.{over_at}
use Rattle.array.specs.Offsets.{last}
use Rattle.array.specs.Places.{offset_at, value_at, values_at}
use Rattle.array.proofs.Laying.{laying_left, laying_is}
use Rattle.array.proofs.Places.{run_rises, below, run_bytes, run_long}
use Rattle.live_cells.specs.Live.{run_of}
use Rattle.live_cells.proofs.Runs.{run_le, passing_end}
use Rattle.live_cells.proofs.LiveMarks.{zero_false, passing_next}
use Rattle.encode_cells.proofs.Gathering.{Gathering, gathering_begins, gathering_same, gathering_ends, gathering_room, gathering_more}
use Rattle.encode_data.specs.Offsets.{Offsets}
use Rattle.encode_data.proofs.Spans.{rises, ends-within}

pub record Slicing (t : ℕ → Bool) (n : ℕ) (os s d : List ℕ) (to : ℕ) (out : List ℕ) (i done : ℕ) : Type 0 where
  pub offsets : Offsets n os
  pub ended : last os ≡ length s
  pub gathers : Gathering t n (value_at (offset_at os) s) d to out i done

pub slicing_begins : {t : ℕ → Bool} {n : ℕ} {os s d : List ℕ} {to : ℕ}
    → Offsets n os → last os ≡ length s → to + length (joined (values_at (offset_at os) s (passing t (from 0 n)))) ≤ length d → Slicing t n os s d to d 0 0
slicing_begins o e h = record { offsets = o; ended = e; gathers = gathering_begins h }

module _ {t : ℕ → Bool} {n : ℕ} {os s d : List ℕ} {to : ℕ} {out : List ℕ} {i done : ℕ} (l : Slicing t n os s d to out i done) where
  pub slicing_same : length out ≡ length d
  slicing_same = gathering_same l.gathers

  pub slicing_ends : n ≤ i → out ≡ over_at to (joined (values_at (offset_at os) s (passing t (from 0 n)))) d
  slicing_ends h = gathering_ends l.gathers h

  pub slicing_wrote : n ≤ i → done ≡ length (joined (values_at (offset_at os) s (passing t (from 0 n))))
  slicing_wrote h =
      omega (
        arith,
        laying_left (joined (values_at (offset_at os) s (passing t (from 0 n)))) d to out done _ l.gathers.laid,
        ap (λ (is : List ℕ). length (joined (values_at (offset_at os) s is))) (passing_end t i n h),
      )

  -- a cell that does not count
  pub slicing_skip : i < n → {m : ℕ} → m ≡ pick (t i) 1 0 → m ≡ 0 → Slicing t n os s d to out (i + 1) done
  slicing_skip h e z =
      let rest : List ℕ = passing t (from (i + 1) (n - (i + 1))) in
      record {
        offsets = l.offsets;
        ended = l.ended;
        gathers = record {
          laid = laying_is l.gathers.laid
              (ap (λ (is : List ℕ). joined (values_at (offset_at os) s is)) (passing_next t i n h ∙ ap (λ (b : Bool). pick b (i ∷ rest) rest) (zero_false (t i) (sym e ∙ z))));
        };
      }

  module _ {r : ℕ} (e : r ≡ run_of t i (n - i)) (h : i < n) where
    within : i + r ≤ n
    within = omega (arith, run_le t i (n - i))

    pub slicing_inside : i + r < length os
    slicing_inside = omega (arith, l.offsets.counted, within)

    pub slicing_rises : get_or os i 0 ≤ get_or os (i + r) 0
    slicing_rises = run_rises (rises l.offsets) i r within

    pub slicing_source : get_or os (i + r) 0 ≤ length s
    slicing_source = le_trans (below (rises l.offsets) (i + r) within) (ends-within l.offsets l.ended)

    piece : joined (values_at (offset_at os) s (from i r)) ≡ take (get_or os (i + r) 0 - get_or os i 0) (drop (get_or os i 0) s)
    piece = run_bytes (rises l.offsets) s i r within

    long : length (take (get_or os (i + r) 0 - get_or os i 0) (drop (get_or os i 0) s)) ≡ get_or os (i + r) 0 - get_or os i 0
    long = run_long (rises l.offsets) s i r within slicing_source

    pub slicing_room : to + done + (get_or os (i + r) 0 - get_or os i 0) ≤ length out
    slicing_room = omega (arith, gathering_room l.gathers e piece, long)

    pub slicing_more : {out' : List ℕ} → out' ≡ over_at (to + done) (take (get_or os (i + r) 0 - get_or os i 0) (drop (get_or os i 0) s)) out
        → Slicing t n os s d to out' (i + (r + 1)) (done + (get_or os (i + r) 0 - get_or os i 0))
    slicing_more eo = record { offsets = l.offsets; ended = l.ended; gathers = gathering_more l.gathers e piece eo long }
