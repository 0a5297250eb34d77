-- The loops that write what belongs to the cells that a level counts, run by run.
-- Assumes nothing.
use mathlib.Core.Path.{◌≡◌, sym, ap, ◌∙◌}
use Prim.Native.Nat.{ℕ, ◌+◌, ◌-◌, ◌*◌, ◌<◌, ◌≤◌}
use native.Mathlib.Nat.{mul-le-mul_right, add-mul, zero-add}
use native.Mathlib.Omega.{arith}
use mathlib.Core.Bool.{Bool}
use mathlib.Core.List.{List, ◌++◌, map}
use lib.ListN.{length, drop, length-append, length-map}
use Rattle.array.specs.Lists.{from, joined, pieces, passing, All}
use Rattle.array.specs.Buffers.{over_at}
use Rattle.array.specs.Kind.{Order, fixed, ordered}
use Rattle.array.specs.Cells.{Value}
use Rattle.array.specs.Places.{fixed_at, value_at, values_at}
use Rattle.array.proofs.Lists.{joined-append, map-append, map-map, length-joined, length_from_lem, All-image}
use Rattle.array.proofs.Geometry.{All-from}
use Rattle.array.proofs.Sizes.{length-ordered}
use Rattle.array.proofs.Laying.{Laying, laying_begins, laying_same, laying_left, laying_ends, laying_part, laying_is}
use Rattle.array.proofs.Places.{fixed_step, fixed_rises, value_long}
use Rattle.array.proofs.Numbered.{pieces_are}
use Rattle.codec.specs.Values.{put_values}
use Rattle.live_cells.specs.Live.{run_of}
use Rattle.encode_cells.proofs.Placing.{laid_as}
use Rattle.live_cells.proofs.Runs.{run_le, passing_run, passing_end, passing_start}

-- ---- by runs: g i is what cell i writes

abbrev pub whole_of : (ℕ → Bool) → ℕ → (ℕ → List ℕ) → List ℕ
whole_of t n g = joined (map g (passing t (from 0 n)))

abbrev pub left_from : (ℕ → Bool) → ℕ → (ℕ → List ℕ) → ℕ → List ℕ
left_from t n g i = joined (map g (passing t (from i (n - i))))

-- `done` bytes lie at `to` in what was d, and the cells from i on are left
pub record Gathering (t : ℕ → Bool) (n : ℕ) (g : ℕ → List ℕ) (d : List ℕ) (to : ℕ) (out : List ℕ) (i done : ℕ) : Type 0 where
  pub laid : Laying (whole_of t n g) d to out done (left_from t n g i)

pub gathering_begins : {t : ℕ → Bool} {n : ℕ} {g : ℕ → List ℕ} {d : List ℕ} {to : ℕ} → to + length (joined (map g (passing t (from 0 n)))) ≤ length d → Gathering t n g d to d 0 0
gathering_begins {t} {n} {g} {d} {to} h = record {
  laid = laying_is (laying_begins (whole_of t n g) d to h) (ap (λ (is : List ℕ). joined (map g is)) (sym (passing_start t n)));
}

module _ {t : ℕ → Bool} {n : ℕ} {g : ℕ → List ℕ} {d : List ℕ} {to : ℕ} {out : List ℕ} {i done : ℕ} (l : Gathering t n g d to out i done) where
  pub gathering_same : length out ≡ length d
  gathering_same = laying_same (whole_of t n g) d to out done (left_from t n g i) l.laid

  pub gathering_ends : n ≤ i → out ≡ over_at to (whole_of t n g) d
  gathering_ends h = laying_ends (whole_of t n g) d to out done (laying_is l.laid (ap (λ (is : List ℕ). joined (map g is)) (passing_end t i n h)))

  -- the next run writes x
  module _ {r : ℕ} (e : r ≡ run_of t i (n - i)) {x : List ℕ} (ex : joined (map g (from i r)) ≡ x) where
    next : left_from t n g i ≡ x ++ left_from t n g (i + (r + 1))
    next =
        ap (λ (is : List ℕ). joined (map g is)) (passing_run t i n e)
        ∙ ap joined (map-append g (from i r) (passing t (from (i + (r + 1)) (n - (i + (r + 1))))))
        ∙ joined-append (map g (from i r)) (map g (passing t (from (i + (r + 1)) (n - (i + (r + 1))))))
        ∙ ap (λ (y : List ℕ). y ++ left_from t n g (i + (r + 1))) ex

    pub gathering_room : to + done + length x ≤ length out
    gathering_room =
        omega (
          arith,
          gathering_same,
          l.laid.room,
          laying_left (whole_of t n g) d to out done (left_from t n g i) l.laid,
          ap length next,
          length-append x (left_from t n g (i + (r + 1))),
        )

    pub gathering_more : {out' : List ℕ} → out' ≡ over_at (to + done) x out → {k : ℕ} → length x ≡ k → Gathering t n g d to out' (i + (r + 1)) (done + k)
    gathering_more {out'} eo {k} ek = record {
      laid = laying_part (whole_of t n g) d to out done x (left_from t n g (i + (r + 1))) (laying_is l.laid next) out' eo (done + k) (ap (λ (m : ℕ). done + m) (sym ek));
    }

-- ---- values of one size

-- what the cells write
abbrev pub put_fixed : Order → ℕ → List ℕ → List ℕ → List ℕ
put_fixed o k s is = put_values (fixed k o) (values_at (fixed_at 0 k) s is)

-- what cell j writes
abbrev pub ordered_at : Order → ℕ → List ℕ → ℕ → Value
ordered_at o k s j = ordered o (value_at (fixed_at 0 k) s j)

module _ (o : Order) (k : ℕ) (s : List ℕ) where
  pub ordered-put : (is : List ℕ) → joined (map (ordered_at o k s) is) ≡ put_fixed o k s is
  unfolding put_values
  ordered-put is = ap joined (sym (map-map (value_at (fixed_at 0 k) s) (ordered o) is))

  -- the values of a run lie end to end
  pub run_pieces : (i r : ℕ) → joined (map (ordered_at o k s) (from i r)) ≡ joined (map (ordered o) (pieces k r (drop (i * k) s)))
  run_pieces i r =
      ap joined (sym (map-map (value_at (fixed_at 0 k) s) (ordered o) (from i r)) ∙ ap (map (ordered o)) (sym (pieces_are 0 k r i s (zero-add (i * k)))))

  pub ordered-sized : {n : ℕ} → n * k ≤ length s → (j : ℕ) → j < n → length (ordered_at o k s j) ≡ k
  ordered-sized {n} h j l = length-ordered o (value_at (fixed_at 0 k) s j) ∙ value_long (fixed_rises 0 k n) s (omega arith) j l ∙ fixed_step 0 k j

-- g j is what cell j writes, of size k
pub sized_long : (g : ℕ → List ℕ) (k : ℕ) (is : List ℕ) → All (λ j. length (g j) ≡ k) is → length (joined (map g is)) ≡ length is * k
sized_long g k is p = length-joined k (map g is) (All-image (λ v. length v ≡ k) g is p) ∙ ap (λ (m : ℕ). m * k) (length-map is g)

-- i pieces and then r more, of n
pub rows_fit : (i r n k : ℕ) → i + r ≤ n → i * k + r * k ≤ n * k
rows_fit i r n k h = omega (arith, mul-le-mul_right {m = i + r} {n = n} k h, add-mul i r k)

pub record Storing (o : Order) (k : ℕ) (s : List ℕ) (t : ℕ → Bool) (n : ℕ) (d : List ℕ) (to : ℕ) (out : List ℕ) (i done : ℕ) : Type 0 where
  pub source : n * k ≤ length s
  pub gathers : Gathering t n (ordered_at o k s) d to out i done

pub storing_begins : {o : Order} {k : ℕ} {s : List ℕ} {t : ℕ → Bool} {n : ℕ} {d : List ℕ} {to : ℕ}
    → n * k ≤ length s → to + length (put_fixed o k s (passing t (from 0 n))) ≤ length d → Storing o k s t n d to d 0 0
storing_begins {o} {k} {s} {t} {n} q h = record { source = q; gathers = gathering_begins (omega (arith, ap length (ordered-put o k s (passing t (from 0 n))))) }

module _ {o : Order} {k : ℕ} {s : List ℕ} {t : ℕ → Bool} {n : ℕ} {d : List ℕ} {to : ℕ} {out : List ℕ} {i done : ℕ} (l : Storing o k s t n d to out i done) where
  pub storing_same : length out ≡ length d
  storing_same = gathering_same l.gathers

  pub storing_ends : n ≤ i → out ≡ over_at to (put_fixed o k s (passing t (from 0 n))) d
  storing_ends h = laid_as to d (gathering_ends l.gathers h) (ordered-put o k s (passing t (from 0 n)))

  module _ {r : ℕ} (e : r ≡ run_of t i (n - i)) (h : i < n) where
    pub storing_within : i + r ≤ n
    storing_within = omega (arith, run_le t i (n - i))

    pub storing_source : i * k + r * k ≤ length s
    storing_source = omega (arith, l.source, rows_fit i r n k storing_within)

    long : length (joined (map (ordered o) (pieces k r (drop (i * k) s)))) ≡ r * k
    long =
        ap length (sym (run_pieces o k s i r))
        ∙ sized_long (ordered_at o k s) k (from i r) (All-from (λ j. length (ordered_at o k s j) ≡ k) i r (λ j a b. ordered-sized o k s l.source j (omega (arith, storing_within))))
        ∙ ap (λ (m : ℕ). m * k) (length_from_lem i r)

    pub storing_room : to + done + r * k ≤ length out
    storing_room = omega (arith, gathering_room l.gathers e (run_pieces o k s i r), long)

    pub storing_more : {out' : List ℕ} → out' ≡ over_at (to + done) (joined (map (ordered o) (pieces k r (drop (i * k) s)))) out
        → Storing o k s t n d to out' (i + (r + 1)) (done + r * k)
    storing_more eo = record { source = l.source; gathers = gathering_more l.gathers e (run_pieces o k s i r) eo long }

pub ruleset storing_laws = (run_le, storing_same, storing_source, storing_room)
