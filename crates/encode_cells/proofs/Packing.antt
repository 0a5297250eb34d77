-- The loops without a branch: what belongs to a cell is written whether the level counts the cell or not, and only one that it counts is gone
-- past. So the next cell is written over one that is not counted, and the loop ends with the last that is.
-- Assumes nothing.
use mathlib.Core.Path.{◌≡◌, refl, sym, ap, ◌∙◌, subst}
use Prim.Native.Nat.{ℕ, suc, ◌+◌, ◌-◌, ◌*◌, ◌<◌, ◌≤◌}
use native.Mathlib.Nat.{zero-mul, one-mul, suc-mul, mul-le-mul_right}
use native.Mathlib.Numerals.{add-one}
use native.Mathlib.Omega.{arith}
use mathlib.Core.Bool.{Bool, true, false}
use mathlib.Core.List.{List, [], ◌∷◌, map}
use lib.ListN.{length, take, drop}
use Rattle.array.specs.Lists.{pick, from, joined, pieces, passing}
use Rattle.array.specs.Buffers.{over_at}
use Rattle.array.specs.Kind.{Order, ordered}
use Rattle.array.specs.Cells.{Value}
use Rattle.array.specs.Places.{fixed_at, values_at, masks_at, shown_at}
use Rattle.array.proofs.Lists.{length_from_lem}
use Rattle.array.proofs.Geometry.{All-from}
use Rattle.array.proofs.Over.{over_at_length}
use Rattle.array.proofs.Laying.{Laying, laying_same, laying_left, laying_ends, laying_part, laying_is}
use Rattle.live_cells.specs.Live.{live_at, Planes}
use Rattle.array.proofs.Numbered.{pieces_are, plane_is}
use Rattle.codec.specs.Values.{put_values}
use Rattle.live_cells.proofs.Runs.{passing-le, passing_start, All-passing, all_counted}
use Rattle.live_cells.proofs.LiveMarks.{passing_next}
use Rattle.encode_cells.proofs.Placing.{at_none, at_again}
use Rattle.encode_cells.proofs.Gathering.{whole_of, left_from, gathering_begins, put_fixed, ordered_at, ordered-put, ordered-sized, sized_long}

pub none_left : (l : List ℕ) → length l ≡ 0 → l ≡ []
none_left [] e = refl
none_left (x ∷ l) e = absurd (omega arith)

-- g i is what cell i writes, of size k
passing_long : (t : ℕ → Bool) (g : ℕ → List ℕ) (k i m : ℕ) → ((j : ℕ) → i ≤ j → j < i + m → length (g j) ≡ k)
    → length (joined (map g (passing t (from i m)))) ≡ length (passing t (from i m)) * k
passing_long t g k i m sz =
    let P : ℕ → Type 0 = λ j. length (g j) ≡ k in sized_long g k (passing t (from i m)) (All-passing t P (from i m) (All-from P i m sz))

-- `done` cells lie at `to` in what was d, and behind them what a cell that is not counted left; the cells from i on are left
pub record Packing (t : ℕ → Bool) (n : ℕ) (g : ℕ → List ℕ) (k : ℕ) (d : List ℕ) (to : ℕ) (out : List ℕ) (i done : ℕ) : Type 0 where
  pub sized : (j : ℕ) → j < n → length (g j) ≡ k
  pub clean : List ℕ
  pub junk : List ℕ
  pub laid : Laying (whole_of t n g) d to clean (done * k) (left_from t n g i)
  pub here : out ≡ over_at (to + done * k) junk clean
  pub short : length junk ≤ k
  pub inside : done * k + length junk ≤ length (whole_of t n g)
  pub counted : done + length (passing t (from i (n - i))) ≡ length (passing t (from 0 n))

pub packing_begins : {t : ℕ → Bool} {n : ℕ} {g : ℕ → List ℕ} {k : ℕ} {d : List ℕ} {to : ℕ}
    → ((j : ℕ) → j < n → length (g j) ≡ k) → to + length (joined (map g (passing t (from 0 n)))) ≤ length d → Packing t n g k d to d 0 0
packing_begins {t} {n} {g} {k} {d} {to} sz h =
    let z : 0 * k ≡ 0 = zero-mul k in
    record {
      sized = sz;
      clean = d;
      junk = [];
      laid = subst (λ (m : ℕ). Laying (whole_of t n g) d to d m (left_from t n g 0)) (sym z) (gathering_begins {t = t} {n = n} {g = g} {d = d} {to = to} h).laid;
      here = at_none (to + 0 * k) d (omega arith);
      short = omega arith;
      inside = omega arith;
      counted = omega (arith, ap length (passing_start t n));
    }

module _ {t : ℕ → Bool} {n : ℕ} {g : ℕ → List ℕ} {k : ℕ} {d : List ℕ} {to : ℕ} {out : List ℕ} {i done : ℕ} (p : Packing t n g k d to out i done) where
  whole_long : done * k + length (left_from t n g i) ≡ length (whole_of t n g)
  whole_long = laying_left (whole_of t n g) d to p.clean (done * k) (left_from t n g i) p.laid

  clean_same : length p.clean ≡ length d
  clean_same = laying_same (whole_of t n g) d to p.clean (done * k) (left_from t n g i) p.laid

  pub packing_same : length out ≡ length d
  packing_same =
      ap length p.here
      ∙ over_at_length (to + done * k) p.junk p.clean (omega (arith, p.inside, p.laid.room, clean_same))
      ∙ clean_same

  pub packing_ends : length (passing t (from 0 n)) ≤ done → out ≡ over_at to (whole_of t n g) d
  packing_ends h =
      let e : passing t (from i (n - i)) ≡ [] = none_left (passing t (from i (n - i))) (omega (arith, p.counted)) in
      let el : left_from t n g i ≡ [] = ap (λ (is : List ℕ). joined (map g is)) e in
      let ej : p.junk ≡ [] = none_left p.junk (omega (arith, p.inside, whole_long, ap length el)) in
      p.here ∙ ap (λ (x : List ℕ). over_at (to + done * k) x p.clean) ej ∙ sym (at_none (to + done * k) p.clean (omega (arith, p.inside, p.laid.room, clean_same)))
      ∙ laying_ends (whole_of t n g) d to p.clean (done * k) (laying_is p.laid el)

  -- a cell that is counted is still left
  module _ (h : done < length (passing t (from 0 n))) where
    pub packing_cell : i < n
    packing_cell = omega (arith, p.counted, passing-le t (from i (n - i)), length_from_lem i (n - i))

    fits : done * k + k ≤ length (whole_of t n g)
    fits =
        let m : ℕ = length (passing t (from i (n - i))) in
        omega (arith, whole_long, passing_long t g k i (n - i) (λ j a b. p.sized j (omega arith)), mul-le-mul_right {m = 1} {n = m} k (omega (arith, p.counted)), one-mul k)

    pub packing_room : to + done * k + k ≤ length out
    packing_room = omega (arith, fits, p.laid.room, packing_same)

    pub packing_more : {out' : List ℕ} → out' ≡ over_at (to + done * k) (g i) out → {done' : ℕ} → done' ≡ done + pick (t i) 1 0 → Packing t n g k d to out' (i + 1) done'
    packing_more {out'} eo {done'} ed = go (t i) refl
      where
        rest : List ℕ
        rest = passing t (from (i + 1) (n - (i + 1)))

        long : length (g i) ≡ k
        long = p.sized i packing_cell

        q : out' ≡ over_at (to + done * k) (g i) p.clean
        q = eo ∙ ap (over_at (to + done * k) (g i)) p.here ∙ at_again (to + done * k) (g i) p.junk p.clean (omega (arith, p.inside, p.laid.room, clean_same)) (omega (arith, long, p.short))

        kept : length out' ≡ length d
        kept = ap length q ∙ over_at_length (to + done * k) (g i) p.clean (omega (arith, long, fits, p.laid.room, clean_same)) ∙ clean_same

        go : (b : Bool) → t i ≡ b → Packing t n g k d to out' (i + 1) done'
        go true e =
            let es : passing t (from i (n - i)) ≡ i ∷ rest = passing_next t i n packing_cell ∙ ap (λ (c : Bool). pick c (i ∷ rest) rest) e in
            let e1 : done' ≡ done + 1 = ed ∙ ap (λ (c : Bool). done + pick c 1 0) e in
            let ek : done' * k ≡ done * k + k = ap (λ (m : ℕ). m * k) (e1 ∙ add-one done) ∙ suc-mul done k in
            record {
              sized = p.sized;
              clean = out';
              junk = [];
              laid = laying_part (whole_of t n g) d to p.clean (done * k) (g i) (joined (map g rest)) (laying_is p.laid (ap (λ (is : List ℕ). joined (map g is)) es)) out' q
                  (done' * k) (omega (arith, long));
              here = at_none (to + done' * k) out' (omega (arith, fits, p.laid.room, kept));
              short = omega arith;
              inside = omega (arith, fits);
              counted = omega (arith, p.counted, ap length es);
            }
        go false e =
            let es : passing t (from i (n - i)) ≡ rest = passing_next t i n packing_cell ∙ ap (λ (c : Bool). pick c (i ∷ rest) rest) e in
            let e1 : done ≡ done' = sym (ed ∙ ap (λ (c : Bool). done + pick c 1 0) e ∙ omega arith) in
            subst (λ (m : ℕ). Packing t n g k d to out' (i + 1) m) e1 (record {
              sized = p.sized;
              clean = p.clean;
              junk = g i;
              laid = laying_is p.laid (ap (λ (is : List ℕ). joined (map g is)) es);
              here = q;
              short = omega (arith, long);
              inside = omega (arith, fits, long);
              counted = omega (arith, p.counted, ap length es);
            })

-- ---- values of one size

pub piece_in : (k : ℕ) {i n m : ℕ} → i < n → n * k ≤ m → i * k + k ≤ m
piece_in k {i} {n} {m} h q = omega (arith, mul-le-mul_right {m = suc i} {n = n} k h, suc-mul i k)

pub fixed_long : (o : Order) (k : ℕ) (s : List ℕ) (t : ℕ → Bool) (n : ℕ) → n * k ≤ length s
    → length (put_fixed o k s (passing t (from 0 n))) ≡ length (passing t (from 0 n)) * k
fixed_long o k s t n h =
    ap length (sym (ordered-put o k s (passing t (from 0 n)))) ∙ passing_long t (ordered_at o k s) k 0 n (λ j a b. ordered-sized o k s h j (omega arith))

-- where every cell is counted, they lie end to end
pub all_pieces : (o : Order) (k : ℕ) (s : List ℕ) (t : ℕ → Bool) {n : ℕ} {count : ℕ} → count ≡ length (passing t (from 0 n)) → count ≡ n
    → joined (map (ordered o) (pieces k n (drop 0 s))) ≡ put_fixed o k s (passing t (from 0 n))
unfolding put_values
all_pieces o k s t {n = n} ec en =
    ap (λ (vs : List Value). joined (map (ordered o) vs))
    (pieces_are 0 k n 0 s {at = 0} (omega (arith, zero-mul k)) ∙ ap (values_at (fixed_at 0 k) s) (sym (all_counted t (sym ec ∙ en))))

pub all_long : (o : Order) (k : ℕ) (s : List ℕ) (t : ℕ → Bool) {n : ℕ} {count : ℕ} → n * k ≤ length s → count ≡ length (passing t (from 0 n)) → count ≡ n
    → length (put_fixed o k s (passing t (from 0 n))) ≡ n * k
all_long o k s t {n = n} h ec en = fixed_long o k s t n h ∙ ap (λ (m : ℕ). m * k) (sym ec ∙ en)

-- ---- the planes of levels

-- of fewer levels
pub planes_to : {n : ℕ} {masks : List ℕ} {d l : ℕ} → Planes n masks d → l ≤ d → Planes n masks l
planes_to {n} {masks} {d} {l} p h = record { shallow = omega (arith, p.shallow); few = p.few; planes = omega (arith, p.planes, mul-le-mul_right {m = l} {n = d} n h) }

module _ (n : ℕ) (masks : List ℕ) (l : ℕ) (h : (l + 1) * n ≤ length masks) where
  pub mask_plane : l * n + n ≤ length masks
  mask_plane = omega (arith, h, suc-mul l n, ap (λ (m : ℕ). m * n) (add-one l))

  pub mask_all : {count : ℕ} → count ≡ length (live_at n masks l) → count ≡ n → take n (drop (l * n) masks) ≡ masks_at n masks l (live_at n masks l)
  mask_all ec en = plane_is n masks l mask_plane ∙ ap (masks_at n masks l) (sym (all_counted (shown_at n masks l) (sym ec ∙ en)))
