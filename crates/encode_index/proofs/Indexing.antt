-- The loops that write an index: of the cells that a level counts, cell by cell; and of all offsets.
-- Assumes nothing.
use mathlib.Core.Path.{◌≡◌, refl, sym, ap, ap₂, ◌∙◌}
use Prim.Native.Nat.{ℕ, zero, suc, ◌+◌, ◌-◌, ◌*◌, ◌<◌, ◌≤◌}
use native.Mathlib.Numerals.{add-one}
use native.Mathlib.Omega.{arith}
use mathlib.Core.Bool.{Bool, true, false}
use mathlib.Core.List.{List, ◌∷◌, ◌++◌, map}
use lib.ListN.{length, drop, get_or, length-append, drop_of_length-le}
use lib.Seq.{drop-cons}
use Rattle.array.specs.Lists.{pick, from, joined, passing}
use Rattle.array.specs.Buffers.{over_at}
use Rattle.array.specs.Bytes.{le}
use Rattle.array.specs.Places.{ends_at, offset_at, step_at}
use Rattle.array.proofs.Bytes.{length-le}
use Rattle.array.proofs.Lists.{map-map}
use Rattle.array.proofs.Laying.{Laying, laying_begins, laying_same, laying_left, laying_ends, laying_part, laying_is}
use Rattle.codec.specs.Ragged.{index_of}
use Rattle.encode_cells.proofs.Packing.{Packing, packing_begins, packing_same, packing_ends, packing_cell, packing_room, packing_more}
use Rattle.array.proofs.Lists.{length_from_lem}
use Rattle.live_cells.proofs.Runs.{passing-le}
use Rattle.encode_data.specs.Offsets.{Offsets}
use Rattle.encode_data.proofs.Spans.{places_long, places_rise}
use Rattle.encode_data.proofs.Summing.{so_far_lem, Summing, summing_begins, summing_step, summing_more}

-- ---- of the cells that a level counts

-- what cell j writes: where it ends, or, if it does not count, where the one before it does
abbrev end_of : ℕ → (ℕ → ℕ) → (ℕ → Bool) → ℕ → List ℕ
end_of w off t j = le w (so_far_lem off t (suc j))

ends_so_far : (off : ℕ → ℕ) (t : ℕ → Bool) (i m : ℕ) → map (λ j. so_far_lem off t (suc j)) (passing t (from i m)) ≡ ends_at off (so_far_lem off t i) (passing t (from i m))
ends_so_far off t i zero = refl
ends_so_far off t i (suc m) = go (t i) refl (ends_so_far off t (suc i) m)
  where
    go : (b : Bool) → t i ≡ b → map (λ j. so_far_lem off t (suc j)) (passing t (from (suc i) m)) ≡ ends_at off (so_far_lem off t (suc i)) (passing t (from (suc i) m))
        → map (λ j. so_far_lem off t (suc j)) (pick b (i ∷ passing t (from (suc i) m)) (passing t (from (suc i) m)))
        ≡ ends_at off (so_far_lem off t i) (pick b (i ∷ passing t (from (suc i) m)) (passing t (from (suc i) m)))
    go true e ih =
        let q : so_far_lem off t (suc i) ≡ so_far_lem off t i + step_at off i = ap (λ (b : Bool). so_far_lem off t i + pick b (step_at off i) 0) e in
        ap₂ (λ (x : ℕ) (r : List ℕ). x ∷ r) q (ih ∙ ap (λ (x : ℕ). ends_at off x (passing t (from (suc i) m))) q)
    go false e ih =
        let q : so_far_lem off t (suc i) ≡ so_far_lem off t i = ap (λ (b : Bool). so_far_lem off t i + pick b (step_at off i) 0) e ∙ omega arith in
        ih ∙ ap (λ (x : ℕ). ends_at off x (passing t (from (suc i) m))) q

index_whole : (w : ℕ) (off : ℕ → ℕ) (t : ℕ → Bool) (n : ℕ) → joined (map (end_of w off t) (passing t (from 0 n))) ≡ index_of w (ends_at off 0 (passing t (from 0 n)))
index_whole w off t n = ap joined (sym (map-map (λ j. so_far_lem off t (suc j)) (le w) (passing t (from 0 n)))) ∙ ap (index_of w) (ends_so_far off t 0 n)

pub record Indexing (t : ℕ → Bool) (n w : ℕ) (os d : List ℕ) (to : ℕ) (out : List ℕ) (i total done : ℕ) : Type 0 where
  pub sums : Summing t n os total i
  pub packs : Packing t n (end_of w (offset_at os) t) w d to out i done

pub indexing_begins : {t : ℕ → Bool} {n w : ℕ} {os d : List ℕ} {to : ℕ} → Offsets n os
    → to + length (index_of w (ends_at (offset_at os) 0 (passing t (from 0 n)))) ≤ length d → Indexing t n w os d to d 0 0 0
indexing_begins {t} {n} {w} {os} {d} {to} o h =
    record { sums = summing_begins o; packs = packing_begins (λ j q. length-le w (so_far_lem (offset_at os) t (suc j))) (omega (arith, ap length (index_whole w (offset_at os) t n))) }

module _ {t : ℕ → Bool} {n w : ℕ} {os d : List ℕ} {to : ℕ} {out : List ℕ} {i total done : ℕ} (l : Indexing t n w os d to out i total done) where
  pub indexing_same : length out ≡ length d
  indexing_same = packing_same l.packs

  pub indexing_ends : length (passing t (from 0 n)) ≤ done → out ≡ over_at to (index_of w (ends_at (offset_at os) 0 (passing t (from 0 n)))) d
  indexing_ends h = packing_ends l.packs h ∙ ap (λ (x : List ℕ). over_at to x d) (index_whole w (offset_at os) t n)

  module _ {count : ℕ} (ec : count ≡ length (passing t (from 0 n))) (left : done < count) where
    h : done < length (passing t (from 0 n))
    h = omega arith

    pub indexing_inside : i < n
    indexing_inside = packing_cell l.packs h

    pub indexing_room : to + done * w + w ≤ length out
    indexing_room = packing_room l.packs h

    module _ {m : ℕ} (em : m ≡ pick (t i) 1 0) {k : ℕ} (ek : k ≡ w) where
      pub indexing_more : {out' : List ℕ} → out' ≡ over_at (to + done * k) (le w (total + (get_or os (i + 1) 0 - get_or os i 0) * m)) out
          → Indexing t n w os d to out' (i + 1) (total + (get_or os (i + 1) 0 - get_or os i 0) * m) (done + m)
      indexing_more eo = record {
        sums = summing_more l.sums indexing_inside em;
        packs = packing_more l.packs h
            (eo ∙ ap₂ (λ (x y : ℕ). over_at (to + done * x) (le w y) out) ek (summing_step l.sums indexing_inside em)) (ap (λ (x : ℕ). done + x) em);
      }

pub ruleset index_laws = (passing-le, length_from_lem, places_long, places_rise)

-- ---- of all offsets

pub record Listing (w : ℕ) (os d : List ℕ) (to : ℕ) (out : List ℕ) (j done : ℕ) : Type 0 where
  pub laid : Laying (index_of w os) d to out done (index_of w (drop j os))

pub listing_begins : {w : ℕ} {os d : List ℕ} {to : ℕ} → to + length (index_of w os) ≤ length d → Listing w os d to d 0 0
listing_begins {w} {os} {d} {to} h = record { laid = laying_begins (index_of w os) d to h }

module _ {w : ℕ} {os d : List ℕ} {to : ℕ} {out : List ℕ} {j done : ℕ} (l : Listing w os d to out j done) where
  pub listing_same : length out ≡ length d
  listing_same = laying_same (index_of w os) d to out done (index_of w (drop j os)) l.laid

  pub listing_ends : length os ≤ j → out ≡ over_at to (index_of w os) d
  listing_ends h = laying_ends (index_of w os) d to out done (laying_is l.laid (ap (index_of w) (drop_of_length-le os {i = j} h)))

  module _ (h : j < length os) where
    listed : index_of w (drop j os) ≡ le w (get_or os j 0) ++ index_of w (drop (j + 1) os)
    listed =
        ap (index_of w) (drop-cons os j 0 h)
        ∙ ap (λ (m : ℕ). le w (get_or os j 0) ++ index_of w (drop m os)) (sym (add-one j))

    pub listing_room : to + done + w ≤ length out
    listing_room =
        omega (
          arith,
          listing_same,
          l.laid.room,
          laying_left (index_of w os) d to out done (index_of w (drop j os)) l.laid,
          ap length listed,
          length-append (le w (get_or os j 0)) (index_of w (drop (j + 1) os)),
          length-le w (get_or os j 0),
        )

    pub listing_more : {out' : List ℕ} → out' ≡ over_at (to + done) (le w (get_or os j 0)) out → {k : ℕ} → k ≡ w → Listing w os d to out' (j + 1) (done + k)
    listing_more {out'} eo {k} ek = record {
      laid = laying_part (index_of w os) d to out done (le w (get_or os j 0)) (index_of w (drop (j + 1) os)) (laying_is l.laid listed) out' eo
          (done + k) (ap (λ (m : ℕ). done + m) (ek ∙ sym (length-le w (get_or os j 0))));
    }
