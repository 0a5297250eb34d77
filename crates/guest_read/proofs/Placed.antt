-- Where cells begin, of which some are shown, stored cell by cell, and how many bytes the cells before have.
-- Assumes nothing.
use mathlib.Core.Path.{◌≡◌, sym, ◌∙◌}
use mathlib.Core.Bool.{Bool}
use mathlib.Core.List.{List}
use Prim.Native.Nat.{ℕ, ◌+◌, ◌-◌, ◌*◌, ◌≤◌, ◌<◌}
use native.Mathlib.Nat.{zero-add}
use native.Mathlib.Omega.{arith}
use lib.ListN.{length, get_or, set}
use Rattle.array.specs.Lists.{pick}
use Rattle.array.specs.Buffers.{over}
use Rattle.array.specs.Places.{offset_at}
use Rattle.encode_data.specs.Offsets.{Offsets}
use Rattle.encode_data.proofs.Summing.{so_far_all, Summing, summing_begins, summing_more}
use Rattle.rest_masks.proofs.Numbering.{Numbering, number_begins, number_same, number_more, number-ends}
use Rattle.guest_read.specs.Seen.{place_by, places_by}

pub record Placed (t : ℕ → Bool) (n : ℕ) (os out₀ out : List ℕ) (to j : ℕ) : Type 0 where
  pub sums : Summing t n os to j
  pub places : Numbering (place_by t os) (n + 1) out₀ 0 out j

pub placed_begins : (t : ℕ → Bool) {n : ℕ} {os out : List ℕ} → Offsets n os → n < length out → Placed t n os out out 0 0
placed_begins t {n} {os} {out} o h = record { sums = summing_begins o; places = number_begins (place_by t os) (n + 1) out 0 (omega arith) }

module _ {t : ℕ → Bool} {n : ℕ} {os out₀ out : List ℕ} {to j : ℕ} (c : Placed t n os out₀ out to j) where
  pub placed_same : length out ≡ length out₀
  placed_same = number_same c.places

  place_here : to ≡ place_by t os j
  place_here = c.sums.sum ∙ so_far_all (offset_at os) t j

  pub placed_more : j < n → {mark : ℕ} → mark ≡ pick (t j) 1 0 → Placed t n os out₀ (set out j to) (to + (get_or os (j + 1) 0 - get_or os j 0) * mark) (j + 1)
  placed_more h e = record {
    sums = summing_more c.sums h e;
    places = number_more c.places (omega arith) place_here (sym (zero-add j));
  }

  pub placed-ends : n ≤ j → set out j to ≡ over (places_by t os (n + 1)) out₀
  placed-ends h =
      let last : j ≡ n = omega (arith, c.sums.within) in
      number-ends (number_more c.places (omega arith) place_here (sym (zero-add j))) (omega arith)
