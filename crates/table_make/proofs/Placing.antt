-- Starts and lengths, cell by cell: what lies there, and how many bytes the cells before have.
-- Assumes nothing.
use mathlib.Core.Path.{◌≡◌, sym, ap₂, ◌∙◌}
use mathlib.Core.List.{List}
use Prim.Native.Nat.{ℕ, ◌+◌, ◌-◌, ◌*◌, ◌≤◌, ◌<◌}
use native.Mathlib.Nat.{zero-add}
use native.Mathlib.Omega.{arith}
use lib.ListN.{length, get_or, set}
use Rattle.array.specs.Places.{shown_at, offset_at}
use Rattle.live_cells.specs.Live.{live_one}
use Rattle.encode_data.specs.Offsets.{Offsets}
use Rattle.encode_data.proofs.Summing.{so_far_lem, so_far_all, Summing, summing_begins, summing_step, summing_more}
use Rattle.table.specs.Calls.{starts_at}
use Rattle.table_make.specs.Rested.{size_at, start_at}
use Rattle.rest_masks.proofs.Numbering.{Numbering, number_begins, number_more}

pub record Placing (n : ℕ) (ms : List ℕ) (d : ℕ) (os s₀ l₀ starts lengths : List ℕ) (to j : ℕ) : Type 0 where
  pub sums : Summing (shown_at n ms d) n os to j
  pub begins : Numbering (start_at n ms d os) n s₀ 0 starts j
  pub sizes : Numbering (size_at n ms d os) n l₀ 0 lengths j

pub place_begins : (n : ℕ) (ms : List ℕ) (d : ℕ) (os s l : List ℕ) → Offsets n os → n ≤ length s → n ≤ length l → Placing n ms d os s l s l 0 0
place_begins n ms d os s l o hs hl = record {
  sums = summing_begins o;
  begins = number_begins (start_at n ms d os) n s 0 (omega arith);
  sizes = number_begins (size_at n ms d os) n l 0 (omega arith);
}

module _ {n : ℕ} {ms : List ℕ} {d : ℕ} {os s₀ l₀ starts lengths : List ℕ} {to j : ℕ} (c : Placing n ms d os s₀ l₀ starts lengths to j) (h : j < n)
    {mark : ℕ} (e : mark ≡ live_one n ms d j) where
  size_is : (get_or os (j + 1) 0 - get_or os j 0) * mark ≡ size_at n ms d os j
  size_is =
      let all : to + (get_or os (j + 1) 0 - get_or os j 0) * mark ≡ so_far_lem (offset_at os) (shown_at n ms d) j + size_at n ms d os j = summing_step c.sums h e in
      omega (arith, all, c.sums.sum)

  pub place_more : {start : ℕ} → start ≡ starts_at to ((get_or os (j + 1) 0 - get_or os j 0) * mark)
      → Placing n ms d os s₀ l₀ (set starts j start) (set lengths j ((get_or os (j + 1) 0 - get_or os j 0) * mark)) (to + (get_or os (j + 1) 0 - get_or os j 0) * mark) (j + 1)
  place_more f = record {
    sums = summing_more c.sums h e;
    begins = number_more c.begins h (f ∙ ap₂ starts_at (c.sums.sum ∙ so_far_all (offset_at os) (shown_at n ms d) j) size_is) (sym (zero-add j));
    sizes = number_more c.sizes h size_is (sym (zero-add j));
  }
