-- An arrangement by the states of its cells: how long its lists are, and how they are written, plane by plane and offset by offset.
use Rattle.std.proofs.Common.{◌≡◌, ℕ, suc, ◌+◌, ◌-◌, ◌*◌, ◌/◌, ◌^◌, ◌<◌, ◌≤◌, List, ◌∷◌, ◌++◌, map, length, replicate, set, sym, ap, ap₂, ◌∙◌, subst, arith, add-one}
use native.Mathlib.Nat.{zero-mul, suc-mul, sub-zero, zero-add, mod-lt}
use lib.ListN.{length-replicate, length-map}
use Rattle.array.specs.Lists.{from}
use Rattle.array.specs.Offsets.{ends, offsets_of}
use Rattle.array.specs.Cells.{Value}
use Rattle.array.specs.Places.{planes_by}
use Rattle.array.specs.Buffers.{over, over_at}
use Rattle.array.proofs.Laying.{Laying, laying_begins, laying_is, laying_part, laying_store, laying_ends}
use Rattle.array.proofs.Lists.{length_from_lem}
use Rattle.array.proofs.Offsets.{length-ends}
use Rattle.rest_masks.proofs.Numbering.{length_numbered}
use Rattle.rest_masks.proofs.Descending.{length_planes}
use Rattle.arrange.specs.Arrangement.{states}
use Rattle.arrange.specs.Places.{state_at, value_in}
use Rattle.arrange.proofs.Places.{arrangement_laid, zeros_laid}
use Rattle.arrangement.specs.declared.states.States.{States}
use Rattle.arrangement.specs.States.{stated, mask_by, ends_of}

-- ---- planes, the first l of d levels

pub record Planes (m : ℕ → ℕ → ℕ) (n d : ℕ) (d₀ out : List ℕ) (l : ℕ) : Type 0 where
  pub within : l ≤ d
  pub laid : Laying (planes_by m d 0 (from 0 n)) d₀ 0 out (l * n) (planes_by m (d - l) l (from 0 n))

pub planes_begin : (m : ℕ → ℕ → ℕ) (n d : ℕ) (out : List ℕ) → d * n ≤ length out → Planes m n d out out 0
planes_begin m n d out h = record {
  within = omega arith;
  laid = rw (zero-mul n, sub-zero d) (laying_begins (planes_by m d 0 (from 0 n)) out 0 (omega (arith, length_planes m n d 0)));
}

module _ {m : ℕ → ℕ → ℕ} {n d : ℕ} {d₀ out : List ℕ} {l : ℕ} (p : Planes m n d d₀ out l) where
  pub planes_more : l < d → {out' : List ℕ} → out' ≡ over_at (l * n) (map (m l) (from 0 n)) out → Planes m n d d₀ out' (l + 1)
  planes_more h {out'} e =
      let plane : List ℕ = map (m l) (from 0 n) in
      let more : d - l ≡ suc (d - suc l) = omega arith in
      let next : planes_by m (d - l) l (from 0 n) ≡ plane ++ planes_by m (d - (l + 1)) (l + 1) (from 0 n) =
      ap (λ (k : ℕ). planes_by m k l (from 0 n)) more ∙ ap (λ (i : ℕ). plane ++ planes_by m (d - i) i (from 0 n)) (sym (add-one l)) in
      let place : l * n ≡ 0 + l * n = omega arith in
      let behind : (l + 1) * n ≡ l * n + length plane = omega (arith, length_numbered (m l) n, suc-mul l n, ap (λ (i : ℕ). i * n) (add-one l)) in
      record {
        within = omega arith;
        laid = laying_part (planes_by m d 0 (from 0 n)) d₀ 0 out (l * n) plane _ (laying_is p.laid next) out'
            (e ∙ ap (λ (i : ℕ). over_at i plane out) place) ((l + 1) * n) behind;
      }

  pub planes_end : d ≤ l → out ≡ over (planes_by m d 0 (from 0 n)) d₀
  planes_end h =
      let none : d - l ≡ 0 = omega arith in
      laying_ends (planes_by m d 0 (from 0 n)) d₀ 0 out (l * n) (laying_is p.laid (ap (λ (k : ℕ). planes_by m k l (from 0 n)) none))

-- ---- offsets, of the first j of n cells

pub size_small : (d n k j : ℕ) → state_at d n k j - d ≤ 3
size_small d n k j = let l : state_at d n k j < states d = mod-lt (k / states d ^ (n - suc j)) (omega arith) in omega arith

pub record Ends (v : ℕ → Value) (n : ℕ) (d₀ out : List ℕ) (to j : ℕ) : Type 0 where
  pub within : j ≤ n
  pub few : to ≤ 3 * j
  pub laid : Laying (offsets_of (map v (from 0 n))) d₀ 0 out j (to ∷ ends to (map v (from j (n - j))))

pub count_offsets : (v : ℕ → Value) (n : ℕ) → length (offsets_of (map v (from 0 n))) ≡ n + 1
count_offsets v n = omega (arith, length-ends 0 (map v (from 0 n)), length-map (from 0 n) v, length_from_lem 0 n)

pub ends_begin : (v : ℕ → Value) (n : ℕ) (out : List ℕ) → n + 1 ≤ length out → Ends v n out out 0 0
ends_begin v n out h = record {
  within = omega arith;
  few = omega arith;
  laid = rw (sub-zero n) (laying_begins (offsets_of (map v (from 0 n))) out 0 (omega (arith, count_offsets v n)));
}

module _ {v : ℕ → Value} {n : ℕ} {d₀ out : List ℕ} {to j : ℕ} (e : Ends v n d₀ out to j) where
  stored : Laying (offsets_of (map v (from 0 n))) d₀ 0 (set out j to) (j + 1) (ends to (map v (from j (n - j))))
  stored =
      let all : List ℕ = offsets_of (map v (from 0 n)) in
      let rest : List ℕ = ends to (map v (from j (n - j))) in
      subst (λ (i : ℕ). Laying all d₀ 0 (set out i to) (j + 1) rest) (zero-add j) (laying_store all d₀ 0 out j to rest e.laid)

  pub ends_more : j < n → {size : ℕ} → size ≡ length (v j) → size ≤ 3 → Ends v n d₀ (set out j to) (to + size) (j + 1)
  ends_more h {size} s f =
      let more : n - j ≡ suc (n - suc j) = omega arith in
      record {
        within = omega arith;
        few = omega (arith, e.few);
        laid = laying_is stored
            (ap (λ (k : ℕ). ends to (map v (from j k))) more
            ∙ ap₂ (λ (x i : ℕ). (to + x) ∷ ends (to + x) (map v (from i (n - i)))) (sym s) (sym (add-one j)));
      }

  pub ends_end : j ≡ n → {x : ℕ} → x ≡ to → set out n x ≡ over (offsets_of (map v (from 0 n))) d₀
  ends_end h ex =
      let none : n - j ≡ 0 = omega arith in
      ap₂ (λ (i y : ℕ). set out i y) (sym h) ex
      ∙ laying_ends (offsets_of (map v (from 0 n))) d₀ 0 (set out j to) (j + 1) (laying_is stored (ap (λ (k : ℕ). ends to (map v (from j k))) none))

-- ---- the arrangement's own lists

module _ (s : States) where
  pub masks_are : (stated s).masks ≡ planes_by (mask_by s) s.depth 0 (from 0 s.cells)
  masks_are = ap (λ c. c.masks) (arrangement_laid s.depth s.cells s.number)

  pub offsets_are : (stated s).offsets ≡ ends_of s
  offsets_are = ap (λ c. c.offsets) (arrangement_laid s.depth s.cells s.number)

  pub values_are : (stated s).values ≡ replicate s.bytes 0
  values_are = zeros_laid s.depth s.cells s.number ∙ ap (λ (m : ℕ). replicate m 0) (sym s.digits.summed)

  pub masks_long : length (stated s).masks ≡ s.depth * s.cells
  masks_long = ap length masks_are ∙ length_planes (mask_by s) s.cells s.depth 0

  pub values_long : length (stated s).values ≡ s.bytes
  values_long = ap length values_are ∙ length-replicate {A = ℕ} s.bytes 0

  pub offsets_long : length (stated s).offsets ≡ s.cells + 1
  offsets_long = ap length offsets_are ∙ count_offsets (λ j. value_in s.depth (state_at s.depth s.cells s.number j)) s.cells
