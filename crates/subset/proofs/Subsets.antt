-- A loop over a list of subsets, whatever it does with them: what is left is subsets again, and begins with the next one.
-- Assumes nothing.
use mathlib.Core.Path.{◌≡◌, sym, ap, ap₂, ◌∙◌, subst}
use Prim.Native.Nat.{ℕ, ◌+◌, ◌-◌, ◌*◌, ◌%◌, ◌≤◌}
use native.Mathlib.Omega.{arith}
use mathlib.Core.List.{List, [], ◌∷◌}
use lib.ListN.{length, take, drop, drop_of_length-le}
use lib.Seq.{drop-drop}
use Rattle.array.specs.Lists.{All}
use Rattle.array.specs.Subset.{Subset, subsets_of, SubsetOk, FullOk, pairs}
use Rattle.array.specs.Rows.{Within, FewCells}
use Rattle.array.proofs.Lists.{All-map}
use Rattle.array.proofs.SubsetLists.{starts_at, lengths_at, subsets_none, next_room, next_whole, next_subset, within_at}
use Rattle.subset.specs.Subsets.{SubsetsOk}
use Rattle.subset.proofs.Index.{few_within}

-- full subsets lie within the shape
pub all_inside : (sh : List ℕ) (bs : List Subset) → All (FullOk sh) bs → All (SubsetOk sh) bs
all_inside sh bs p = All-map (FullOk sh) (SubsetOk sh) (λ b f. f.fits) bs p

-- no numbers are no subsets
pub none_left : (d : ℕ) (flat : List ℕ) → length flat ≤ 0 → subsets_of d flat ≡ []
none_left d flat h = ap (subsets_of d) (drop_of_length-le flat h) ∙ subsets_none d

-- numbers that are at least one subset: the first, and the others
pub next_split : (d : ℕ) (flat : List ℕ) → 1 ≤ d → length flat % (2 * d) ≡ 0 → 1 ≤ length flat
    → subsets_of d flat ≡ pairs (take d flat) (take d (drop d flat)) ∷ subsets_of d (drop d (drop d flat))
next_split d flat p w h =
    let z : 0 + d ≡ d = omega arith in
    let zd : 0 + d - 0 ≡ d = omega arith in
    let zl : 0 + d + d - (0 + d) ≡ d = omega arith in
    let first : starts_at d 0 flat ≡ take d flat = ap (λ (k : ℕ). take k flat) zd in
    let second : lengths_at d 0 flat ≡ take d (drop d flat) = ap₂ (λ (k j : ℕ). take k (drop j flat)) zl z in
    let others : drop (0 + d + d) flat ≡ drop d (drop d flat) = ap (λ (k : ℕ). drop (k + d) flat) z ∙ sym (drop-drop d d flat) in
    rw (first, second, others) at (next_subset d 0 flat p w h)

-- as a call splits them: the starts and the lengths of the first, and the others
pub record Split (sh flat starts lens others : List ℕ) : Type 0 where
  pub next : subsets_of (length sh) flat ≡ pairs starts lens ∷ subsets_of (length sh) others
  pub within : Within sh starts lens
  pub few : FewCells lens
  pub rest : SubsetsOk sh others

module _ {sh : List ℕ} (flat : List ℕ) (q : SubsetsOk sh flat) (h : 1 ≤ length flat) where
  pub split_room : length sh + length sh ≤ length flat
  split_room = omega (arith, next_room (length sh) 0 flat q.shaped.some_sides q.many.counted h)

  pub split_first : {starts behind lens others : List ℕ} → starts ≡ take (length sh) flat → behind ≡ drop (length sh) flat
      → lens ≡ take (length sh) behind → others ≡ drop (length sh) behind → Split sh flat starts lens others
  split_first {starts} {behind} {lens} {others} es eb el eo =
      let d : ℕ = length sh in
      let z : 0 + d ≡ d = omega arith in
      let zd : 0 + d - 0 ≡ d = omega arith in
      let zl : 0 + d + d - (0 + d) ≡ d = omega arith in
      let first : starts_at d 0 flat ≡ starts = ap (λ (k : ℕ). take k flat) zd ∙ sym es in
      let second : lengths_at d 0 flat ≡ lens = ap₂ (λ (k j : ℕ). take k (drop j flat)) zl z ∙ ap (take d) (sym eb) ∙ sym el in
      let third : drop (0 + d + d) flat ≡ others = ap (λ (k : ℕ). drop (k + d) flat) z ∙ sym (drop-drop d d flat) ∙ ap (drop d) (sym eb) ∙ sym eo in
      let next : subsets_of d flat ≡ pairs starts lens ∷ subsets_of d others =
      rw (first, second, third) at (next_subset d 0 flat q.shaped.some_sides q.many.counted h) in
      let each : All (FullOk sh) (pairs starts lens ∷ subsets_of d others) = subst (All (FullOk sh)) next q.many.each in
      let within : Within sh starts lens = rw (first, second) at (within_at sh flat 0 (omega (arith, split_room)) (rw (first, second) each.0.fits)) in
      record {
        next = next;
        within = within;
        few = few_within starts lens q.shaped within;
        rest = record { shaped = q.shaped; many = record { counted = rw third at (next_whole d 0 flat q.shaped.some_sides q.many.counted h); each = each.1 } };
      }
