-- docs/SPEC.md, S14.9 to S14.11: reading under two planes, and reading before and behind a cut and a merge, as claims over the calls and the buffers
-- lent to them. Each says that two ways through the calls end alike: answer and every lent byte of the last outputs, refusal 6 of these included.
-- Assumes nothing.
use Rattle.std.specs.Prelude.{ℕ, ◌≤◌, ◌<◌, ◌≡◌, List, [], ◌∷◌, map, length}
use Rattle.array.specs.Answer.{Answer, gives, refuses, and_then, Outcome}
use Rattle.array.specs.Lists.{joined, All}
use Rattle.array.specs.Kind.{Kind, KindOk}
use Rattle.array.specs.Shape.{volume, ShapeOk}
use Rattle.array.specs.Subset.{Subset, subset_of, NumbersOk}
use Rattle.array.specs.Content.{Content, Valid}
use Rattle.array.specs.declared.answer.Lengths.{Lengths}
use Rattle.array.specs.Buffers.{lengths_of, Enough, Taken, taken, whole}
use Rattle.rights.specs.Rights.{RightsOk, guest_form}
use Rattle.rights.specs.Calls.{guest_read}
use Rattle.chunks.specs.Cut.{cut_of}
use Rattle.chunks.specs.Chunks.{no_content, follow}
use Rattle.chunks.specs.Calls.{extracted, merged}
use Rattle.chunks.specs.Demand.{shape_of, Covers}
use Rattle.chunks.specs.ReadThenCut.{next_call}
use Rattle.rights_laws.specs.Planes.{both, plane_kind, plane_array}

-- outputs that are long enough for what a guest sees
abbrev pub Seen : Kind → List ℕ → List ℕ → Content → Content → Type 0
Seen k shape rights c out = Enough (guest_form k (volume shape) rights c) (lengths_of out)

-- ---- two planes

-- reading under the first plane and then, on the outcome, under the second
abbrev pub read_then_read : Kind → List ℕ → List ℕ → List ℕ → Content → Content → Content → Outcome Lengths Content
read_then_read k shape r s c seen out = next_call (taken (guest_read k shape r c seen)) (λ x. guest_read k shape s x out) out

pub record TwiceLaw (k : Kind) (shape r s : List ℕ) (c : Content) : Type 0 where
  -- is reading under what both show, in either order
  pub first : (seen out : Content) → Seen k shape r c seen → read_then_read k shape r s c seen out ≡ guest_read k shape (both r s) c out
  pub second : (seen out : Content) → Seen k shape s c seen → read_then_read k shape s r c seen out ≡ guest_read k shape (both r s) c out
  -- and under one plane twice it is reading once
  pub again : (seen out : Content) → Seen k shape r c seen → read_then_read k shape r r c seen out ≡ guest_read k shape r c out

abbrev pub Twice : Type 0
Twice = (k : Kind) (shape r s : List ℕ) (c : Content) → Valid k shape c → 0 < k.depth → RightsOk (volume shape) r → RightsOk (volume shape) s → TwiceLaw k shape r s c

-- ---- a cut

module _ (k : Kind) (shape rights ns : List ℕ) (c : Content) where
  abbrev pub read_then_cut : Content → Content → Outcome Lengths Content
  read_then_cut seen out = next_call (taken (guest_read k shape rights c seen)) (λ x. extracted k shape ns x out) out

  -- array and plane cut, and then read
  abbrev pub cut_then_read : Content → Content → Content → Outcome Lengths Content
  cut_then_read cut plane out =
      next_call (taken (extracted k shape ns c cut)) (λ a.
      next_call (taken (extracted plane_kind shape ns (plane_array rights) plane)) (λ p.
      guest_read k (shape_of shape ns) p.values a out) out) out

  -- of a subset that holds a cell
  pub record Cuttable : Type 0 where
    pub numbers : NumbersOk shape ns
    pub full : All (λ n. 1 ≤ n) (shape_of shape ns)

abbrev pub Cuts : Type 0
Cuts =
    (k : Kind) (shape rights ns : List ℕ) (c : Content) → Valid k shape c → 0 < k.depth → RightsOk (volume shape) rights → Cuttable k shape rights ns c
    → (seen cut plane : Content) → Seen k shape rights c seen → Enough (cut_of k shape c (subset_of (length shape) ns)) (lengths_of cut)
    → volume (shape_of shape ns) ≤ length plane.values
    → (out : Content) → read_then_cut k shape rights ns c seen out ≡ cut_then_read k shape rights ns c cut plane out

-- ---- a merge

-- one part of the list: where it lies, its array and its plane, and the outputs lent to read it
pub record Part : Type 0 where
  pub subset : List ℕ
  pub array : Content
  pub rights : List ℕ
  pub seen : Content

abbrev pub numbers_of : List Part → List ℕ
numbers_of ps = joined (map (λ (p : Part). p.subset) ps)

abbrev pub subsets_in : List ℕ → List Part → List Subset
subsets_in shape ps = map (λ (p : Part). subset_of (length shape) p.subset) ps

-- what is made of each part, laid end to end: its array, or its plane as one
abbrev pub laid_out : (Part → Content) → List Part → Content
laid_out f [] = no_content
laid_out f (p ∷ ps) = follow (f p) (laid_out f ps)

abbrev pub array_in : Part → Content
array_in p = p.array

abbrev pub plane_in : Part → Content
plane_in p = plane_array p.rights

module _ (k : Kind) (shape : List ℕ) where
  -- each part read under its plane, and all that was read laid end to end
  abbrev pub read_each : List Part → Answer Taken
  read_each [] = gives (whole no_content)
  read_each (p ∷ ps) =
      and_then (taken (guest_read k (shape_of shape p.subset) p.rights p.array p.seen)) (λ a.
      and_then (read_each ps) (λ b. gives (whole (follow a.content b.content))))

  abbrev pub read_then_merge : List Part → Content → Outcome Lengths Content
  read_then_merge ps out = next_call (read_each ps) (λ x. merged k shape (numbers_of ps) x out) out

  -- arrays and planes merged, and then read
  abbrev pub merge_then_read : List Part → Content → Content → Content → Outcome Lengths Content
  merge_then_read ps merge plane out =
      next_call (taken (merged k shape (numbers_of ps) (laid_out array_in ps) merge)) (λ a.
      next_call (taken (merged plane_kind shape (numbers_of ps) (laid_out plane_in ps) plane)) (λ p.
      guest_read k shape p.values a out) out) out

  pub record PartOk (p : Part) : Type 0 where
    pub numbers : NumbersOk shape p.subset
    pub full : All (λ n. 1 ≤ n) (shape_of shape p.subset)
    pub valid : Valid k (shape_of shape p.subset) p.array
    pub rights : RightsOk (volume (shape_of shape p.subset)) p.rights
    pub seen : Seen k (shape_of shape p.subset) p.rights p.array p.seen

-- of parts that cover the shape, where their merge before anything is hidden is not refused
abbrev pub Merges : Type 0
Merges =
    (k : Kind) (shape : List ℕ) → KindOk k → ShapeOk shape → 0 < k.depth
    → (ps : List Part) → All (PartOk k shape) ps → Covers shape (subsets_in shape ps)
    → (merge plane : Content) → ((e : ℕ) → (merged k shape (numbers_of ps) (laid_out array_in ps) merge).answer ≡ refuses e → ⊥)
    → volume shape ≤ length plane.values
    → (out : Content) → read_then_merge k shape ps out ≡ merge_then_read k shape ps merge plane out
