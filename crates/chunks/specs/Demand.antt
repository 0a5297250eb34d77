-- docs/SPEC.md, S8.3 to S8.7: demand 3, as one claim over the calls and the buffers lent to them.
-- Any valid array A, cut into any list of subsets that covers it, each cut written, read back, all merged. Where no writing meets
-- 20, nothing is refused, the outcome is A's rest form, and cutting any subset Q from the outcome gives the rest form of Q cut from A. Compared
-- are masks, value bytes, offsets and the lengths that success names.
-- Assumes nothing.
use Rattle.std.specs.Prelude.{ℕ, ◌≤◌, ◌<◌, ◌≡◌, List, [], ◌∷◌, map, length, drop}
use Rattle.array.specs.Answer.{Answer, gives, and_then}
use Rattle.array.specs.Lists.{joined, All, count_passing}
use Rattle.array.specs.Kind.{Kind}
use Rattle.array.specs.Shape.{volume}
use Rattle.array.specs.Subset.{Subset, subset_of, NumbersOk, coordinates, inside_test}
use Rattle.array.specs.Content.{Content, Valid, rest_form}
use Rattle.array.specs.Buffers.{lengths_of, Enough, Taken, taken, taken_bytes, whole}
use Rattle.codec.specs.Carried.{Carried}
use Rattle.codec.specs.Calls.{stored_form, values_left, encoded, decoded}
use Rattle.chunks.specs.Cut.{cut_of}
use Rattle.chunks.specs.Chunks.{no_content, follow}
use Rattle.chunks.specs.Calls.{extracted, merged}

-- ---- one subset of the list, with the outputs lent on its way: to cut it, to write the cut, to read it back

pub record Entry : Type 0 where
  pub subset : List ℕ
  pub cut : Content
  pub stored : List ℕ
  pub back : Content

-- the lengths of a subset, which are the shape of its cut
abbrev pub shape_of : List ℕ → List ℕ → List ℕ
shape_of shape ns = drop (length shape) ns

module _ (k : Kind) (shape : List ℕ) (A : Content) where
  -- Q cut from A, and its rest form: made from A by S2.1 to S2.3 and S3.4, not from an answer
  abbrev pub cut_from : List ℕ → Content
  cut_from Q = cut_of k shape A (subset_of (length shape) Q)

  abbrev pub rest_of_cut : List ℕ → Content
  rest_of_cut Q = rest_form k (volume (shape_of shape Q)) (cut_from Q)

  -- cut from A; the cut as it came written, with A's kind and the subset's lengths as shape; exactly these bytes read
  abbrev pub one_way : Entry → Answer Content
  one_way e =
      and_then (taken (extracted k shape e.subset A e.cut)) (λ a.
      and_then (taken_bytes (encoded k (shape_of shape e.subset) a.content e.stored)) (λ s.
      and_then (taken (decoded k (shape_of shape e.subset) s e.back)) (λ b. gives b.content)))

  -- all that was read, laid end to end in the list's order
  abbrev pub each_way : List Entry → Answer Content
  each_way [] = gives no_content
  each_way (e ∷ es) = and_then (one_way e) (λ a. and_then (each_way es) (λ as'. gives (follow a as')))

  -- the merge of the subsets and of all that was read, with A's kind and shape
  abbrev pub whole_way : List Entry → Content → Answer Taken
  whole_way es out = and_then (each_way es) (λ all. taken (merged k shape (joined (map (λ (e : Entry). e.subset) es)) all out))

  -- a subset that may stand in the list: one start and one length a side, within the shape, holding a cell; its writing meets no 20, so that
  -- the index carries each offset that is written; its outputs long enough, which is that 6 does not hold: none is shorter than its result needs
  pub record EntryOk (e : Entry) : Type 0 where
    pub numbers : NumbersOk shape e.subset
    pub full : All (λ n. 1 ≤ n) (shape_of shape e.subset)
    pub cut_enough : Enough (cut_from e.subset) (lengths_of e.cut)
    pub carried : Carried k.form (values_left k (volume (shape_of shape e.subset)) (cut_from e.subset))
    pub stored_enough : length (stored_form k (volume (shape_of shape e.subset)) (cut_from e.subset)) ≤ length e.stored
    pub back_enough : Enough (rest_of_cut e.subset) (lengths_of e.back)

-- each cell of the shape lies in exactly one of the subsets
abbrev pub Covers : List ℕ → List Subset → Type 0
Covers shape bs = (i : ℕ) → i < volume shape → count_passing (λ b. inside_test b (coordinates shape i)) bs ≡ 1

abbrev pub subsets_in : List ℕ → List Entry → List Subset
subsets_in shape es = map (λ (e : Entry). subset_of (length shape) e.subset) es

-- ---- the demand

abbrev pub Demand3 : Type 0
Demand3 =
    (k : Kind) (shape : List ℕ) (A : Content) → Valid k shape A
    → (es : List Entry) → All (EntryOk k shape A) es → Covers shape (subsets_in shape es)
    → (out : Content) → Enough (rest_form k (volume shape) A) (lengths_of out)
    → (whole_way k shape A es out ≡ gives (whole (rest_form k (volume shape) A)))
    × ((Q : List ℕ) → NumbersOk shape Q → (outQ : Content) → Enough (rest_of_cut k shape A Q) (lengths_of outQ)
    → and_then (whole_way k shape A es out) (λ m. taken (extracted k shape Q m.content outQ)) ≡ gives (whole (rest_of_cut k shape A Q)))
