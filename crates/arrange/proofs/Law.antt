-- The arrangements are all small rest forms, each just once (specs/Law).
-- Assumes nothing.
use mathlib.Core.Path.{◌≡◌, refl, sym, ap, ◌∙◌, subst}
use Prim.Native.Nat.{ℕ, ◌^◌, ◌<◌, ◌≤◌}
use native.Mathlib.Omega.{arith}
use native.Mathlib.Nat.{le_refl, mul-le-mul}
use mathlib.Core.List.{List, [], ◌∷◌, map, reverse, reverse-append, reverse-reverse}
use lib.ListN.{length, length-map, length-reverse}
use borrow.Author.Tests.{lt-ltb}
use Rattle.array.specs.Answer.{Answer}
use Rattle.array.specs.Limits.{most_bytes}
use Rattle.array.specs.Lists.{All}
use Rattle.array.specs.Bytes.{digits, number}
use Rattle.array.specs.Kind.{Kind, KindOk, Masks, Place, FormOk, ragged}
use Rattle.array.specs.Shape.{volume, ShapeOk}
use Rattle.array.specs.Cells.{Value, Cell, leaf, rest}
use Rattle.array.specs.Content.{Content, leaves, layout, values_in, cells_of}
use Rattle.array.specs.Buffers.{lengths_of, content_outcome}
use Rattle.array.proofs.Answers.{pass}
use Rattle.array.proofs.Bytes.{length_digits, number_digits, digits_number, digits_below, digits_more, number_below}
use Rattle.array.proofs.Lists.{All-map, All-image, All-of, All-reverse, All-joined, joined_all, all_both, length-joined-le, map-map, map_cong, map_id}
use Rattle.array.proofs.Rules.{enough_test_lem}
use Rattle.array.proofs.RestLaws.{StrictCell}
use Rattle.array.proofs.Sizes.{OfSize}
use Rattle.array.proofs.LayoutLaws.{Good, All-leaves, good_cells, cells_layout, leaves-attach, values_length_lem}
use Rattle.array.proofs.Inverse.{layout_cells}
use Rattle.array.proofs.Resting.{Rests, map_same, same_map, laid_valid, laid_rests}
use Rattle.arrange.specs.Arrangement.{states, state_cell, states_of, arrangement}
use Rattle.arrange.specs.Calls.{arrangement_answer, arranged}
use Rattle.arrange.specs.Law.{SmallRest, JustOne, Complete, FirstWeighsMost, Arrangements}
use Rattle.arrange.proofs.Refusals.{small_test_lem}
use Rattle.arrange.proofs.States.{Zeros, SmallCell, state_small, state_of, state_again, Stated, small_stated}

volume_some : (shape : List ℕ) → All (λ s. 1 ≤ s) shape → 1 ≤ volume shape
volume_some [] p = le_refl 1
volume_some (s ∷ ss) p = mul-le-mul {n₁ = 1} {n₂ = s} p.0 (volume_some ss p.1)

module _ (d : ℕ) (x : Masks) (w : ℕ) (p : Place) (shallow : d ≤ 2) (fine : FormOk (ragged w p)) (shape : List ℕ) (sh : ShapeOk shape)
    (few : volume shape ≤ 4) where
  abbrev kind : Kind
  kind = record { depth = d; masks = x; form = ragged w p }

  abbrev n : ℕ
  n = volume shape

  -- the base
  abbrev b : ℕ
  b = states d

  sound : KindOk kind
  sound = record { shallow = omega arith; sound = fine }

  -- ---- each arrangement

  module _ (i : ℕ) where
    abbrev cells : List (Cell d)
    cells = map (state_cell d) (states_of d n i)

    counted : length cells ≡ n
    counted = length-map (states_of d n i) (state_cell d) ∙ length-reverse (digits b n i) ∙ length_digits b n i

    small : All (SmallCell d) cells
    small =
        All-image (SmallCell d) (state_cell d) (states_of d n i)
        (All-map (λ j. j < b) (λ j. SmallCell d (state_cell d j)) (state_small d) (states_of d n i)
        (All-reverse (λ j. j < b) (digits b n i) (digits_below b (omega arith) n i)))

    -- what holds of each small cell holds of all
    of_cells : (P : Cell d → Type 0) → ((c : Cell d) → SmallCell d c → P c) → All P cells
    of_cells P f = All-map (SmallCell d) P f cells small

    of_values : (P : Value → Type 0) → ((c : Cell d) → SmallCell d c → P (leaf d c)) → All P (leaves d cells)
    of_values P f = All-image P (leaf d) cells (of_cells (λ c. P (leaf d c)) f)

    short : All (λ v. length v ≤ 3) (leaves d cells)
    short = of_values (λ v. length v ≤ 3) (λ c q. q.short)

    good : Good kind n cells
    unfolding most_bytes
    good = record {
      counted = counted;
      sized = All-of (OfSize (ragged w p)) (λ v. tt) (leaves d cells);
      strict = of_cells (StrictCell d) (λ c q. q.strict);
      small = omega (arith, length-joined-le 3 (leaves d cells) short, length-map cells (leaf d), counted);
    }

    cells_again : cells_of kind n (arrangement d n i) ≡ cells
    cells_again = cells_layout kind n cells good.counted good.sized

    made : SmallRest kind shape (arrangement d n i)
    made =
        let v = laid_valid sound sh good in
        let vs : List Value = values_in (ragged w p) n (arrangement d n i) in
        record {
          valid = v;
          rests = laid_rests good (of_cells (Rests kind) (λ c q. q.rests));
          zeros = All-joined (λ z. z ≡ 0) (leaves d cells) (of_values Zeros (λ c q. q.zeros));
          short = subst (All (λ u. length u ≤ 3))
              (ap (leaves d) (sym cells_again)
              ∙ leaves-attach n vs (values_length_lem (ragged w p) n (arrangement d n i) v.content.fits.values_fit) d (arrangement d n i).masks v.content.fits.masks_fit)
              short;
        }

  -- ---- each small rest form

  module _ (c : Content) (s : SmallRest kind shape c) where
    abbrev own : List (Cell d)
    own = cells_of kind n c

    laid : layout (ragged w p) d own ≡ c
    laid = layout_cells kind n c s.valid.content.fits

    own_good : Good kind n own
    own_good = good_cells kind n c s.valid.content s.valid.small

    own_values : leaves d own ≡ values_in (ragged w p) n c
    own_values =
        leaves-attach n (values_in (ragged w p) n c) (values_length_lem (ragged w p) n c s.valid.content.fits.values_fit) d c.masks s.valid.content.fits.masks_fit

    own_rests : All (λ y. rest [] d y ≡ y) own
    own_rests =
        let ys : List (Cell d) = map (rest [] d) own in
        same_map (rest [] d) own
        (sym (cells_layout kind n ys (length-map own (rest [] d) ∙ own_good.counted) (All-of (OfSize (ragged w p)) (λ v. tt) (leaves d ys))) ∙ ap (cells_of kind n) s.rests)

    own_small : All (SmallCell d) own
    own_small =
        let zeros : All (λ y. Zeros (leaf d y)) own =
        All-leaves Zeros d own (joined_all (λ z. z ≡ 0) (leaves d own) (subst (λ (a : Content). All (λ z. z ≡ 0) a.values) (sym laid) s.zeros)) in
        let short : All (λ y. length (leaf d y) ≤ 3) own = All-leaves (λ v. length v ≤ 3) d own (subst (All (λ v. length v ≤ 3)) (sym own_values) s.short) in
        all_both (λ y. (rest [] d y ≡ y) × StrictCell d y) (λ y. Zeros (leaf d y) × (length (leaf d y) ≤ 3)) (SmallCell d)
        (λ y q r. record { strict = q.1; rests = q.0; zeros = r.0; short = r.1 }) own
        (all_both (λ y. rest [] d y ≡ y) (StrictCell d) (λ y. (rest [] d y ≡ y) × StrictCell d y) (λ y q r. (q, r)) own own_rests own_good.strict)
        (all_both (λ y. Zeros (leaf d y)) (λ y. length (leaf d y) ≤ 3) (λ y. Zeros (leaf d y) × (length (leaf d y) ≤ 3)) (λ y q r. (q, r)) own zeros short)

    stated : All (Stated d) own
    stated = All-map (SmallCell d) (Stated d) (small_stated d) own own_small

    -- its states, and the digits of its number, the lowest first
    abbrev own_states : List ℕ
    own_states = map (state_of d) own

    abbrev ds : List ℕ
    ds = reverse own_states

    ds_count : length ds ≡ n
    ds_count = length-reverse own_states ∙ length-map own (state_of d) ∙ own_good.counted

    ds_below : All (λ j. j < b) ds
    ds_below =
        All-reverse (λ j. j < b) own_states
        (All-image (λ j. j < b) (state_of d) own (All-map (Stated d) (λ y. state_of d y < b) (λ y q. q.below) own stated))

    states_again : states_of d n (number b ds) ≡ own_states
    states_again =
        ap reverse (ap (λ (m : ℕ). digits b m (number b ds)) (sym ds_count) ∙ digits_number b (omega arith) ds ds_below) ∙ reverse-reverse own_states

    just_one : JustOne d n c
    just_one = record {
      number = number b ds;
      below = subst (λ (m : ℕ). number b ds < b ^ m) ds_count (number_below b (omega arith) ds ds_below);
      here = ap (λ (is : List ℕ). layout (ragged w p) d (map (state_cell d) is)) states_again
          ∙ ap (layout (ragged w p) d)
          (map-map (state_of d) (state_cell d) own
          ∙ map_same (λ y. state_cell d (state_of d y)) own (All-map (Stated d) (λ y. state_cell d (state_of d y) ≡ y) (λ y q. q.again) own stated))
          ∙ laid;
      only = λ i h e.
          let same : map (state_cell d) (states_of d n i) ≡ own = sym (cells_again i) ∙ ap (cells_of kind n) e in
          let its : states_of d n i ≡ own_states =
          sym (map-map (state_cell d) (state_of d) (states_of d n i) ∙ map_cong (λ j. state_of d (state_cell d j)) (λ j. j) (state_again d) (states_of d n i) ∙ map_id (states_of d n i))
          ∙ ap (map (state_of d)) same in
          sym (number_digits b (omega arith) n i h) ∙ ap (number b) (sym (reverse-reverse (digits b n i)) ∙ ap reverse its);
    }

  complete : Complete kind shape
  unfolding arranged arrangement_answer
  complete = record {
    each = λ i h. made i;
    every_one = just_one;
    given = λ i h out e. ap (λ (a : Answer Content). content_outcome a out)
        (pass 1 (small_test_lem d n (record { shallow = shallow; some_cells = volume_some shape sh.sides; few_cells = few }))
        (pass 19 (lt-ltb i (b ^ n) h) (pass 6 (enough_test_lem (arrangement d n i) (lengths_of out) e) refl)));
  }

pub first_weighs_most : FirstWeighsMost
first_weighs_most d n i j hi hj =
    ap reverse (digits_more (states d) (omega arith) n i j hi hj) ∙ reverse-append (digits (states d) n j) (i ∷ [])

pub arrangements : Arrangements
arrangements d x w p h fine shape sh few = complete d x w p h fine shape sh few
