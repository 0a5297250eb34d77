-- A table whose chunks are all read, and the same after a step.
-- Assumes nothing.
use mathlib.Core.Path.{◌≡◌, sym, ap, ap₂, ◌∙◌}
use Prim.Native.Nat.{ℕ, suc, ◌+◌, ◌<◌, ◌≤◌}
use native.Mathlib.Nat.{le_trans}
use native.Mathlib.Omega.{arith}
use mathlib.Core.Bool.{Bool, true, ◌&&◌}
use mathlib.Core.List.{List, [], ◌∷◌, ◌++◌, map, append_assoc}
use lib.ListN.{length, drop, get_or, set, length-map, length-append, length-set, length-drop}
use lib.Seq.{length-take-le, take-suc-set, drop-cons}
use lib.Dec.{leb, eqb}
use borrow.Author.Tests.{le-leb, eq-eqb, leb-true, eqb-true}
use Rattle.array.specs.Answer.{Answer, gives, unless}
use Rattle.array.specs.Limits.{most_cells}
use Rattle.array.specs.Shape.{volume, ShapeOk, shape_test}
use Rattle.array.specs.Subset.{FullOk, ManyOk, many_test, cells_of_all}
use Rattle.array.specs.Cells.{Value}
use Rattle.array.specs.Buffers.{over_at}
use Rattle.array.specs.Places.{sum}
use Rattle.array.proofs.Answers.{passed}
use Rattle.array.proofs.Lists.{All-at, map-append}
use Rattle.array.proofs.Over.{over_at_length}
use Rattle.array.proofs.Rules.{both, left_of_lem, right_of, shape_ok, many_ok}
use Rattle.array.proofs.SubsetLaws.{volume-le}
use Rattle.chunks.specs.Gather.{Once, once_test}
use Rattle.chunks.proofs.Gather.{once_ok}
use Rattle.migrate.specs.Live.{LiveTable, strings, Stored, older, newer, read_stored, read_chunks, chunk_subsets, chunk_count, new_lengths, moved_end, stored_chunks, ListsOk, lists_test, chunk_values}
use Rattle.migrate.specs.Calls.{fresh}
use Rattle.migrate.specs.Law.{with_lent, with_area, SameMoved}
use Rattle.migrate.proofs.Strings.{length_strings, sum_more, strings_same, laid_strings}
use Rattle.migrate.proofs.Chunks.{cells_at, read_swap, read_at, read_count, moved_alike}

-- ---- 4: the rule and its test

pub lists_test_lem : (t : LiveTable) → ListsOk t → lists_test t ≡ true
lists_test_lem t p =
    both (both (both (both (eq-eqb (length t.old_lengths) (chunk_count t) p.old_count) (eq-eqb (length t.moved_lengths) (chunk_count t) p.moved_count))
    (eq-eqb (sum t.old_lengths) (length t.old) p.old_sum)) (le-leb t.moved (chunk_count t) p.few)) (le-leb (moved_end t) (length t.area) p.within)

pub lists_ok : (t : LiveTable) → lists_test t ≡ true → ListsOk t
lists_ok t e =
    let a : Bool = eqb (length t.old_lengths) (chunk_count t) in
    let b : Bool = eqb (length t.moved_lengths) (chunk_count t) in
    let c : Bool = eqb (sum t.old_lengths) (length t.old) in
    let d : Bool = leb t.moved (chunk_count t) in
    let f : Bool = leb (moved_end t) (length t.area) in
    let e4 : a && b && c && d ≡ true = left_of_lem (a && b && c && d) f e in
    let e3 : a && b && c ≡ true = left_of_lem (a && b && c) d e4 in
    let e2 : a && b ≡ true = left_of_lem (a && b) c e3 in
    record {
      old_count = eqb-true (length t.old_lengths) (chunk_count t) (left_of_lem a b e2);
      moved_count = eqb-true (length t.moved_lengths) (chunk_count t) (right_of a b e2);
      old_sum = eqb-true (sum t.old_lengths) (length t.old) (right_of (a && b) c e3);
      few = leb-true t.moved (chunk_count t) (right_of (a && b && c) d e4);
      within = leb-true (moved_end t) (length t.area) (right_of (a && b && c && d) f e);
    }

-- ---- what a table has passed whose chunks are all read

pub record Sound (t : LiveTable) (vss : List (List Value)) : Type 0 where
  pub shaped : ShapeOk t.shape
  pub chunked : ManyOk t.shape t.subsets
  pub lists : ListsOk t
  pub once : Once (volume t.shape) (cells_of_all t.shape (chunk_subsets t))
  pub read : read_chunks (chunk_subsets t) (stored_chunks t) ≡ gives vss

-- the check, from the lists' test and what is read
abbrev checked : LiveTable → Bool → Bool → Answer (List (List Value)) → Answer (List (List Value))
checked t asked listed r =
    unless (shape_test t.shape) 2 (unless (many_test t.shape t.subsets && asked) 3 (unless listed 4 (unless (once_test (volume t.shape) (cells_of_all t.shape (chunk_subsets t))) 12 r)))

pub sound : (t : LiveTable) (asked : Bool) {vss : List (List Value)} → chunk_values asked t ≡ gives vss → Sound t vss
unfolding chunk_values
sound t asked {vss} e =
    let r : Answer (List (List Value)) = read_chunks (chunk_subsets t) (stored_chunks t) in
    let all : List ℕ = cells_of_all t.shape (chunk_subsets t) in
    let many : Bool = many_test t.shape t.subsets in
    let once : Bool = once_test (volume t.shape) all in
    let shaped = passed (shape_test t.shape) 2 (unless (many && asked) 3 (unless (lists_test t) 4 (unless once 12 r))) e in
    let chunked = passed (many && asked) 3 (unless (lists_test t) 4 (unless once 12 r)) shaped.1 in
    let listed = passed (lists_test t) 4 (unless once 12 r) chunked.1 in
    let covered = passed once 12 r listed.1 in
    record {
      shaped = shape_ok t.shape shaped.0;
      chunked = many_ok t.shape t.subsets (left_of_lem many asked chunked.0);
      lists = lists_ok t listed.0;
      once = once_ok (volume t.shape) all covered.0;
      read = covered.1;
    }

module _ {t : LiveTable} {vss : List (List Value)} (s : Sound t vss) where
  abbrev m : ℕ
  m = t.moved

  abbrev news : List Stored
  news = map newer (strings (new_lengths t) t.area)

  abbrev olds : List (List ℕ)
  olds = strings t.old_lengths t.old

  -- another area with the same moved bytes
  pub area_values : {a : List ℕ} → SameMoved t a → (asked : Bool) → chunk_values asked (with_area t a) ≡ chunk_values asked t
  unfolding chunk_values
  area_values {a} h asked =
      ap₂ (λ (b : Bool) (cs : List Stored). checked t asked b (read_chunks (chunk_subsets t) cs))
      (lists_test_lem (with_area t a) (record { old_count = s.lists.old_count; moved_count = s.lists.moved_count; old_sum = s.lists.old_sum; few = s.lists.few; within = h.long })
      ∙ sym (lists_test_lem t s.lists))
      (ap (λ (x : List (List ℕ)). map newer x ++ map older (drop m olds)) (strings_same (new_lengths t) a t.area h.same))

  counted : length news ≡ m
  counted =
      length-map (strings (new_lengths t) t.area) newer ∙ length_strings (new_lengths t) t.area
      ∙ length-take-le m t.moved_lengths (omega (arith, s.lists.few, s.lists.moved_count))

  pub stored_counted : length (stored_chunks t) ≡ chunk_count t
  stored_counted =
      omega (
        arith,
        length-append news (map older (drop m olds)),
        counted,
        length-map (drop m olds) older,
        length-drop m olds,
        length_strings t.old_lengths t.old,
        s.lists.old_count,
        s.lists.few,
      )

  pub chunks_counted : length vss ≡ chunk_count t
  chunks_counted = read_count (chunk_subsets t) (stored_chunks t) vss stored_counted s.read

  -- ---- a chunk is left, and its new string fits behind those moved before
  module _ (left : m < chunk_count t) where
    abbrev new : List ℕ
    new = fresh t vss

    abbrev pub entering : LiveTable
    entering = with_lent t (suc m) (record { moved_lengths = set t.moved_lengths m (length new); area = over_at (moved_end t) new t.area })

    lengths_more : new_lengths entering ≡ new_lengths t ++ (length new ∷ [])
    lengths_more = take-suc-set t.moved_lengths m (length new) (omega (arith, s.lists.moved_count))

    pub end_more : moved_end entering ≡ moved_end t + length new
    end_more = ap sum lengths_more ∙ sum_more (new_lengths t) (length new)

    abbrev later : List Stored
    later = map older (drop (suc m) olds)

    before : stored_chunks t ≡ news ++ older (get_or olds m []) ∷ later
    before = ap (λ (x : List (List ℕ)). news ++ map older x) (drop-cons olds m [] (omega (arith, length_strings t.old_lengths t.old, s.lists.old_count)))

    behind : stored_chunks entering ≡ news ++ newer new ∷ later
    behind =
        ap (λ (x : List (List ℕ)). map newer x ++ later)
        (ap (λ (ls : List ℕ). strings ls (over_at (moved_end t) new t.area)) lengths_more ∙ laid_strings (new_lengths t) new t.area s.lists.within)
        ∙ ap (λ (x : List Stored). x ++ later) (map-append newer (strings (new_lengths t) t.area) (new ∷ []))
        ∙ append_assoc news (newer new ∷ []) later

    pub few_cells : cells_at (chunk_subsets t) m ≤ most_cells
    few_cells =
        le_trans (volume-le t.shape (get_or (chunk_subsets t) m []) (All-at (FullOk t.shape) [] (chunk_subsets t) s.chunked.each m left).fits) s.shaped.few_cells

    -- the chunk, read in its old form
    pub old_read : read_stored (older (get_or olds m [])) (cells_at (chunk_subsets t) m) ≡ gives (get_or vss m [])
    old_read =
        rw counted at
        (read_at (chunk_subsets t) news (older (get_or olds m [])) later vss (omega (arith, counted)) (ap (read_chunks (chunk_subsets t)) (sym before) ∙ s.read))

    -- it reads alike in both forms
    same_read : read_stored (older (get_or olds m [])) (cells_at (chunk_subsets t) (length news)) ≡ read_stored (newer new) (cells_at (chunk_subsets t) (length news))
    same_read = rw counted (moved_alike (cells_at (chunk_subsets t) m) few_cells (get_or olds m []) (get_or vss m []) old_read)

    module _ (fits : moved_end t + length new ≤ length t.area) where
      lists_after : ListsOk entering
      lists_after = record {
        old_count = s.lists.old_count;
        moved_count = length-set t.moved_lengths m (length new) ∙ s.lists.moved_count;
        old_sum = s.lists.old_sum;
        few = omega arith;
        within = omega (arith, end_more, over_at_length (moved_end t) new t.area fits);
      }

      -- the whole check answers alike
      pub entered_values : (asked : Bool) → chunk_values asked entering ≡ chunk_values asked t
      unfolding chunk_values
      entered_values asked =
          ap₂ (checked t asked) (lists_test_lem entering lists_after ∙ sym (lists_test_lem t s.lists))
          (ap (read_chunks (chunk_subsets t)) behind
          ∙ sym (ap (read_chunks (chunk_subsets t)) before ∙ read_swap (chunk_subsets t) news (older (get_or olds m [])) (newer new) later same_read))
