-- The cut of a table: one law for each answer, and what is known where the table's chunks are all read.
-- Assumes nothing.
use mathlib.Core.Path.{◌≡◌, refl, sym, ap, ap₂, ◌∙◌, subst}
use Prim.Native.Nat.{ℕ, ◌<◌, ◌≤◌}
use native.Mathlib.Omega.{arith}
use mathlib.Core.Bool.{Bool, true, false, ◌&&◌}
use mathlib.Core.List.{List, []}
use lib.ListN.{length}
use Rattle.array.specs.Answer.{Answer, gives, refuses, and_then, unless, map_answer, Outcome}
use Rattle.array.specs.Lists.{All, joined}
use Rattle.array.specs.Limits.{most_bytes}
use Rattle.array.specs.Shape.{volume, shape_test, ShapeOk}
use Rattle.array.specs.Subset.{Subset, pairs, subset_of, subsets_of, numbers_test, many_test, NumbersOk, cells_in, cells_of_all}
use Rattle.array.specs.Cells.{Value}
use Rattle.array.specs.Content.{RaggedContent, size_test}
use Rattle.array.specs.declared.answer.RaggedLengths.{RaggedLengths}
use Rattle.array.specs.Buffers.{ragged_lengths_of, ragged_outcome}
use Rattle.array.proofs.Answers.{passed, went_on}
use Rattle.array.proofs.Rules.{right_of, numbers_ok, size_ok}
use Rattle.chunks.specs.Gather.{put_back, Once, once_test}
use Rattle.subset.specs.Cells.{cells_of, cells_of_each, subsets_in}
use Rattle.subset.specs.Subsets.{SubsetsOk}
use Rattle.subset.specs.declared.walk.Subset as walked
use Rattle.subset.specs.declared.walk.Subsets.{Subsets}
use Rattle.subset.proofs.Rows.{asked_count}
use Rattle.decode_interleaved.specs.Walk.{total_of, found_answer}
use Rattle.decode_interleaved.proofs.Steps.{never}
use Rattle.migrate.specs.Live.{LiveTable, Stored, read_chunks, chunk_subsets, stored_chunks, lists_test, ListsOk, chunk_values}
use Rattle.migrate.specs.Calls.{cut_values, cut_or_refused, migrate_extract, migrate_extract_answer}
use Rattle.migrate.proofs.Live.{Sound, sound}
use Rattle.migrate.proofs.Cuts.{as_many}
use Rattle.migrate_check.specs.Chunks.{bytes_at}
use Rattle.migrate_cells.specs.Place.{place_in}
use Rattle.migrate_extract.specs.Asked.{places_asked, values_asked}
use Rattle.migrate_extract.specs.Chunks.{all_read, all_given, AllRead, all_places, all_asked, few_or_refused, cut_of, CutAsked}
use Rattle.migrate_extract.proofs.Cut.{once_asked, cut_is, places_below, as_many_asked}
use Rattle.migrate_extract.proofs.Writing.{cut_total}

module _ (t : LiveTable) (ns : List ℕ) (out : RaggedContent) where
  pub not_checked : (k : ℕ) → refuses k ≡ map_answer (bytes_at t.moved) (chunk_values (numbers_test t.shape ns) t) → record { answer = refuses k; buffers = out } ≡ migrate_extract t ns out
  unfolding migrate_extract migrate_extract_answer
  not_checked k e = go (chunk_values (numbers_test t.shape ns) t) e
    where
      go : (a : Answer (List (List Value))) → refuses k ≡ map_answer (bytes_at t.moved) a
          → record { answer = refuses k; buffers = out } ≡ ragged_outcome (and_then a (cut_or_refused t ns (ragged_lengths_of out))) out
      go (gives vss) q = absurd (never (sym q) refl)
      go (refuses j) q = let same : k ≡ j = cc in ap (λ (i : ℕ). record { answer = refuses i; buffers = out }) same

-- what the code walks along is the table's
pub record Tied (t : LiveTable) (ns : List ℕ) (a : walked.Subset) (sub : Subsets) (cs : List Stored) : Type 0 where
  pub shape : a.shape.now ≡ t.shape
  pub said : pairs a.starts.now a.lens.now ≡ subset_of (length t.shape) ns
  pub shapes : sub.shape.now ≡ t.shape
  pub numbers : sub.numbers.now ≡ t.subsets
  pub strings : cs ≡ stored_chunks t

-- the table's chunks are read
pub record Passed (t : LiveTable) (ns : List ℕ) : Type 0 where
  pub values : List (List Value)
  pub given : chunk_values (numbers_test t.shape ns) t ≡ gives values

pub table_passed : (t : LiveTable) (ns : List ℕ) {n : ℕ} → gives n ≡ map_answer (bytes_at t.moved) (chunk_values (numbers_test t.shape ns) t) → Passed t ns
table_passed t ns e = let g = went_on (chunk_values (numbers_test t.shape ns) t) (λ vss. gives (bytes_at t.moved vss)) (sym e) in record { values = g.0; given = g.1.0 }

-- what was asked for passed its test
asked_true : (t : LiveTable) (asked : Bool) {vss : List (List Value)} → chunk_values asked t ≡ gives vss → asked ≡ true
unfolding chunk_values
asked_true t asked e =
    let rest : Answer (List (List Value)) =
    unless (lists_test t) 4 (unless (once_test (volume t.shape) (cells_of_all t.shape (chunk_subsets t))) 12 (read_chunks (chunk_subsets t) (stored_chunks t))) in
    let shaped = passed (shape_test t.shape) 2 (unless (many_test t.shape t.subsets && asked) 3 rest) e in
    right_of (many_test t.shape t.subsets) asked (passed (many_test t.shape t.subsets && asked) 3 rest shaped.1).0

module _ {t : LiveTable} {ns : List ℕ} (p : Passed t ns) where
  whole : Sound t p.values
  whole = sound t (numbers_test t.shape ns) p.given

  pub shaped : ShapeOk t.shape
  shaped = whole.shaped

  pub chunked : SubsetsOk t.shape t.subsets
  chunked = record { shaped = whole.shaped; many = whole.chunked }

  pub lists : ListsOk t
  lists = whole.lists

  pub numbers : NumbersOk t.shape ns
  numbers = numbers_ok t.shape ns (asked_true t (numbers_test t.shape ns) p.given)

  abbrev b : Subset
  b = subset_of (length t.shape) ns

  abbrev cut : List ℕ
  cut = cells_in t.shape b

  abbrev all : List ℕ
  all = cells_of_all t.shape (chunk_subsets t)

  abbrev ps : List ℕ
  ps = places_asked (place_in cut) all

  abbrev ws : List Value
  ws = values_asked (place_in cut) all (joined p.values)

  once : Once (length cut) ps
  once = once_asked t.shape b numbers.fits all whole.once

  many : length ps ≡ length ws
  many = as_many_asked cut all (joined p.values) (as_many whole)

  -- put back at their places they are the cut
  cut_same : put_back [] (length cut) ps ws ≡ cut_values t ns p.values
  cut_same = cut_is t.shape b numbers.fits all whole.once (joined p.values)

  total_same : total_of ws ≡ total_of (cut_values t ns p.values)
  total_same = sym (cut_total (length cut) ps ws (places_below cut all) once many) ∙ ap total_of cut_same

  module _ (out : RaggedContent) where
    opened : migrate_extract t ns out ≡ ragged_outcome (cut_or_refused t ns (ragged_lengths_of out) p.values) out
    unfolding migrate_extract migrate_extract_answer
    opened = ap (λ (a : Answer (List (List Value))). ragged_outcome (and_then a (cut_or_refused t ns (ragged_lengths_of out))) out) p.given

    abbrev found : Answer RaggedContent
    found = found_answer (cut_values t ns p.values) (ragged_lengths_of out)

    by_size : {s : Bool} → size_test (total_of ws) ≡ s → migrate_extract t ns out ≡ ragged_outcome (unless s 5 found) out
    by_size e = opened ∙ ap (λ (s : Bool). ragged_outcome (unless s 5 found) out) (ap size_test (sym total_same) ∙ e)

    pub not_few : (k : ℕ) → refuses k ≡ few_or_refused (total_of ws) → record { answer = refuses k; buffers = out } ≡ migrate_extract t ns out
    not_few k e = go (size_test (total_of ws)) refl e
      where
        go : (s : Bool) → size_test (total_of ws) ≡ s → refuses k ≡ unless s 5 (gives (total_of ws)) → record { answer = refuses k; buffers = out } ≡ migrate_extract t ns out
        go true q r = absurd (never (sym r) refl)
        go false q r = let same : k ≡ 5 = cc in ap (λ (i : ℕ). record { answer = refuses i; buffers = out }) same ∙ sym (by_size q)

    pub cut_given : {sum : ℕ} → gives sum ≡ few_or_refused (total_of ws) → {o : Outcome RaggedLengths RaggedContent}
        → o ≡ ragged_outcome (found_answer (put_back [] (length cut) ps ws) (ragged_lengths_of out)) out → o ≡ migrate_extract t ns out
    cut_given e {o} f =
        f ∙ ap (λ (vs : List Value). ragged_outcome (found_answer vs (ragged_lengths_of out)) out) cut_same
        ∙ sym (by_size (passed (size_test (total_of ws)) 5 (gives (total_of ws)) (sym e)).0)

  -- ---- the same of what the code walks along

  module _ {a : walked.Subset} {sub : Subsets} {cs : List Stored} (q : Tied t ns a sub cs) where
    cut_cells : cells_of a ≡ cut
    cut_cells = ap₂ cells_in q.shape q.said

    subsets_are : subsets_in sub ≡ chunk_subsets t
    subsets_are = ap₂ (λ (sh : List ℕ) (flat : List ℕ). subsets_of (length sh) flat) q.shapes q.numbers

    all_cells : cells_of_each sub ≡ all
    all_cells = ap₂ cells_of_all q.shapes subsets_are

    read_are : read_chunks (subsets_in sub) cs ≡ gives p.values
    read_are = ap₂ read_chunks subsets_are q.strings ∙ whole.read

    given_are : all_given sub cs ≡ p.values
    given_are = ap all_read read_are

    pub count_is : a.count ≡ length cut
    count_is = sym (asked_count a.asked) ∙ ap length cut_cells

    pub places_are : all_places a sub ≡ ps
    places_are = ap₂ (λ (x y : List ℕ). places_asked (place_in x) y) cut_cells all_cells

    pub values_are : all_asked a sub cs ≡ ws
    values_are =
        ap₂ (λ (x y : List ℕ). values_asked (place_in x) y (joined (all_given sub cs))) cut_cells all_cells
        ∙ ap (λ (vss : List (List Value)). values_asked (place_in cut) all (joined vss)) given_are

    pub walked_read : {strings : ℕ} → strings ≡ length t.old_lengths → AllRead a sub cs strings
    walked_read e = record { shape = q.shape ∙ sym q.shapes; counted = ap length subsets_are ∙ sym lists.old_count ∙ sym e; read = read_are ∙ ap gives (sym given_are) }

    pub walked_cut : {strings sum : ℕ} → strings ≡ length t.old_lengths → gives sum ≡ few_or_refused (total_of (all_asked a sub cs)) → CutAsked a sub cs strings sum
    walked_cut {strings} {sum} e f = record {
      read = walked_read e;
      below = subst (λ (n : ℕ). All (λ k. k < n) (all_places a sub)) (sym count_is) (subst (All (λ k. k < length cut)) (sym places_are) (places_below cut all));
      once = subst (λ (n : ℕ). Once n (all_places a sub)) (sym count_is) (subst (Once (length cut)) (sym places_are) once);
      as_many = ap length places_are ∙ many ∙ sym (ap length values_are);
      total = given (passed (size_test (total_of (all_asked a sub cs))) 5 (gives (total_of (all_asked a sub cs))) (sym f)).1;
      small = small_of (passed (size_test (total_of (all_asked a sub cs))) 5 (gives (total_of (all_asked a sub cs))) (sym f)).0
          (given (passed (size_test (total_of (all_asked a sub cs))) 5 (gives (total_of (all_asked a sub cs))) (sym f)).1);
    }
      where
        given : gives (total_of (all_asked a sub cs)) ≡ gives sum → sum ≡ total_of (all_asked a sub cs)
        given r = cc

        small_of : size_test (total_of (all_asked a sub cs)) ≡ true → sum ≡ total_of (all_asked a sub cs) → sum ≤ most_bytes
        small_of s r = omega (arith, size_ok (total_of (all_asked a sub cs)) s, r)

    pub cut_of_is : cut_of a sub cs ≡ put_back [] (length cut) ps ws
    cut_of_is =
        ap (λ (n : ℕ). put_back [] n (all_places a sub) (all_asked a sub cs)) count_is
        ∙ ap₂ (λ (x : List ℕ) (y : List Value). put_back [] (length cut) x y) places_are values_are

    pub few_are : few_or_refused (total_of (all_asked a sub cs)) ≡ few_or_refused (total_of ws)
    few_are = ap (λ (x : List Value). few_or_refused (total_of x)) values_are
