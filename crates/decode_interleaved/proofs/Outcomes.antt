-- What decode_interleaved leaves behind, case by case: a refusal and the outputs as they were, or the cells.
-- Assumes nothing.
use mathlib.Core.Path.{◌≡◌, refl, sym, ap, ◌∙◌}
use Prim.Native.Nat.{ℕ, suc, ◌+◌, ◌*◌, ◌<◌, ◌≤◌}
use native.Mathlib.Omega.{arith}
use mathlib.Core.Bool.{true}
use mathlib.Core.List.{List, [], ◌∷◌}
use lib.ListN.{length, take, drop, replicate, length-append}
use lib.Dec.{leb, eqb}
use lib.Seq.{take_all}
use borrow.Author.Tests.{le-leb, lt-leb, eq-eqb, ne_eqb, leb-true, eqb-true}
use Rattle.array.specs.Answer.{Answer, gives, refuses, and_then, unless, map_answer, Outcome}
use Rattle.array.specs.Limits.{most_cells, most_bytes}
use Rattle.array.specs.Lists.{joined}
use Rattle.array.specs.Bytes.{unle}
use Rattle.array.specs.Offsets.{ends, offsets_of}
use Rattle.array.specs.Cells.{Value}
use Rattle.array.specs.Content.{RaggedContent, size_test}
use Rattle.array.specs.declared.answer.RaggedLengths.{RaggedLengths}
use Rattle.array.specs.Buffers.{ragged_lengths_of, over, ragged_outcome}
use Rattle.array.specs.Outcome.{content_ragged}
use Rattle.array.proofs.Answers.{passed, went_on, same_given}
use Rattle.array.proofs.Offsets.{length-ends}
use Rattle.array.proofs.Rules.{size_ok}
use Rattle.codec.specs.Interleaved.{interleaved_values}
use Rattle.codec.specs.Calls.{interleaved_answer, interleaved_decoded}
use Rattle.codec.proofs.Older.{length_read}
use Rattle.decode_interleaved.specs.Walk.{total_of, stored_cells, walk_answer, read_answer, given, found, Walked, found_answer}
use Rattle.decode_interleaved.proofs.Steps.{never}

-- a refusal leaves the outputs as they were
abbrev pub refused : ℕ → RaggedContent → Outcome RaggedLengths RaggedContent
refused e old = record { answer = refuses e; buffers = old }

-- ---- write_cells

-- cells of no bytes all end at 0
zero-ends : (vs : List Value) → total_of vs ≡ 0 → ends 0 vs ≡ replicate (length vs) 0
zero-ends [] e = refl
zero-ends (v ∷ vs) e =
    let both : length v + total_of vs ≡ 0 = sym (length-append v (joined vs)) ∙ e in
    let here : 0 + length v ≡ 0 = omega arith in
    ap (λ (k : ℕ). k ∷ ends k vs) here ∙ ap (λ (l : List ℕ). 0 ∷ l) (zero-ends vs (omega arith))

module _ {n : ℕ} {s : List ℕ} {sum : ℕ} (w : Walked n s sum) (old : RaggedContent) where
  abbrev cells_outcome : Outcome RaggedLengths RaggedContent
  cells_outcome = ragged_outcome (found_answer (found n s) (ragged_lengths_of old)) old

  -- one offset more than cells
  count : length (offsets_of (found n s)) ≡ n + 1
  count = omega (arith, length-ends 0 (found n s), length_read n (drop 4 s) (found n s) w.all)

  pub values_short : length old.values < sum → refused 6 old ≡ cells_outcome
  values_short g = rw (lt-leb (total_of (found n s)) (length old.values) (omega (arith, w.total)))

  module _ (g : sum ≤ length old.values) where
    for_values : leb (total_of (found n s)) (length old.values) ≡ true
    for_values = le-leb (total_of (found n s)) (length old.values) (omega (arith, w.total))

    pub offsets_short : length old.offsets < n + 1 → refused 6 old ≡ cells_outcome
    offsets_short f = rw (for_values, lt-leb (length (offsets_of (found n s))) (length old.offsets) (omega (arith, count)))

    -- both outputs are long enough
    pub all_written : n + 1 ≤ length old.offsets → {values offsets : List ℕ} → values ≡ over (joined (found n s)) old.values
        → offsets ≡ over (offsets_of (found n s)) old.offsets
        → ◌≡◌ {A = Outcome RaggedLengths RaggedContent} (record { answer = gives (record { values = sum; offsets = n + 1 }); buffers = content_ragged values offsets }) cells_outcome
    all_written f ev eo =
        rw (for_values, le-leb (length (offsets_of (found n s))) (length old.offsets) (omega (arith, count)), w.total, sym count, ev, eo)

    -- and no cell has a byte
    pub none_written : sum ≡ 0 → n + 1 ≤ length old.offsets → {offsets : List ℕ} → offsets ≡ over (replicate (n + 1) 0) old.offsets
        → ◌≡◌ {A = Outcome RaggedLengths RaggedContent} (record { answer = gives (record { values = sum; offsets = n + 1 }); buffers = content_ragged old.values offsets }) cells_outcome
    none_written z f e =
        let none : total_of (found n s) ≡ 0 = omega (arith, w.total) in
        let all : suc (length (found n s)) ≡ n + 1 = omega (arith, length_read n (drop 4 s) (found n s) w.all) in
        let zeros : offsets_of (found n s) ≡ replicate (n + 1) 0 = ap (λ (l : List ℕ). 0 ∷ l) (zero-ends (found n s) none) ∙ ap (λ (k : ℕ). replicate k 0) all in
        all_written f (ap (λ (l : List ℕ). over l old.values) (take_all 0 (joined (found n s)) (omega arith)))
        (e ∙ ap (λ (l : List ℕ). over l old.offsets) (sym zeros))

-- ---- read_cells

-- the cells where some are given
held : (n : ℕ) (s : List ℕ) {vs : List Value} → stored_cells n s ≡ gives vs → found n s ≡ vs
held n s e = ap given e

-- the walk's answer, from that of its definition
walk_gave : (n : ℕ) (s : List ℕ) {sum : ℕ} → gives sum ≡ walk_answer n s → (stored_cells n s ≡ gives (found n s)) × (sum ≡ total_of (found n s))
walk_gave n s e =
    let g = went_on (stored_cells n s) (λ vs. gives (total_of vs)) (sym e) in
    (g.1.0 ∙ ap gives (sym (held n s g.1.0)), sym (same_given g.1.1) ∙ ap total_of (sym (held n s g.1.0)))

walk_refused : (n : ℕ) (s : List ℕ) (k : ℕ) → refuses k ≡ walk_answer n s → stored_cells n s ≡ refuses k
walk_refused n s k e = go (stored_cells n s) e
  where
    go : (a : Answer (List Value)) → refuses k ≡ map_answer total_of a → a ≡ refuses k
    go (gives vs) p = absurd (never (sym p) refl)
    go (refuses j) p = cc

module _ (n : ℕ) (s : List ℕ) where
  pub few_bytes : length s < 4 * (1 + n) → refuses 7 ≡ read_answer n s
  unfolding interleaved_values
  few_bytes g = rw (lt-leb (4 * suc n) (length s) (omega arith))

  module _ (g : 4 * (1 + n) ≤ length s) where
    room : leb (4 * suc n) (length s) ≡ true
    room = le-leb (4 * suc n) (length s) (omega arith)

    pub other_count : (unle (take 4 s) ≡ n → ⊥) → refuses 9 ≡ read_answer n s
    unfolding interleaved_values
    other_count f = rw (room, ne_eqb (unle (take 4 s)) n f)

    module _ (f : unle (take 4 s) ≡ n) where
      pub past_end : (e : ℕ) → refuses e ≡ walk_answer n s → refuses e ≡ read_answer n s
      unfolding interleaved_values
      past_end e w = rw (room, eq-eqb (unle (take 4 s)) n f, walk_refused n s e w)

      module _ (sum : ℕ) (w : gives sum ≡ walk_answer n s) where
        pub too_large : most_bytes < sum → refuses 5 ≡ read_answer n s
        unfolding interleaved_values
        too_large h =
            let q = walk_gave n s w in
            rw (room, eq-eqb (unle (take 4 s)) n f, q.0, lt-leb (total_of (found n s)) most_bytes (omega (arith, q.1)))

        pub all_found : sum ≤ most_bytes → gives sum ≡ read_answer n s
        unfolding interleaved_values
        all_found h =
            let q = walk_gave n s w in
            rw (room, eq-eqb (unle (take 4 s)) n f, q.0, le-leb (total_of (found n s)) most_bytes (omega (arith, q.1))) (ap gives q.1)

-- what the reader's answer says of the cells
pub cells_read : (n : ℕ) (s : List ℕ) (sum : ℕ) → n ≤ most_cells → gives sum ≡ read_answer n s → Walked n s sum × (interleaved_values n s ≡ gives (found n s))
unfolding interleaved_values
cells_read n s sum h e =
    let f : List Value → Answer (List Value) = λ us. unless (size_test (total_of us)) 5 (gives us) in
    let r = went_on (interleaved_values n s) (λ vs. gives (total_of vs)) (sym e) in
    let long = passed (leb (4 * suc n) (length s)) 7 (unless (eqb (unle (take 4 s)) n) 9 (and_then (stored_cells n s) f)) r.1.0 in
    let count = passed (eqb (unle (take 4 s)) n) 9 (and_then (stored_cells n s) f) long.1 in
    let g = went_on (stored_cells n s) f count.1 in
    let size = passed (size_test (total_of g.0)) 5 (gives g.0) g.1.1 in
    let same : found n s ≡ r.0 = held n s g.1.0 ∙ same_given size.1 in
    let total : sum ≡ total_of (found n s) = sym (same_given r.1.1) ∙ ap total_of (sym same) in (
      record {
        few = h;
        all = g.1.0 ∙ ap gives (sym (held n s g.1.0));
        total = total;
        small = omega (arith, total, ap total_of (held n s g.1.0), size_ok (total_of g.0) size.0);
      },
      r.1.0 ∙ ap gives (sym same),
    )

-- a string whose cells are given begins with their count
pub count_read : (n : ℕ) (s : List ℕ) {vs : List Value} → interleaved_values n s ≡ gives vs → (4 ≤ length s) × (unle (take 4 s) ≡ n)
unfolding interleaved_values
count_read n s e =
    let cells : Answer (List Value) = and_then (stored_cells n s) (λ us. unless (size_test (total_of us)) 5 (gives us)) in
    let long = passed (leb (4 * suc n) (length s)) 7 (unless (eqb (unle (take 4 s)) n) 9 cells) e in
    let count = passed (eqb (unle (take 4 s)) n) 9 cells long.1 in
    (omega (arith, leb-true (4 * suc n) (length s) long.0), eqb-true (unle (take 4 s)) n count.0)

-- ---- decode_interleaved

module _ (n : ℕ) (s : List ℕ) (old : RaggedContent) where
  pub many_cells : most_cells < n → refused 2 old ≡ interleaved_decoded n s old
  unfolding interleaved_decoded interleaved_answer
  many_cells h = rw (lt-leb n most_cells h)

  module _ (h : n ≤ most_cells) where
    pub not_read : (e : ℕ) → refuses e ≡ read_answer n s → refused e old ≡ interleaved_decoded n s old
    unfolding interleaved_decoded interleaved_answer
    not_read e r = rw (le-leb n most_cells h) (go (interleaved_values n s) r)
      where
        go : (a : Answer (List Value)) → refuses e ≡ map_answer total_of a
            → refused e old ≡ ragged_outcome (and_then a (λ vs. found_answer vs (ragged_lengths_of old))) old
        go (gives vs) p = absurd (never (sym p) refl)
        go (refuses k) p = let same : e ≡ k = cc in ap (λ (j : ℕ). refused j old) same

    pub all_decoded : (sum : ℕ) → gives sum ≡ read_answer n s → {o : Outcome RaggedLengths RaggedContent}
        → o ≡ ragged_outcome (found_answer (found n s) (ragged_lengths_of old)) old → o ≡ interleaved_decoded n s old
    unfolding interleaved_decoded interleaved_answer
    all_decoded sum r e = rw (le-leb n most_cells h, (cells_read n s sum h r).1) e

pub ruleset call_laws = (many_cells, not_read, all_decoded)
