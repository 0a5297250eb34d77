-- The call is its steps: the checks, and then 12, the outputs' test and the stores.
-- Assumes nothing.
use mathlib.Core.Path.{◌≡◌, refl, sym, ap, ◌∙◌}
use Prim.Native.Nat.{ℕ}
use mathlib.Core.Bool.{Bool, true, false}
use mathlib.Core.List.{List}
use lib.ListN.{length}
use Rattle.array.specs.Answer.{Answer, gives, refuses, and_then, unless, Outcome}
use Rattle.array.specs.Lists.{joined}
use Rattle.array.specs.Kind.{Kind, kind_test}
use Rattle.array.specs.Shape.{volume, shape_test}
use Rattle.array.specs.Subset.{Subset, subsets_of, many_test, cells_of_all}
use Rattle.array.specs.Cells.{Cell}
use Rattle.array.specs.Content.{Content, leaves, size_test}
use Rattle.array.specs.declared.answer.Lengths.{Lengths}
use Rattle.array.specs.Buffers.{lengths_of, enough_test, content_outcome}
use Rattle.array.proofs.Answers.{then_unless}
use Rattle.subset.specs.Subsets.{SubsetsOk}
use Rattle.chunks.specs.Gather.{once_test}
use Rattle.chunks.specs.Chunks.{chunk_cells, merge_of}
use Rattle.chunks.specs.Calls.{merge_answer, merged}
use Rattle.merge_rules.specs.Checks.{check_answer, MergeChecked}
use Rattle.merge_output.specs.Stores.{store_answer}
use Rattle.merge.specs.Merge.{cover_answer}
use Rattle.merge_stores.proofs.FirstChunk.{all_values}
use Rattle.merge_rules.specs.Chunks.{chunks_test}
use Rattle.merge_output.proofs.Totals.{found, refused}
use Rattle.merge_rules.proofs.Passing.{passed}

module _ (k : Kind) (sh ns : List ℕ) (c : Content) where
  abbrev bs : List Subset
  bs = subsets_of (length sh) ns

  pub merge_steps : (room : Lengths) → merge_answer k sh ns c room
      ≡ and_then (check_answer k sh ns c) (λ z. cover_answer k sh bs c room)
  unfolding merge_answer check_answer store_answer
  merge_steps room = go (kind_test k) (shape_test sh) (many_test sh ns) (chunks_test k bs c) refl
    where
      -- 12, and then what is left of the call
      covering : Answer Content → Answer Content
      covering a = unless (once_test (volume sh) (cells_of_all sh bs)) 12 a

      storing : List (Cell k.depth) → Answer Content
      storing cs = unless (enough_test (merge_of k sh bs cs) room) 6 (gives (merge_of k sh bs cs))

      bytes : List (Cell k.depth) → ℕ
      bytes cs = length (joined (leaves k.depth cs))

      sized : Answer ℕ
      sized = unless (size_test (length c.values)) 5 (gives (volume sh))

      -- with the cells that the list has, or 4
      after : (t : Bool) → chunks_test k bs c ≡ t
          → and_then (chunk_cells k bs c) (λ cs. unless (size_test (bytes cs)) 5 (covering (storing cs)))
          ≡ and_then (unless t 4 sized) (λ z. covering (and_then (chunk_cells k bs c) storing))
      after false e = ap (λ (r : Answer (List (Cell k.depth))). and_then r (λ cs. unless (size_test (bytes cs)) 5 (covering (storing cs)))) (refused k bs c e)
      after true e =
          let q = found k bs c e in
          ap (λ (r : Answer (List (Cell k.depth))). and_then r (λ cs. unless (size_test (bytes cs)) 5 (covering (storing cs)))) q.1.are
          ∙ ap (λ (n : ℕ). unless (size_test n) 5 (covering (storing q.0))) (ap length (all_values bs q.1))
          ∙ ap (λ (r : Answer (List (Cell k.depth))). unless (size_test (length c.values)) 5 (covering (and_then r storing))) (sym q.1.are)
          ∙ sym (then_unless (size_test (length c.values)) 5 (volume sh) (λ z. covering (and_then (chunk_cells k bs c) storing)))

      go : (a b m t : Bool) → chunks_test k bs c ≡ t
          → unless a 1 (unless b 2 (unless m 3 (and_then (chunk_cells k bs c) (λ cs. unless (size_test (bytes cs)) 5 (covering (storing cs))))))
          ≡ and_then (unless a 1 (unless b 2 (unless m 3 (unless t 4 sized)))) (λ z. covering (and_then (chunk_cells k bs c) storing))
      go false b m t e = refl
      go true false m t e = refl
      go true true false t e = refl
      go true true true t e = after t e

  module _ (old : Content) where
    whole : merged k sh ns c old ≡ content_outcome (merge_answer k sh ns c (lengths_of old)) old
    unfolding merged
    whole = refl

    by_steps : {t : Answer ℕ} → t ≡ check_answer k sh ns c
        → merged k sh ns c old ≡ content_outcome (and_then t (λ z. cover_answer k sh bs c (lengths_of old))) old
    by_steps e =
        whole ∙ ap (λ (a : Answer Content). content_outcome a old)
        (merge_steps (lengths_of old) ∙ ap (λ (x : Answer ℕ). and_then x (λ z. cover_answer k sh bs c (lengths_of old))) (sym e))

    pub merge_refused : (e : ℕ) → refuses e ≡ check_answer k sh ns c
        → record { answer = refuses e; buffers = old } ≡ merged k sh ns c old
    merge_refused e p = sym (by_steps p)

    module _ (n : ℕ) (p : gives n ≡ check_answer k sh ns c) where
      pub merge_checked : SubsetsOk sh ns × MergeChecked k sh bs c n
      merge_checked = passed k sh ns c n p

      pub merge_stored : {o : Outcome Lengths Content} → o ≡ content_outcome (cover_answer k sh bs c (lengths_of old)) old → o ≡ merged k sh ns c old
      merge_stored e = e ∙ sym (by_steps p)

-- ---- the test of 12

module _ {covers t : Bool} (e : covers ≡ t) (a : Answer Content) (old : Content) where
  pub uncovered : covers ≡ false → record { answer = refuses 12; buffers = old } ≡ content_outcome (unless t 12 a) old
  uncovered f = ap (λ (x : Bool). content_outcome (unless x 12 a) old) (sym f ∙ e)

  pub covered : covers ≡ true → {o : Outcome Lengths Content} → o ≡ content_outcome a old → o ≡ content_outcome (unless t 12 a) old
  covered f s = s ∙ ap (λ (x : Bool). content_outcome (unless x 12 a) old) (sym f ∙ e)
