-- The checks of a merge: one law for each answer, and what is known where they pass.
-- Assumes nothing.
use mathlib.Core.Path.{◌≡◌, refl, sym, ◌∙◌}
use Prim.Native.Nat.{ℕ, ◌<◌, ◌≤◌}
use mathlib.Core.Bool.{Bool, true, false}
use mathlib.Core.List.{List}
use lib.ListN.{length}
use borrow.Author.Tests.{le-leb, lt-leb}
use Rattle.array.specs.Limits.{most_bytes}
use Rattle.array.specs.Answer.{Answer, gives, refuses, unless}
use Rattle.array.specs.Kind.{Kind, kind_test}
use Rattle.array.specs.Shape.{volume, shape_test}
use Rattle.array.specs.Subset.{subsets_of, many_test}
use Rattle.array.specs.Content.{Content, size_test}
use Rattle.array.proofs.Answers.{same_given}
use Rattle.array.proofs.Answers as answers
use Rattle.array.proofs.Rules.{kind_ok, shape_ok, many_ok, size_ok}
use Rattle.valid.specs.ShapeCells.{shape_answer}
use Rattle.valid.proofs.ShapeLaws.{counted, not_counted}
use Rattle.subset.specs.Subsets.{SubsetsOk}
use Rattle.merge_rules.specs.Chunks.{chunks_test}
use Rattle.merge_rules.specs.Checks.{check_answer, MergeChecked}

-- ---- the subsets, once they are tested

module _ (sh ns : List ℕ) (q : shape_test sh ≡ true) (r : many_test sh ns ≡ true) where
  pub tested_subsets : SubsetsOk sh ns
  tested_subsets = record { shaped = shape_ok sh q; many = many_ok sh ns r }

module _ (k : Kind) (sh ns : List ℕ) (c : Content) where
  abbrev kept : Bool
  kept = chunks_test k (subsets_of (length sh) ns) c

  abbrev given : Answer ℕ
  given = gives (volume sh)

  answered : {a b m : Bool} (t s : Bool) → kind_test k ≡ a → shape_test sh ≡ b → many_test sh ns ≡ m → kept ≡ t → size_test (length c.values) ≡ s
      → check_answer k sh ns c ≡ unless a 1 (unless b 2 (unless m 3 (unless t 4 (unless s 5 given))))
  unfolding check_answer
  answered t s p q r u v = rw (p, q, r, u, v)

  pub no_kind : kind_test k ≡ false → refuses 1 ≡ check_answer k sh ns c
  no_kind p = sym (answered {b = shape_test sh} {m = many_test sh ns} kept (size_test (length c.values)) p refl refl refl refl)

  module _ (p : kind_test k ≡ true) where
    pub no_shape : {number : ℕ} → refuses number ≡ shape_answer sh → refuses number ≡ check_answer k sh ns c
    no_shape {number} e =
        let n = not_counted sh number e in
        rw n.1 (sym (answered {m = many_test sh ns} kept (size_test (length c.values)) p n.0 refl refl refl))

    module _ (q : shape_test sh ≡ true) where
      pub no_subsets : many_test sh ns ≡ false → refuses 3 ≡ check_answer k sh ns c
      no_subsets r = sym (answered kept (size_test (length c.values)) p q r refl refl)

      module _ (r : many_test sh ns ≡ true) where
        pub bad_chunks : chunks_test k (subsets_of (length sh) ns) c ≡ false → refuses 4 ≡ check_answer k sh ns c
        bad_chunks u = sym (answered false (size_test (length c.values)) p q r u refl)

        module _ (u : chunks_test k (subsets_of (length sh) ns) c ≡ true) where
          pub too_many : most_bytes < length c.values → refuses 5 ≡ check_answer k sh ns c
          too_many h = sym (answered true false p q r u (lt-leb (length c.values) most_bytes h))

          pub passes : length c.values ≤ most_bytes → given ≡ check_answer k sh ns c
          passes h = sym (answered true true p q r u (le-leb (length c.values) most_bytes h))

  -- ---- what is known where they pass

  pub passed : (n : ℕ) → gives n ≡ check_answer k sh ns c → SubsetsOk sh ns × MergeChecked k sh (subsets_of (length sh) ns) c n
  passed n e =
      let all = sym (answered {a = kind_test k} {b = shape_test sh} {m = many_test sh ns} kept (size_test (length c.values)) refl refl refl refl refl) in
      let sized : Answer ℕ = unless (size_test (length c.values)) 5 given in
      let a = answers.passed (kind_test k) 1 (unless (shape_test sh) 2 (unless (many_test sh ns) 3 (unless kept 4 sized))) (all ∙ sym e) in
      let b = answers.passed (shape_test sh) 2 (unless (many_test sh ns) 3 (unless kept 4 sized)) a.1 in
      let m = answers.passed (many_test sh ns) 3 (unless kept 4 sized) b.1 in
      let t = answers.passed kept 4 sized m.1 in
      let s = answers.passed (size_test (length c.values)) 5 given t.1 in
      (tested_subsets sh ns b.0 m.0, record { kind = kind_ok k a.0; counted = sym (same_given s.1); kept = t.0; small = size_ok (length c.values) s.0 })

pub ruleset check_laws = (counted, no_kind, no_shape, no_subsets, bad_chunks, too_many, passes)
