-- What the call answers: each refusal in its order, and success; and what a cut of values answers, with the masks put before it.
-- Assumes nothing.
use mathlib.Core.Path.{◌≡◌, refl, sym, ap, ◌∙◌}
use mathlib.Core.Bool.{Bool, true, false, ◌&&◌}
use Prim.Native.Nat.{ℕ, ◌≤◌}
use native.Mathlib.Omega.{arith}
use mathlib.Core.List.{List}
use borrow.Author.Tests.{le-leb}
use lib.ListN.{length}
use lib.Dec.{leb}
use Rattle.std.specs.Prelude.{Ok, Err}
use Rattle.array.specs.declared.refusal.Refusal.{Refusal}
use Rattle.array.specs.Answer.{Answer, gives, refuses, unless, map_answer, Outcome}
use Rattle.array.specs.Kind.{Kind, kind_test}
use Rattle.array.specs.Shape.{volume, shape_test}
use Rattle.array.specs.Subset.{subset_of, numbers_test}
use Rattle.array.specs.Content.{Content, RaggedContent, unless_kept}
use Rattle.array.specs.declared.answer.Lengths.{Lengths}
use Rattle.array.specs.declared.answer.RaggedLengths.{RaggedLengths}
use Rattle.array.specs.Buffers.{lengths_of, ragged_lengths_of, enough_test, ragged_enough_test, if_room, over, content_after, ragged_outcome, content_outcome, put_into}
use Rattle.array.specs.Outcome.{content_array}
use Rattle.array.specs.Meaning.{told, number_of}
use Rattle.valid.specs.ShapeCells.{shape_answer}
use Rattle.valid.specs.Check.{check_of}
use Rattle.valid.proofs.ShapeLaws.{counted, not_counted}
use Rattle.array.proofs.Putting.{refused}
use Rattle.valid.proofs.CheckLaws.{check_refused, check_passed}
use Rattle.chunks.specs.Cut.{cut_of}
use Rattle.chunks.specs.Calls.{extracted, extract_answer}
use Rattle.chunks.specs.ReadThenCut.{ragged_of}
use Rattle.cut_ragged.specs.Source.{put_ragged}

-- ---- masks put before values and offsets, if those were written

abbrev pub masks_after : {A : Type 0} → Answer A → List ℕ → List ℕ → List ℕ
masks_after (gives a) new old = new
masks_after (refuses number) new old = old

abbrev pub with_masks : ℕ → List ℕ → List ℕ → Outcome RaggedLengths RaggedContent → Outcome Lengths Content
with_masks m new old o = record {
  answer = map_answer (λ l. record { masks = m; values = l.values; offsets = l.offsets }) o.answer;
  buffers = content_array (masks_after o.answer new old) o.buffers.values o.buffers.offsets;
}

pub masks_first : (c out : Content) {m : ℕ} → length c.masks ≡ m → m ≤ length out.masks → {o : Outcome RaggedLengths RaggedContent} → o ≡ put_ragged (ragged_of c) (ragged_of out)
    → with_masks m (over c.masks out.masks) out.masks o ≡ put_into c out
masks_first c out {m} e h q =
    let room : Lengths = lengths_of out in
    let enough : ragged_enough_test (ragged_of c) (ragged_lengths_of (ragged_of out)) ≡ enough_test c room =
    ap (λ (t : Bool). t && leb (length c.values) room.values && leb (length c.offsets) room.offsets) (sym (le-leb (length c.masks) (length out.masks) (omega arith))) in
    ap (with_masks m (over c.masks out.masks) out.masks) q ∙ by (ragged_enough_test (ragged_of c) (ragged_lengths_of (ragged_of out)))
    ∙ ap (λ (t : Bool). content_outcome (if_room t c) out) enough
  where
    by : (t : Bool) → with_masks m (over c.masks out.masks) out.masks (ragged_outcome (if_room t (ragged_of c)) (ragged_of out)) ≡ content_outcome (if_room t c) out
    by true = λ i. record { answer = gives (record { masks = sym e i; values = length c.values; offsets = length c.offsets }); buffers = content_after (gives c) out }
    by false = refl

-- ---- the call

module _ (k : Kind) (shape ns : List ℕ) (c out : Content) where
  abbrev cut : Content
  cut = cut_of k shape c (subset_of (length shape) ns)

  answered : {a b d : Bool} → kind_test k ≡ a → shape_test shape ≡ b → numbers_test shape ns ≡ d
      → extracted k shape ns c out ≡ content_outcome (unless a 1 (unless b 2 (unless d 3 (unless_kept k (volume shape) c (unless (enough_test cut (lengths_of out)) 6 (gives cut)))))) out
  unfolding extracted extract_answer
  answered p q r = rw (p, q, r)

  pub no_kind : kind_test k ≡ false → refused 1 out ≡ extracted k shape ns c out
  no_kind p = sym (answered {b = shape_test shape} {d = numbers_test shape ns} p refl refl)

  module _ (p : kind_test k ≡ true) where
    pub no_shape : {number : ℕ} → refuses number ≡ shape_answer shape → refused number out ≡ extracted k shape ns c out
    no_shape {number} e = let n = not_counted shape number e in rw n.1 (sym (answered {d = numbers_test shape ns} p n.0 refl))

    module _ (q : shape_test shape ≡ true) where
      pub no_subset : numbers_test shape ns ≡ false → refused 3 out ≡ extracted k shape ns c out
      no_subset r = sym (answered p q r)

      module _ (r : numbers_test shape ns ≡ true) where
        abbrev after : Answer Content
        after = unless (enough_test cut (lengths_of out)) 6 (gives cut)

        pub not_kept : (number : Refusal) {n : ℕ} → n ≡ volume shape → refuses (number_of number) ≡ check_of k n c → refused (number_of number) out ≡ extracted k shape ns c out
        not_kept number w e =
            sym (answered p q r
            ∙ ap (λ (a : Answer Content). content_outcome a out) (check_refused k (volume shape) c (Err number) (e ∙ ap (λ (n : ℕ). check_of k n c) w) after number refl))

        pub kept : {n : ℕ} → n ≡ volume shape → told (Ok tt) ≡ check_of k n c
            → {o : Outcome Lengths Content} → o ≡ put_into cut out → o ≡ extracted k shape ns c out
        kept w e d =
            d ∙ sym (answered p q r
            ∙ ap (λ (a : Answer Content). content_outcome a out) (check_passed k (volume shape) c (Ok tt) (e ∙ ap (λ (n : ℕ). check_of k n c) w) refl after))

pub ruleset extract_laws = (counted, no_kind, no_shape, no_subset)
