-- partial_decode is decode, then extract.
-- Assumes nothing.
use mathlib.Core.Path.{◌≡◌, refl, sym, ap, ◌∙◌}
use Prim.Native.Nat.{ℕ}
use mathlib.Core.Bool.{Bool, true, false, ◌&&◌}
use mathlib.Core.List.{List}
use lib.ListN.{length}
use lib.Dec.{leb, leb-zero, lit≤}
use Rattle.array.specs.Answer.{Answer, gives, refuses, and_then, unless, map_answer}
use Rattle.array.specs.Kind.{Kind, KindOk, Place, ragged, FormOk, as_bytes}
use Rattle.array.specs.Shape.{volume, ShapeOk, shape_test}
use Rattle.array.specs.Subset.{subset_of, NumbersOk, numbers_test}
use Rattle.array.specs.Content.{Content, RaggedContent, unmasked}
use Rattle.array.specs.declared.answer.Lengths.{Lengths}
use Rattle.array.specs.Buffers.{lengths_of, ragged_lengths_of, enough_test, ragged_enough_test, ragged_outcome, content_outcome, Taken, whole}
use Rattle.array.proofs.Answers.{pass}
use Rattle.array.proofs.Rules.{kind_test_lem, shape_test_lem, shape_ok, numbers_test_lem, numbers_ok, rest_passes}
use Rattle.array.proofs.Taken.{taken_content}
use Rattle.codec.specs.Ragged.{get_ragged}
use Rattle.codec.specs.Mask.{mask_form}
use Rattle.codec.specs.Calls.{decode_answer, decoded}
use Rattle.codec.proofs.Accepted.{read_content, read_small}
use Rattle.codec.proofs.Flat.{flat_read}
use Rattle.chunks.specs.Cut.{cut_of}
use Rattle.chunks.specs.Calls.{extract_answer, extracted, partially_decoded}
use Rattle.chunks.specs.ReadThenCut.{ragged_of, without_masks, next_call, flat, read_then_cut, LongEnough, PartialDecode}
use Rattle.chunks.proofs.Refusals.{cut_or_six, subset_first}

module _ (w : ℕ) (p : Place) (ok : FormOk (ragged w p)) (shape ns s : List ℕ) (read out : Content) where
  abbrev kind : Kind
  kind = flat w p

  abbrev stored : Answer RaggedContent
  stored = get_ragged w p s (volume shape)

  kind_passes : KindOk kind
  kind_passes = record { shallow = lit≤ tt; sound = ok }

  -- partial_decode and decode by what their tests say and what is read
  abbrev given : RaggedContent → Answer RaggedContent
  given x = cut_or_six w p shape ns s (ragged_of out) x

  partial_is : (a b : Bool) (g : Answer RaggedContent) → shape_test shape ≡ a → numbers_test shape ns ≡ b → stored ≡ g
      → partially_decoded w p shape ns s (ragged_of out) ≡ ragged_outcome (unless a 2 (unless b 3 (and_then g given))) (ragged_of out)
  unfolding partially_decoded
  partial_is a b g ea eb eg =
      ap (λ (y : Answer RaggedContent). ragged_outcome y (ragged_of out)) (subset_first w p shape ns s (ragged_of out) b eb)
      ∙ rw (ea, eg)

  decode_is : (a : Bool) (g : Answer RaggedContent) → shape_test shape ≡ a → stored ≡ g
      → decode_answer kind shape s (lengths_of read)
      ≡ unless a 2 (and_then (and_then g (λ x. gives (unmasked x))) (λ c. unless (enough_test c (lengths_of read)) 6 (gives c)))
  unfolding decode_answer
  decode_is a g ea eg = pass 1 (kind_test_lem kind kind_passes) (rw (ea, flat_read w p (mask_form as_bytes) (volume shape) s, eg))

  -- extract of what was read: neither 4 nor 5, and 6 as in partial_decode
  extract_is : (x : RaggedContent) → stored ≡ gives x → shape_test shape ≡ true → numbers_test shape ns ≡ true
      → without_masks (extracted kind shape ns (unmasked x) out) ≡ ragged_outcome (given x) (ragged_of out)
  unfolding extracted extract_answer
  extract_is x eg ea eb =
      let cut : Content = cut_of kind shape (unmasked x) (subset_of (length shape) ns) in
      let room : Lengths = lengths_of out in
      let answer : extract_answer kind shape ns (unmasked x) room ≡ unless (enough_test cut room) 6 (gives cut) =
      pass 1 (kind_test_lem kind kind_passes) (pass 2 ea (pass 3 eb
      (rest_passes kind (volume shape) (unmasked x) (read_content w p s (volume shape) x eg) (read_small w p s (volume shape) x eg) refl))) in
      let six : enough_test cut room ≡ ragged_enough_test (ragged_of cut) (ragged_lengths_of (ragged_of out)) =
      ap (λ (t : Bool). t && leb (length cut.values) room.values && leb (length cut.offsets) room.offsets) (leb-zero room.masks) in
      ap (λ (a : Answer Content). without_masks (content_outcome a out)) (answer ∙ ap (λ (t : Bool). unless t 6 (gives cut)) six)
      ∙ by cut (ragged_enough_test (ragged_of cut) (ragged_lengths_of (ragged_of out)))
    where
      by : (c : Content) (t : Bool) → without_masks (content_outcome (unless t 6 (gives c)) out) ≡ ragged_outcome (unless t 6 (gives (ragged_of c))) (ragged_of out)
      by c true = refl
      by c false = refl

  -- the two calls one after the other, by decode's answer
  chain_is : (d : Answer Content) → decode_answer kind shape s (lengths_of read) ≡ d
      → without_masks (next_call (and_then d (λ c. gives (whole c))) (λ c. extracted kind shape ns c out) out) ≡ without_masks (read_then_cut w p shape s ns read out)
  unfolding decoded
  chain_is d e =
      ap (λ (t : Answer Taken). without_masks (next_call t (λ c. extracted kind shape ns c out) out))
      (sym (taken_content (decode_answer kind shape s (lengths_of read)) read ∙ ap (λ (a : Answer Content). and_then a (λ c. gives (whole c))) e))

  module _ (long : LongEnough w p shape s read) (fits : ShapeOk shape → NumbersOk shape ns) where
    equal : (a : Bool) (g : Answer RaggedContent) → shape_test shape ≡ a → stored ≡ g
        → partially_decoded w p shape ns s (ragged_of out) ≡ without_masks (read_then_cut w p shape s ns read out)
    unfolding decoded
    equal false g ea eg = partial_is false (numbers_test shape ns) g ea refl eg ∙ chain_is (refuses 2) (decode_is false g ea eg)
    equal true (refuses k) ea eg =
        partial_is true true (refuses k) ea (numbers_test_lem shape ns (fits (shape_ok shape ea))) eg ∙ chain_is (refuses k) (decode_is true (refuses k) ea eg)
    equal true (gives x) ea eg = by (enough_test (unmasked x) (lengths_of read)) refl
      where
        eb : numbers_test shape ns ≡ true
        eb = numbers_test_lem shape ns (fits (shape_ok shape ea))

        by : (t : Bool) → enough_test (unmasked x) (lengths_of read) ≡ t
            → partially_decoded w p shape ns s (ragged_of out) ≡ without_masks (read_then_cut w p shape s ns read out)
        by true et =
            partial_is true true (gives x) ea eb eg ∙ sym (extract_is x eg ea eb)
            ∙ chain_is (gives (unmasked x)) (decode_is true (gives x) ea eg ∙ pass 6 et refl)
        by false et =
            absurd (long (ap (map_answer lengths_of) (decode_is true (gives x) ea eg ∙ ap (λ (t : Bool). unless t 6 (gives (unmasked x))) et)))

  first : ShapeOk shape → (NumbersOk shape ns → ⊥) → (b : Bool) → numbers_test shape ns ≡ b
      → partially_decoded w p shape ns s (ragged_of out) ≡ record { answer = refuses 3; buffers = ragged_of out }
  first sh no_subset true eb = absurd (no_subset (numbers_ok shape ns eb))
  first sh no_subset false eb = partial_is true false stored (shape_test_lem shape sh) eb refl

pub partial_decode : PartialDecode
partial_decode w p ok shape s read long ns out = record {
  subset_first = λ sh no_subset. first w p ok shape ns s read out sh no_subset (numbers_test shape ns) refl;
  else_equal = λ fits. equal w p ok shape ns s read out long fits (shape_test shape) (get_ragged w p s (volume shape)) refl refl;
}
