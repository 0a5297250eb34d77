-- The calls on valid input: what they give.
-- Assumes nothing.
use mathlib.Core.Path.{◌≡◌, refl, sym, ap, ◌∙◌, subst}
use Prim.Native.Nat.{ℕ, ◌^◌, ◌<◌, ◌≤◌}
use native.Mathlib.Omega.{arith}
use mathlib.Core.List.{List, map}
use lib.ListN.{length}
use borrow.Author.Tests.{le-leb}
use Rattle.array.specs.Answer.{Answer, gives, and_then, unless}
use Rattle.array.specs.Kind.{Kind, KindOk, null_of}
use Rattle.array.specs.Shape.{volume, ShapeOk}
use Rattle.array.specs.Subset.{subset_of, NumbersOk}
use Rattle.array.specs.Cells.{Cell, rest}
use Rattle.array.specs.Content.{Content, Valid, layout}
use Rattle.array.specs.declared.answer.Lengths.{Lengths}
use Rattle.array.specs.Buffers.{Enough, enough_test, if_room}
use Rattle.array.proofs.Answers.{pass}
use Rattle.array.proofs.Rules.{kind_test_lem, shape_test_lem, numbers_test_lem, rest_passes, enough_test_lem}
use Rattle.array.proofs.LayoutLaws.{cells_layout, Good}
use Rattle.array.proofs.Resting.{laid_valid}
use Rattle.codec.specs.Mask.{mask_form}
use Rattle.codec.specs.Frame.{frame, live}
use Rattle.codec.specs.Values.{put_values}
use Rattle.codec.specs.Carried.{Carried}
use Rattle.codec.specs.Calls.{stored_form, values_left, read_in, encode_answer, decode_answer}
use Rattle.codec.proofs.Carried.{carried_test_lem}
use Rattle.codec.proofs.Lengths.{frame_small}
use Rattle.codec.proofs.RoundTrip.{stored_layout, read_layout}
use Rattle.chunks.specs.Cut.{cut_of}
use Rattle.chunks.specs.Calls.{extract_answer}

-- ---- extract, on a valid array

-- refused by nothing but 6
pub extract_any : {k : Kind} {shape ns : List ℕ} {c : Content} → Valid k shape c → NumbersOk shape ns → (r : Lengths)
    → extract_answer k shape ns c r ≡ if_room (enough_test (cut_of k shape c (subset_of (length shape) ns)) r) (cut_of k shape c (subset_of (length shape) ns))
unfolding extract_answer
extract_any {k} {shape} {ns} {c} v p r =
    pass 1 (kind_test_lem k v.kind) (pass 2 (shape_test_lem shape v.shaped) (pass 3 (numbers_test_lem shape ns p) (rest_passes k (volume shape) c v.content v.small refl)))

pub extract_gives : (k : Kind) (shape : List ℕ) (c : Content) → Valid k shape c → (ns : List ℕ) → NumbersOk shape ns → (r : Lengths)
    → Enough (cut_of k shape c (subset_of (length shape) ns)) r → extract_answer k shape ns c r ≡ gives (cut_of k shape c (subset_of (length shape) ns))
extract_gives k shape c v ns p r e = extract_any v p r ∙ pass 6 (enough_test_lem (cut_of k shape c (subset_of (length shape) ns)) r e) refl

-- ---- encode and decode, on cells that were laid out

module _ (k : Kind) (ok : KindOk k) (shape : List ℕ) (sh : ShapeOk shape) (xs : List (Cell k.depth)) (g : Good k (volume shape) xs) where
  abbrev here : Content
  here = layout k.form k.depth xs

  abbrev resting : Content
  resting = layout k.form k.depth (map (rest (null_of k.form) k.depth) xs)

  abbrev stored : List ℕ
  stored = frame (mask_form k.masks) (put_values k.form) k.depth xs

  pub valid_layout : Valid k shape here
  valid_layout = laid_valid ok sh g

  -- where the index carries what is written
  pub encode_gives : Carried k.form (live k.depth xs) → (r : ℕ) → length (stored_form k (volume shape) here) ≤ r → encode_answer k shape here r ≡ gives stored
  unfolding encode_answer
  encode_gives w r e =
      let left : Carried k.form (values_left k (volume shape) here) =
      subst (λ (ys : List (Cell k.depth)). Carried k.form (live k.depth ys)) (sym (cells_layout k (volume shape) xs g.counted g.sized)) w in
      pass 1 (kind_test_lem k ok) (pass 2 (shape_test_lem shape sh) (rest_passes k (volume shape) here valid_layout.content g.small
      (pass 20 (carried_test_lem k.form (values_left k (volume shape) here) left)
      (pass 6 (le-leb (length (stored_form k (volume shape) here)) r e) (ap gives (stored_layout k (volume shape) xs g))))))

  pub decode_gives : Carried k.form (live k.depth xs) → (r : Lengths) → Enough resting r → decode_answer k shape stored r ≡ gives resting
  unfolding decode_answer
  decode_gives w r e =
      let fits : length stored < 256 ^ 8 = frame_small k.masks k.form ok.sound k.depth xs ok.shallow (omega (arith, g.counted, sh.few_cells)) g.small in
      pass 1 (kind_test_lem k ok) (pass 2 (shape_test_lem shape sh)
      (ap (λ (a : Answer Content). and_then a (λ c. unless (enough_test c r) 6 (gives c)))
      (ap (λ (n : ℕ). read_in (mask_form k.masks) k.form k.depth n stored) (sym g.counted)
      ∙ read_layout k.masks k.form k.depth xs g.sized g.strict g.small w fits)
      ∙ pass 6 (enough_test_lem resting r e) refl))
