-- What decode makes of what encode wrote: the array's rest form, which at depth 0 is the array itself.
-- Assumes nothing.
use mathlib.Core.Path.{◌≡◌, refl, sym, ap, ◌∙◌}
use Prim.Native.Nat.{ℕ, ◌≤◌}
use native.Mathlib.Omega.{arith}
use mathlib.Core.List.{List}
use lib.ListN.{length}
use borrow.Author.Tests.{le-leb}
use Rattle.array.specs.Answer.{Answer, gives, and_then, unless}
use Rattle.array.specs.Kind.{Kind}
use Rattle.array.specs.Shape.{volume}
use Rattle.array.specs.Cells.{Cell}
use Rattle.array.specs.Content.{Content, Valid, cells_of, rest_form}
use Rattle.array.specs.declared.answer.Lengths.{Lengths}
use Rattle.array.specs.Buffers.{Enough, enough_test}
use Rattle.array.proofs.Answers.{pass}
use Rattle.array.proofs.Rules.{kind_test_lem, shape_test_lem, rest_passes, enough_test_lem}
use Rattle.array.proofs.LayoutLaws.{Good, good_cells}
use Rattle.codec.specs.Mask.{mask_form}
use Rattle.codec.specs.Carried.{Carried}
use Rattle.codec.specs.Calls.{stored_form, values_left, read_in, encode_answer, decode_answer}
use Rattle.codec.proofs.Carried.{carried_test_lem}
use Rattle.codec.proofs.Lengths.{frame_small}
use Rattle.codec.proofs.RoundTrip.{read_layout}

-- what is read of what a valid array was written as
pub stored_returns : (k : Kind) (shape : List ℕ) (c : Content) → Valid k shape c → Carried k.form (values_left k (volume shape) c)
    → read_in (mask_form k.masks) k.form k.depth (volume shape) (stored_form k (volume shape) c) ≡ gives (rest_form k (volume shape) c)
stored_returns k shape c v w =
    let n : ℕ = volume shape in
    let cs : List (Cell k.depth) = cells_of k n c in
    let g : Good k n cs = good_cells k n c v.content v.small in
    ap (λ (m : ℕ). read_in (mask_form k.masks) k.form k.depth m (stored_form k n c)) (sym g.counted)
    ∙ read_layout k.masks k.form k.depth cs g.sized g.strict g.small w
    (frame_small k.masks k.form v.kind.sound k.depth cs v.kind.shallow (omega (arith, g.counted, v.shaped.few_cells)) g.small)

-- ---- over the calls, with outputs that are long enough

pub encode_gives : (k : Kind) (shape : List ℕ) (c : Content) → Valid k shape c → Carried k.form (values_left k (volume shape) c) → (r : ℕ) → length (stored_form k (volume shape) c) ≤ r
    → encode_answer k shape c r ≡ gives (stored_form k (volume shape) c)
unfolding encode_answer
encode_gives k shape c v w r e =
    pass 1 (kind_test_lem k v.kind) (pass 2 (shape_test_lem shape v.shaped) (rest_passes k (volume shape) c v.content v.small
    (pass 20 (carried_test_lem k.form (values_left k (volume shape) c) w) (pass 6 (le-leb (length (stored_form k (volume shape) c)) r e) refl))))

pub decode_gives : (k : Kind) (shape : List ℕ) (c : Content) → Valid k shape c → Carried k.form (values_left k (volume shape) c) → (r : Lengths) → Enough (rest_form k (volume shape) c) r
    → decode_answer k shape (stored_form k (volume shape) c) r ≡ gives (rest_form k (volume shape) c)
unfolding decode_answer
decode_gives k shape c v w r e =
    pass 1 (kind_test_lem k v.kind) (pass 2 (shape_test_lem shape v.shaped)
    (ap (λ (a : Answer Content). and_then a (λ x. unless (enough_test x r) 6 (gives x))) (stored_returns k shape c v w)
    ∙ pass 6 (enough_test_lem (rest_form k (volume shape) c) r e) refl))
