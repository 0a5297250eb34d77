-- Long arrays are answered as they should be (specs/Long).
-- Assumes nothing.
use mathlib.Core.Path.{◌≡◌, refl, sym, ap, ◌∙◌}
use mathlib.Core.Logic.{inl, inr}
use Prim.Native.Nat.{ℕ, suc, ◌+◌, ◌-◌, ◌*◌, ◌^◌, ◌<◌, ◌≤◌}
use native.Mathlib.Nat.{min-le_left}
use native.Mathlib.Numerals.{add-one}
use native.Mathlib.Omega.{arith}
use mathlib.Core.Bool.{Bool, true, false, ◌&&◌}
use mathlib.Core.List.{List, [], ◌∷◌, ◌++◌}
use lib.ListN.{length, take, drop, length-append, length-take}
use lib.Seq.{take_all}
use lib.Dec.{leb, ltb, lit≤}
use borrow.Author.Tests.{lt-ltb, le-ltb, le-leb, lt-leb}
use Rattle.array.specs.Answer.{Answer, gives, unless}
use Rattle.array.specs.Limits.{most_bytes, most_cells}
use Rattle.array.specs.Kind.{Kind, KindOk, Place, ragged, byte_kind}
use Rattle.array.specs.Shape.{volume, ShapeOk}
use Rattle.array.specs.Offsets.{slices}
use Rattle.array.specs.Cells.{Value}
use Rattle.array.specs.Content.{Content, ArrayOk, size_test}
use Rattle.array.specs.Buffers.{list_outcome}
use Rattle.array.proofs.Answers.{pass}
use Rattle.array.proofs.Rules.{both, kind_test_lem, shape_test_lem, array_test_lem, size_test_lem}
use Rattle.array.proofs.Offsets.{joined-slices_all}
use Rattle.codec.specs.Carried.{carried_test, fields_test}
use Rattle.codec.specs.Interleaved.{put_interleaved}
use Rattle.codec.specs.Calls.{stored_form, values_left, encoded, encode_answer, interleaved_encoded, encode_interleaved_answer}
use Rattle.codec.specs.Long.{one_cell, long_hidden, flat_of, LongLines}
use Rattle.codec.specs.Length.{frame_length}
use Rattle.codec.proofs.Carried.{carried_sum}
use Rattle.codec.proofs.Lengths.{written_length_lem}
use Rattle.codec.proofs.Older.{length_interleaved}

-- what is left of encode for an array in order: its last three tests
module _ (k : Kind) (shape : List ℕ) (c : Content) (out : List ℕ) (ko : KindOk k) (so : ShapeOk shape) (ok : ArrayOk k (volume shape) c) where
  abbrev n : ℕ
  n = volume shape

  encode_left : (a b e : Bool) → size_test (length c.values) ≡ a → carried_test k.form (values_left k n c) ≡ b → leb (length (stored_form k n c)) (length out) ≡ e
      → encoded k shape c out ≡ list_outcome (unless a 5 (unless b 20 (unless e 6 (gives (stored_form k n c))))) out
  unfolding encoded encode_answer
  encode_left a b e p q r =
      let stored : List ℕ = stored_form k n c in
      ap (λ (x : Answer (List ℕ)). list_outcome x out)
      (pass 1 (kind_test_lem k ko) (pass 2 (shape_test_lem shape so) (pass 4 (array_test_lem k n c ok)
      (ap (λ (y : Bool). unless y 5 (unless (carried_test k.form (values_left k n c)) 20 (unless (leb (length stored) (length out)) 6 (gives stored)))) p
      ∙ ap (λ (y : Bool). unless a 5 (unless y 20 (unless (leb (length stored) (length out)) 6 (gives stored)))) q
      ∙ ap (λ (y : Bool). unless a 5 (unless b 20 (unless y 6 (gives stored)))) r))))

and_true : (b : Bool) → b && true ≡ b
and_true true = refl
and_true false = refl

row : (n : ℕ) → 1 ≤ n → n ≤ 4 → ShapeOk (n ∷ [])
unfolding most_cells
row n h l = record { some_sides = lit≤ tt; few_sides = lit≤ tt; sides = (h, tt); few_cells = omega arith }

one : ShapeOk (1 ∷ [])
one = row 1 (lit≤ tt) (lit≤ tt)

four : (d : ℕ) (p : Place) → d ≤ 4 → KindOk (byte_kind d (ragged 4 p))
four d p h = record { shallow = h; sound = inl refl }

eight : (p : Place) → KindOk (flat_of 8 p)
eight p = record { shallow = lit≤ tt; sound = inr refl }

-- ---- one cell

module _ (w : ℕ) (p : Place) (vs : List ℕ) where
  one_ok : ArrayOk (flat_of w p) 1 (one_cell vs)
  one_ok = record { fits = record { masks_fit = refl; values_fit = (refl, (refl, (omega arith, tt)), refl) }; strict = tt }

  abbrev own : List Value
  own = slices (0 ∷ length vs ∷ []) vs

  one_carried : carried_test (ragged w p) (values_left (flat_of w p) 1 (one_cell vs)) ≡ ltb (length vs) (256 ^ w)
  one_carried =
      carried_sum w p own
      ∙ ap (λ (t : List ℕ). ltb (length t) (256 ^ w)) (joined-slices_all 1 (0 ∷ length vs ∷ []) vs refl (refl, (omega arith, tt)) refl)

  one_long : length (stored_form (flat_of w p) 1 (one_cell vs)) ≡ 8 + w * 2 + length vs
  unfolding frame_length
  one_long =
      written_length_lem (flat_of w p) 1 (one_cell vs) one_ok.fits
      ∙ ap (λ (t : List ℕ). 8 + w * 2 + length t) (joined-slices_all 1 (0 ∷ length vs ∷ []) vs refl (refl, (omega arith, tt)) refl)

  one_field : fields_test own ≡ ltb (length vs) (256 ^ 4)
  one_field = ap (λ (t : List ℕ). ltb (length t) (256 ^ 4) && true) (take_all (length vs - 0) vs (omega arith)) ∙ and_true (ltb (length vs) (256 ^ 4))

  -- what is left of writing the older form
  older_left : KindOk (flat_of w p) → (out : List ℕ) → length vs ≤ most_bytes → (b e : Bool) → ltb (length vs) (256 ^ 4) ≡ b
      → leb (length (put_interleaved own)) (length out) ≡ e
      → interleaved_encoded (flat_of w p) (1 ∷ []) (one_cell vs) out ≡ list_outcome (unless b 20 (unless e 6 (gives (put_interleaved own)))) out
  unfolding interleaved_encoded encode_interleaved_answer
  older_left ko out h b e q r =
      let stored : List ℕ = put_interleaved own in
      ap (λ (x : Answer (List ℕ)). list_outcome x out)
      (pass 1 (both (both (kind_test_lem (flat_of w p) ko) refl) refl) (pass 2 (shape_test_lem (1 ∷ []) one) (pass 4 (array_test_lem (flat_of w p) 1 (one_cell vs) one_ok) (pass 5 (size_test_lem (length vs) h)
      (ap (λ (y : Bool). unless y 20 (unless (leb (length stored) (length out)) 6 (gives stored))) (one_field ∙ q)
      ∙ ap (λ (y : Bool). unless b 20 (unless y 6 (gives stored))) r)))))

-- ---- two cells, the long one hidden

module _ (p : Place) (vs : List ℕ) (b : ℕ) where
  abbrev deep : Kind
  deep = byte_kind 1 (ragged 4 p)

  hidden_ok : ArrayOk deep 2 (long_hidden vs b)
  hidden_ok = record {
    fits = record { masks_fit = refl; values_fit = (refl, (refl, (omega arith, (omega arith, tt))), sym (length-append vs (b ∷ []) ∙ add-one (length vs))) };
    strict = omega arith;
  }

  -- what is written: the last cell
  abbrev seen : List ℕ
  seen = take (suc (length vs) - length vs) (drop (length vs) (vs ++ (b ∷ [])))

  seen_short : length (seen ++ []) ≤ 1
  seen_short =
      let e : suc (length vs) - length vs ≡ 1 = omega arith in
      omega (
        arith,
        length-append seen [],
        length-take (suc (length vs) - length vs) (drop (length vs) (vs ++ (b ∷ []))),
        min-le_left (suc (length vs) - length vs) (length (drop (length vs) (vs ++ (b ∷ [])))),
      )

  hidden_carried : carried_test (ragged 4 p) (values_left deep 2 (long_hidden vs b)) ≡ true
  hidden_carried = carried_sum 4 p (seen ∷ []) ∙ lt-ltb (length (seen ++ [])) (256 ^ 4) (omega (arith, seen_short))

  hidden_long : 0 < length (stored_form deep 2 (long_hidden vs b))
  unfolding frame_length
  hidden_long = omega (arith, written_length_lem deep 2 (long_hidden vs b) hidden_ok.fits)

pub long_lines : LongLines
unfolding most_bytes
long_lines = record {
  most = λ p vs out e h.
      encode_left (flat_of 8 p) (1 ∷ []) (one_cell vs) out (eight p) one (one_ok 8 p vs) true true true
      (size_test_lem (length vs) (omega arith)) (one_carried 8 p vs ∙ lt-ltb (length vs) (256 ^ 8) (omega arith))
      (le-leb (length (stored_form (flat_of 8 p) 1 (one_cell vs))) (length out) (omega (arith, one_long 8 p vs)));
  one_more = λ p vs out e.
      encode_left (flat_of 8 p) (1 ∷ []) (one_cell vs) out (eight p) one (one_ok 8 p vs) false (carried_test (ragged 8 p) (values_left (flat_of 8 p) 1 (one_cell vs)))
      (leb (length (stored_form (flat_of 8 p) 1 (one_cell vs))) (length out)) (lt-leb (length vs) most_bytes (omega arith)) refl refl;
  narrow = λ p vs out e.
      encode_left (flat_of 4 p) (1 ∷ []) (one_cell vs) out (four 0 p (lit≤ tt)) one (one_ok 4 p vs) true false
      (leb (length (stored_form (flat_of 4 p) 1 (one_cell vs))) (length out)) (size_test_lem (length vs) (omega arith))
      (one_carried 4 p vs ∙ le-ltb (length vs) (256 ^ 4) (omega arith)) refl;
  narrow_less = λ p vs e.
      encode_left (flat_of 4 p) (1 ∷ []) (one_cell vs) [] (four 0 p (lit≤ tt)) one (one_ok 4 p vs) true true false
      (size_test_lem (length vs) (omega arith)) (one_carried 4 p vs ∙ lt-ltb (length vs) (256 ^ 4) (omega arith))
      (lt-leb (length (stored_form (flat_of 4 p) 1 (one_cell vs))) 0 (omega (arith, one_long 4 p vs)));
  narrow_most = λ p vs out e.
      encode_left (flat_of 4 p) (1 ∷ []) (one_cell vs) out (four 0 p (lit≤ tt)) one (one_ok 4 p vs) false (carried_test (ragged 4 p) (values_left (flat_of 4 p) 1 (one_cell vs)))
      (leb (length (stored_form (flat_of 4 p) 1 (one_cell vs))) (length out)) (lt-leb (length vs) most_bytes (omega arith)) refl refl;
  hidden = λ p vs b e.
      encode_left (deep p vs b) (2 ∷ []) (long_hidden vs b) [] (four 1 p (lit≤ tt)) (row 2 (lit≤ tt) (lit≤ tt)) (hidden_ok p vs b) true true false
      (size_test_lem (length (vs ++ (b ∷ []))) (omega (arith, length-append vs (b ∷ [])))) (hidden_carried p vs b)
      (lt-leb (length (stored_form (deep p vs b) 2 (long_hidden vs b))) 0 (hidden_long p vs b));
  older = λ p vs out e.
      older_left 8 p vs (eight p) out (omega arith) false (leb (length (put_interleaved (own 8 p vs))) (length out)) (le-ltb (length vs) (256 ^ 4) (omega arith)) refl;
  older_less = λ p vs e.
      older_left 4 p vs (four 0 p (lit≤ tt)) [] (omega arith) true false (lt-ltb (length vs) (256 ^ 4) (omega arith))
      (lt-leb (length (put_interleaved (own 4 p vs))) 0 (omega (arith, length_interleaved (own 4 p vs))));
}
