-- What encode_interleaved answers, one law for each way it ends: refusals 1 to 5, then 6 or the cells.
-- Assumes nothing.
use mathlib.Core.Path.{◌≡◌, refl, sym, ap, ap₂, ◌∙◌}
use Prim.Native.Nat.{ℕ, ◌+◌, ◌^◌, ◌<◌, ◌≤◌}
use native.Mathlib.Omega.{arith}
use mathlib.Core.Bool.{Bool, true, false, ◌&&◌}
use mathlib.Core.List.{List, [], ◌∷◌}
use lib.ListN.{length}
use lib.Dec.{leb}
use borrow.Author.Tests.{le-leb, lt-leb, lt-ltb, le-ltb, eq-eqb, ne_eqb}
use Rattle.std.specs.Prelude.{Result, Ok, Err}
use Rattle.array.specs.declared.refusal.Refusal.{Refusal}
use Rattle.array.specs.Answer.{Answer, gives, refuses, unless, Outcome}
use Rattle.array.specs.Limits.{most_bytes, most_cells}
use Rattle.array.specs.Kind.{Kind, kind_test, Form, fixed, ragged}
use Rattle.array.specs.Offsets.{slices}
use Rattle.array.specs.Cells.{Value}
use Rattle.array.specs.Content.{Content, ValuesOk, values_in}
use Rattle.array.specs.Buffers.{over, list_outcome, put_list}
use Rattle.array.specs.Meaning.{number_of, form_of, kind_of, told}
use Rattle.array.specs.declared.kind.Kind as declared
use Rattle.array.specs.declared.kind.Values.{Values}
use Rattle.valid.specs.Check.{check_of}
use Rattle.valid.specs.ShapeCells.{shape_answer}
use Rattle.valid.proofs.CheckLaws.{KeepsRules, check_refused, check_passed, check_valid}
use Rattle.valid.proofs.ShapeLaws.{Counted, counted, not_counted}
use Rattle.codec.specs.Carried.{fields_test}
use Rattle.codec.specs.Interleaved.{put_interleaved, IsRagged, ragged_test, interleaved_test}
use Rattle.codec.specs.Calls.{encode_interleaved_answer, interleaved_encoded}
use Rattle.codec.proofs.Refusals.{interleaved_ok}
use Rattle.encode_interleaved.specs.Held.{Held, put_fitting, encoded_cells}
use Rattle.encode_interleaved.proofs.Storing.{one_need, one_copied, one_empty}

-- ---- is_interleaved

module _ (k : declared.Kind) where
  pub kind_wrong : kind_test (kind_of k) ≡ false → false ≡ interleaved_test (kind_of k)
  kind_wrong e = rw e

  module _ (p : kind_test (kind_of k) ≡ true) where
    pub kind_deep : 0 < k.depth → false ≡ interleaved_test (kind_of k)
    kind_deep h = rw (p, ne_eqb k.depth 0 (λ e. omega arith))

    pub kind_flat : k.depth ≤ 0 → {f : Values} → k.values ≡ f → ragged_test (form_of f) ≡ interleaved_test (kind_of k)
    kind_flat h e = rw (p, eq-eqb k.depth 0 (omega arith), e)

-- ---- refusals 1 to 5

-- a refusal leaves the output as it was
abbrev pub refused_list : ℕ → List ℕ → Outcome ℕ (List ℕ)
refused_list number out = record { answer = refuses number; buffers = out }

-- the values of a ragged form
ragged_values : (f : Form) → IsRagged f → (n : ℕ) (c : Content) → slices c.offsets c.values ≡ values_in f n c
ragged_values (fixed k o) r n c = absurd r
ragged_values (ragged w p) r n c = refl

ragged_held : (f : Form) → IsRagged f → (n : ℕ) (c : Content) → ValuesOk f n c → n ≤ most_cells → length c.values ≤ most_bytes → Held n c.values c.offsets
ragged_held (fixed k o) r n c v h b = absurd r
ragged_held (ragged w p) r n c v h b = record { few = h; small = b; counted = v.0; rising = v.1; ended = v.2 }

module _ (k : Kind) (shape : List ℕ) (c : Content) (out : List ℕ) where
  pub write_kind : interleaved_test k ≡ false → refused_list 1 out ≡ interleaved_encoded k shape c out
  unfolding interleaved_encoded encode_interleaved_answer
  write_kind e = rw e

  module _ (p : interleaved_test k ≡ true) where
    pub write_shape : {number : ℕ} → refuses number ≡ shape_answer shape → refused_list number out ≡ interleaved_encoded k shape c out
    unfolding interleaved_encoded encode_interleaved_answer
    write_shape {number} e = let n = not_counted shape number e in rw (p, n.0, n.1)

    -- the rest, once kind and shape have passed
    pub write_past : {n : ℕ} → gives n ≡ shape_answer shape → encoded_cells k n c out ≡ interleaved_encoded k shape c out
    unfolding interleaved_encoded encode_interleaved_answer
    write_past {n} q =
        let s : Counted shape n = counted shape n q in
        sym (rw (p, s.passes) (ap (λ (m : ℕ). encoded_cells k m c out) (sym s.is)))

-- what is left of the call once the array's rules have passed
abbrev rest : List ℕ → List Value → Answer (List ℕ)
rest out vs = unless (fields_test vs) 20 (unless (leb (length (put_interleaved vs)) (length out)) 6 (gives (put_interleaved vs)))

module _ (k : Kind) (n : ℕ) (c : Content) (out : List ℕ) {r : Result (Unit {0}) Refusal} (f : told r ≡ check_of k n c) where
  pub write_content : {number : Refusal} → r ≡ Err number → refused_list (number_of number) out ≡ encoded_cells k n c out
  write_content {number} e =
      sym (ap (λ (a : Answer (List ℕ)). list_outcome a out) (check_refused k n c r f (rest out (values_in k.form n c)) number e))

  module _ (p : interleaved_test k ≡ true) (e : r ≡ Ok tt) where
    pub write_held : n ≤ most_cells → Held n c.values c.offsets
    write_held few =
        let h : KeepsRules k n c = check_valid k n c r f e in
        ragged_held k.form (interleaved_ok k p).is_ragged n c h.array.fits.values_fit few h.small

    pub write_rest : put_fitting (slices c.offsets c.values) out ≡ encoded_cells k n c out
    write_rest =
        ap (λ (vs : List Value). put_fitting vs out) (ragged_values k.form (interleaved_ok k p).is_ragged n c)
        ∙ sym (ap (λ (a : Answer (List ℕ)). list_outcome a out) (check_passed k n c r f e (rest out (values_in k.form n c))))

-- ---- refusals 20 and 6, or the cells

module _ (vs : List Value) (out : List ℕ) where
  abbrev want : List ℕ
  want = put_interleaved vs

  pub cells_long : false ≡ fields_test vs → refused_list 20 out ≡ put_fitting vs out
  cells_long t = ap (λ (b : Bool). list_outcome (unless b 20 (unless (leb (length want) (length out)) 6 (gives want))) out) t

  -- where each fits its field
  cells_fit : true ≡ fields_test vs → put_list want out ≡ put_fitting vs out
  cells_fit t = ap (λ (b : Bool). list_outcome (unless b 20 (unless (leb (length want) (length out)) 6 (gives want))) out) t

  pub cells_short : true ≡ fields_test vs → length out < length want → refused_list 6 out ≡ put_fitting vs out
  cells_short t h = ap (λ (b : Bool). list_outcome (unless b 6 (gives want)) out) (sym (lt-leb (length want) (length out) h)) ∙ cells_fit t

  pub cells_written : true ≡ fields_test vs → {need : ℕ} → need ≤ length out → need ≡ length want → {out' : List ℕ} → out' ≡ over want out
      → ◌≡◌ {A = Outcome ℕ (List ℕ)} (record { answer = gives need; buffers = out' }) (put_fitting vs out)
  cells_written t g e eo =
      ap₂ (λ (m : ℕ) (o : List ℕ). record { answer = gives m; buffers = o }) e eo
      ∙ ap (λ (b : Bool). list_outcome (unless b 6 (gives want)) out) (sym (le-leb (length want) (length out) (omega arith)))
      ∙ cells_fit t

-- one cell
module _ (v : Value) (out : List ℕ) where
  one_fits : length v ≤ 4294967295 → true ≡ fields_test (v ∷ [])
  one_fits h = ap (λ (b : Bool). b && true) (sym (lt-ltb (length v) (256 ^ 4) (omega arith)))

  pub one_long : 4294967295 < length v → refused_list 20 out ≡ put_fitting (v ∷ []) out
  one_long h = cells_long (v ∷ []) out (ap (λ (b : Bool). b && true) (sym (le-ltb (length v) (256 ^ 4) (omega arith))))

  pub one_short : length v ≤ 4294967295 → length out < 8 + length v → refused_list 6 out ≡ put_fitting (v ∷ []) out
  one_short h l = cells_short (v ∷ []) out (one_fits h) (omega (arith, one_need v))

  pub one_written : length v ≤ 4294967295 → 8 + length v ≤ length out → {out' : List ℕ} → out' ≡ over (put_interleaved (v ∷ [])) out
      → ◌≡◌ {A = Outcome ℕ (List ℕ)} (record { answer = gives (8 + length v); buffers = out' }) (put_fitting (v ∷ []) out)
  one_written h g e = cells_written (v ∷ []) out (one_fits h) g (sym (one_need v)) e

pub ruleset one_laws = (one_need, one_copied, one_empty, one_long, one_short, one_written)

pub ruleset call_laws = (write_kind, write_shape, counted)
