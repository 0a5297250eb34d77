-- What encode answers, one law for each way it ends.
-- Assumes nothing.
use mathlib.Core.Path.{◌≡◌, sym, ap, ap₂, ◌∙◌}
use Prim.Native.Nat.{ℕ, ◌<◌, ◌≤◌}
use native.Mathlib.Omega.{arith}
use mathlib.Core.Bool.{Bool, true, false}
use mathlib.Core.List.{List}
use lib.ListN.{length}
use lib.Dec.{leb}
use borrow.Author.Tests.{le-leb, lt-leb}
use Rattle.std.specs.Prelude.{Result, Ok, Err}
use Rattle.array.specs.declared.refusal.Refusal.{Refusal}
use Rattle.array.specs.Meaning.{number_of, kind_of, told}
use Rattle.array.specs.declared.kind.Kind as declared
use Rattle.array.specs.Answer.{Answer, gives, refuses, unless, Outcome}
use Rattle.array.specs.Buffers.{over, list_outcome, put_list}
use Rattle.valid.specs.Check.{check_of}
use Rattle.array.specs.Kind.{Kind, kind_test}
use Rattle.array.specs.Limits.{most_cells}
use Rattle.valid.specs.ShapeCells.{shape_answer}
use Rattle.array.specs.Content.{Content, unless_kept}
use Rattle.valid.proofs.CheckLaws.{KeepsRules, check_refused, check_passed, check_valid}
use Rattle.array.proofs.Rules.{kind_ok}
use Rattle.valid.proofs.ShapeLaws.{Counted, counted, not_counted}
use Rattle.codec.specs.Carried.{carried_test}
use Rattle.codec.specs.Calls.{stored_form, values_left, encode_answer, encoded}
use Rattle.encode_values.specs.Ready.{Encodable}
use Rattle.encode_values.specs.Stored.{stored_from, length_from}
use Rattle.encode.proofs.Walk.{stored_by}
use Rattle.encode_values.proofs.Levels.{stored_long}
use Rattle.encode_values.proofs.Forms.{encodable_measured}

-- a refusal leaves the output as it was
abbrev pub refused : ℕ → List ℕ → Outcome ℕ (List ℕ)
refused number out = record { answer = refuses number; buffers = out }

-- ---- refusals 1 to 5, and 20

module _ (k : Kind) (shape : List ℕ) (c : Content) (out : List ℕ) where
  pub encode_kind : kind_test k ≡ false → refused 1 out ≡ encoded k shape c out
  unfolding encoded encode_answer
  encode_kind e = rw e

  module _ (p : kind_test k ≡ true) where
    pub encode_shape : {number : ℕ} → refuses number ≡ shape_answer shape → refused number out ≡ encoded k shape c out
    unfolding encoded encode_answer
    encode_shape {number} e = let n = not_counted shape number e in rw (p, n.0, n.1)

    module _ {n : ℕ} (q : gives n ≡ shape_answer shape) (r : Result (Unit {0}) Refusal) (f : told r ≡ check_of k n c) where
      -- the rest, once kind and shape have passed
      whole : ℕ → Answer (List ℕ)
      whole m = unless (carried_test k.form (values_left k m c)) 20 (unless (leb (length (stored_form k m c)) (length out)) 6 (gives (stored_form k m c)))

      pub encode_content : {number : Refusal} → r ≡ Err number → refused (number_of number) out ≡ encoded k shape c out
      unfolding encoded encode_answer whole
      encode_content {number} e =
          let s : Counted shape n = counted shape n q in
          sym
          (rw (p, s.passes) (ap (λ (a : Answer (List ℕ)). list_outcome a out)
          (ap (λ (m : ℕ). unless_kept k m c (whole m)) (sym s.is) ∙ check_refused k n c r f (whole n) number e)))

      pub encode_encodable : r ≡ Ok tt → Encodable k n c
      unfolding most_cells
      encode_encodable e =
          let s : Counted shape n = counted shape n q in
          let h : KeepsRules k n c = check_valid k n c r f e in
          record { kind = kind_ok k p; some = s.some; few = s.few; content = h.array.fits; small = h.small }

      -- what array's rules pass
      past : r ≡ Ok tt → list_outcome (whole n) out ≡ encoded k shape c out
      unfolding encoded encode_answer whole
      past e =
          let s : Counted shape n = counted shape n q in
          sym
          (rw (p, s.passes) (ap (λ (a : Answer (List ℕ)). list_outcome a out)
          (ap (λ (m : ℕ). unless_kept k m c (whole m)) (sym s.is) ∙ check_passed k n c r f e (whole n))))

      pub encode_field : r ≡ Ok tt → false ≡ carried_test k.form (values_left k n c) → refused 20 out ≡ encoded k shape c out
      unfolding whole
      encode_field e t = ap (λ (b : Bool). list_outcome (unless b 20 (unless (leb (length (stored_form k n c)) (length out)) 6 (gives (stored_form k n c)))) out) t ∙ past e

      pub encode_rest : r ≡ Ok tt → true ≡ carried_test k.form (values_left k n c) → put_list (stored_form k n c) out ≡ encoded k shape c out
      unfolding whole
      encode_rest e t = ap (λ (b : Bool). list_outcome (unless b 20 (unless (leb (length (stored_form k n c)) (length out)) 6 (gives (stored_form k n c)))) out) t ∙ past e

-- ---- refusal 6, or the stored form

module _ (k : declared.Kind) {n : ℕ} {c : Content} (h : Encodable (kind_of k) n c) where
  pub stored_is : stored_form (kind_of k) n c ≡ stored_from (kind_of k) n c k.depth
  stored_is = stored_by h.content h.some

  pub stored_need : length (stored_from (kind_of k) n c k.depth) ≡ length_from (kind_of k) n c.masks c.offsets k.depth
  stored_need = stored_long (kind_of k) n c h.content.values_fit k.depth

  pub form_need : length (stored_form (kind_of k) n c) ≡ length_from (kind_of k) n c.masks c.offsets k.depth
  form_need = ap length stored_is ∙ stored_need

pub list_short : (want out : List ℕ) → length out < length want → refused 6 out ≡ put_list want out
list_short want out h = ap (λ (b : Bool). list_outcome (unless b 6 (gives want)) out) (sym (lt-leb (length want) (length out) h))

pub list_written : (want out : List ℕ) {need : ℕ} → need ≤ length out → need ≡ length want → {out' : List ℕ} → out' ≡ over want out
    → ◌≡◌ {A = Outcome ℕ (List ℕ)} (record { answer = gives need; buffers = out' }) (put_list want out)
list_written want out g e eo =
    ap₂ (λ (m : ℕ) (o : List ℕ). record { answer = gives m; buffers = o }) e eo
    ∙ ap (λ (b : Bool). list_outcome (unless b 6 (gives want)) out) (sym (le-leb (length want) (length out) (omega arith)))

pub ruleset written_laws = (encodable_measured, stored_need)

pub ruleset encode_laws = (encode_kind, encode_shape, counted)
