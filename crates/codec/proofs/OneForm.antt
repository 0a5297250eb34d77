-- What decode accepts is what encode writes (specs/OneForm).
-- Assumes nothing.
use mathlib.Core.Path.{◌≡◌, refl, sym, ap, ◌∙◌, subst}
use Prim.Native.Nat.{ℕ, ◌≤◌}
use native.Mathlib.Nat.{mul-le-mul}
use native.Mathlib.Omega.{arith}
use mathlib.Core.Bool.{Bool, true, false}
use mathlib.Core.List.{List, ◌++◌}
use lib.ListN.{length, drop, length-append, length-map}
use Rattle.array.specs.Answer.{Answer, gives, refuses, and_then, unless, map_answer}
use Rattle.array.specs.Limits.{most_bytes, most_cells}
use Rattle.array.specs.Lists.{joined}
use Rattle.array.specs.Bytes.{AllBytes}
use Rattle.array.specs.Kind.{Kind, KindOk, Form, fixed, ragged, FormOk, null_of, kind_test}
use Rattle.array.specs.Shape.{volume, ShapeOk, shape_test}
use Rattle.array.specs.Cells.{Value, Cell, leaf}
use Rattle.array.specs.Content.{Content, leaves, layout}
use Rattle.array.specs.declared.answer.Lengths.{Lengths}
use Rattle.array.specs.Buffers.{lengths_of, enough_test, list_outcome, Taken, taken_bytes, whole}
use Rattle.array.proofs.Answers.{pass, passed, went_on, same_given}
use Rattle.array.proofs.Lists.{length-joined}
use Rattle.array.proofs.Rules.{kind_ok, shape_ok}
use Rattle.array.proofs.LayoutLaws.{cells_layout, Good}
use Rattle.array.proofs.Resting.{laid_valid}
use Rattle.array.proofs.Taken.{taken_content, taken_bytes_lem}
use Rattle.codec.specs.Mask.{mask_form}
use Rattle.codec.specs.Frame.{frame, read_frame, live}
use Rattle.codec.specs.Carried.{Carried}
use Rattle.codec.specs.Values.{put_values, get_values}
use Rattle.codec.specs.Calls.{stored_form, values_left, encode_answer, encoded, read_in, decode_answer, decoded}
use Rattle.codec.specs.OneForm.{Reads, read_then_written, WrittenAgain, OneForm}
use Rattle.codec.proofs.Carried.{below_carried}
use Rattle.codec.proofs.Lengths.{bytes_live}
use Rattle.codec.proofs.RoundTrip.{stored_layout}
use Rattle.codec.proofs.Returns.{encode_gives}
use Rattle.codec.proofs.ValuesAgain.{Fit}
use Rattle.codec.proofs.FramesAgain.{CellsAgain, frame_again}

-- few value bytes, also in a fixed form
few_bytes : (f : Form) → FormOk f → (vs : List Value) → length vs ≤ most_cells → Fit f vs → length (joined vs) ≤ most_bytes
unfolding most_cells most_bytes
few_bytes (fixed k o) ok vs h p = omega (arith, length-joined k vs p.0, mul-le-mul h ok.1)
few_bytes (ragged w q) ok vs h p = p.1.0

-- what was read can be written
fit_carried : (f : Form) (vs us : List Value) → Fit f vs → length (joined us) ≤ length (joined vs) → Carried f us
fit_carried (fixed k o) vs us p h = tt
fit_carried (ragged w q) vs us p h = below_carried (ragged w q) us (length (joined vs)) p.1.1 h

module _ (k : Kind) (shape s : List ℕ) where
  -- what decode has passed that gives A
  record Passed (A : Content) : Type 0 where
    pub kind : kind_test k ≡ true
    pub shaped : shape_test shape ≡ true
    pub reads : read_in (mask_form k.masks) k.form k.depth (volume shape) s ≡ gives A

  decode_passed : (room : Lengths) {A : Content} → decode_answer k shape s room ≡ gives A → Passed A
  unfolding decode_answer
  decode_passed room {A} e =
      let reading : Answer Content = read_in (mask_form k.masks) k.form k.depth (volume shape) s in
      let after : Content → Answer Content = λ c. unless (enough_test c room) 6 (gives c) in
      let e1 = passed (kind_test k) 1 (unless (shape_test shape) 2 (and_then reading after)) e in
      let e2 = passed (shape_test shape) 2 (and_then reading after) e1.1 in
      let e3 = went_on reading after e2.1 in
      let same : e3.0 ≡ A = same_given (passed (enough_test e3.0 room) 6 (gives e3.0) e3.1.1).1 in
      record { kind = e1.0; shaped = e2.0; reads = e3.1.0 ∙ ap gives same }

  passed_decode : {A : Content} → Passed A → (room : Lengths) → decode_answer k shape s room ≡ unless (enough_test A room) 6 (gives A)
  unfolding decode_answer
  passed_decode p room = pass 1 p.kind (pass 2 p.shaped (rw p.reads))

  -- it is valid, and its stored form is s
  encode_again : AllBytes s → {A : Content} → Passed A → (room : ℕ) → length s ≤ room → encode_answer k shape A room ≡ gives s
  unfolding read_in
  encode_again b p room h =
      let n : ℕ = volume shape in
      let f : Form = k.form in
      let d : ℕ = k.depth in
      let ok : KindOk k = kind_ok k p.kind in
      let sh : ShapeOk shape = shape_ok shape p.shaped in
      let r = went_on (read_frame (mask_form k.masks) (null_of f) (get_values f) d s n) (λ cs. gives (layout f d cs)) p.reads in
      let cs : List (Cell d) = r.0 in
      let a : CellsAgain k.masks f d (frame (mask_form k.masks) (put_values f) d) n s cs = frame_again k.masks f d n s b r.1.0 in
      let few : length (leaves d cs) ≤ most_cells = omega (arith, length-map cs (leaf d), a.counted, sh.few_cells) in
      let g : Good k n cs = record { counted = a.counted; sized = a.fit.0; small = few_bytes f ok.sound (leaves d cs) few a.fit; strict = a.strict } in
      let is : stored_form k n (layout f d cs) ≡ s = stored_layout k n cs g ∙ a.written in
      let carried : Carried f (values_left k n (layout f d cs)) =
      subst (λ (xs : List (Cell d)). Carried f (live d xs)) (sym (cells_layout k n cs g.counted g.sized)) (fit_carried f (leaves d cs) (live d cs) a.fit (bytes_live d cs)) in
      subst (λ (c : Content). encode_answer k shape c room ≡ gives s) (same_given r.1.1)
      (encode_gives k shape (layout f d cs) (laid_valid ok sh g) carried room (subst (λ (t : List ℕ). length t ≤ room) (sym is) h) ∙ ap gives is)

pub written_again : WrittenAgain
unfolding encoded decoded
written_again k shape s back q out h = go (decode_answer k shape s (lengths_of back)) refl
  where
    go : (a : Answer Content) → decode_answer k shape s (lengths_of back) ≡ a
        → read_then_written k shape s back out ≡ gives (record { answer = gives (length s); buffers = s ++ drop (length s) out })
    go (refuses r) e = absurd (q.long_enough (ap (map_answer lengths_of) e ∙ ap refuses (q.accepted back r (ap (map_answer lengths_of) e))))
    go (gives A) e =
        ap (map_answer (λ (a : Taken). encoded k shape a.content out))
        (taken_content (decode_answer k shape s (lengths_of back)) back ∙ ap (λ (a : Answer Content). and_then a (λ c. gives (whole c))) e)
        ∙ ap (λ (a : Answer (List ℕ)). gives (list_outcome a out))
        (encode_again k shape s q.bytes (decode_passed k shape s (lengths_of back) e) (length out) h)

pub one_form : OneForm
one_form k shape s t back back' p q e =
    let out : List ℕ = s ++ t in
    let same : list_outcome (gives s) out ≡ list_outcome (gives t) out =
    same_given (sym (written_again k shape s back p out (omega (arith, length-append s t)))
    ∙ ap (map_answer (λ (a : Taken). encoded k shape a.content out)) e ∙ written_again k shape t back' q out (omega (arith, length-append s t))) in
    same_given (sym (taken_bytes_lem (gives s) out) ∙ ap taken_bytes same ∙ taken_bytes_lem (gives t) out)

-- what decode reads into some outputs is accepted
pub success_reads : (k : Kind) (shape s : List ℕ) (back : Content) {n : Lengths} → AllBytes s → (decoded k shape s back).answer ≡ gives n → Reads k shape s back
unfolding decoded
success_reads k shape s back b e =
    let given = went_on (decode_answer k shape s (lengths_of back)) (λ c. gives (lengths_of c)) e in
    let p : Passed k shape s given.0 = decode_passed k shape s (lengths_of back) given.1.0 in
    record {
      bytes = b;
      accepted = λ any r q. only_six given.0 (enough_test given.0 (lengths_of any)) (sym (ap (map_answer lengths_of) (passed_decode k shape s p (lengths_of any))) ∙ q);
      long_enough = λ q. let never : ◌≡◌ {A = ℕ} 0 1 = cc in omega arith;
    }
  where
    only_six : (A : Content) (t : Bool) {r : ℕ} → map_answer lengths_of (unless t 6 (gives A)) ≡ refuses r → r ≡ 6
    only_six A true q = absurd (let never : ◌≡◌ {A = ℕ} 0 1 = cc in omega arith)
    only_six A false q = cc
