-- A walk over the cells of a chunk, whatever it does with those that are asked for: G says what becomes of the places and values that are left.
-- Assumes nothing.
use mathlib.Core.Path.{◌≡◌, refl, sym, ap, ap₂, ◌∙◌, subst}
use Prim.Native.Nat.{ℕ, ◌+◌, ◌<◌, ◌≤◌}
use native.Mathlib.Numerals.{add-one}
use native.Mathlib.Omega.{arith}
use mathlib.Core.List.{List, [], ◌∷◌}
use lib.ListN.{length, get_or, take, drop, length-drop, drop_of_length-le}
use lib.Seq.{drop-cons, length-take-le}
use Rattle.std.specs.Prelude.{Option, None, Some}
use Rattle.array.specs.Answer.{gives}
use Rattle.array.specs.Kind.{at_start}
use Rattle.array.specs.Limits.{most_cells, most_bytes}
use Rattle.array.specs.Offsets.{slices}
use Rattle.array.proofs.Answers.{went_on, same_given}
use Rattle.array.proofs.Offsets.{joined-slices_all}
use Rattle.codec.specs.Ragged.{get_ragged}
use Rattle.codec.specs.Values.{get_values}
use Rattle.codec.proofs.Older.{older_read}
use Rattle.codec.proofs.Accepted.{ragged_ok}
use Rattle.decode_interleaved.specs.Walk.{total_of}
use Rattle.array.specs.Cells.{Value}
use Rattle.migrate.specs.Live.{Stored, older, newer, read_stored}
use Rattle.migrate_cells.specs.Reading.{bytes_of, begins_at, CellsLeft, MoreCells, NextCell}
use Rattle.migrate_cells.proofs.Reading.{cells_begin}
use Rattle.migrate_extract.specs.Asked.{with_place, with_value, places_asked, values_asked, Each}

-- a value that was found is as long as its size says
pub cell_long : {c : Stored} {n i begin size : ℕ} {vs : List Value} → NextCell c n i begin size vs → length (take size (drop begin (bytes_of c))) ≡ size
cell_long {c} {begin = begin} {size} q = length-take-le size (drop begin (bytes_of c)) (omega (arith, length-drop begin (bytes_of c), q.fits))

-- a reader gives few bytes
pub read_small : (c : Stored) (n : ℕ) {vs : List Value} → read_stored c n ≡ gives vs → total_of vs ≤ most_bytes
unfolding read_stored get_values
read_small (older s) n e = (older_read n s e).small
read_small (newer s) n e =
    let g = went_on (get_ragged 8 at_start s n) (λ x. gives (slices x.offsets x.values)) e in
    let ok = ragged_ok 8 at_start s n g.0 g.1.0 in
    omega (arith, ap (λ (us : List Value). total_of us) (same_given g.1.1), ap length (joined-slices_all n g.0.offsets g.0.values ok.0 ok.1 ok.2), ok.3)

-- the cells from i on are left, of n that have the numbers js
pub record Walking {S A : Type 0} (G : S → List ℕ → List Value → A) (Q : ℕ → Value → Type 0) (f : ℕ → Option ℕ) (c : Stored) (n : ℕ) (js : List ℕ) (i at : ℕ) (s : S) (whole : A) : Type 0 where
  pub values : List Value
  pub left : CellsLeft c n i at values
  pub same : G s (places_asked f (drop i js)) (values_asked f (drop i js) values) ≡ whole
  pub holds : Each Q (places_asked f (drop i js)) (values_asked f (drop i js) values)

pub walking_begins : {S A : Type 0} (G : S → List ℕ → List Value → A) (Q : ℕ → Value → Type 0) (f : ℕ → Option ℕ) (c : Stored) (n : ℕ) (js : List ℕ) (s : S) {vs : List Value} {at : ℕ}
    → n ≤ most_cells → read_stored c n ≡ gives vs → at ≡ begins_at c n → Each Q (places_asked f js) (values_asked f js vs)
    → Walking G Q f c n js 0 at s (G s (places_asked f js) (values_asked f js vs))
walking_begins G Q f c n js s {vs} {at} h e b q = record { values = vs; left = subst (λ (k : ℕ). CellsLeft c n 0 k vs) (sym b) (cells_begin c n vs h e); same = refl; holds = q }

module _ {S A : Type 0} {G : S → List ℕ → List Value → A} {Q : ℕ → Value → Type 0} {f : ℕ → Option ℕ} {c : Stored} {n : ℕ} {js : List ℕ} {i at : ℕ} {s : S} {whole : A}
    (w : Walking G Q f c n js i at s whole) (counted : length js ≡ n) where
  pub walking_ends : n ≤ i → G s [] [] ≡ whole
  walking_ends h =
      let none : drop i js ≡ [] = drop_of_length-le js (omega arith) in
      sym (ap (λ (ks : List ℕ). G s (places_asked f ks) (values_asked f ks w.values)) none) ∙ w.same

  module _ (h : i < n) where
    pub walking_left : MoreCells c i at
    walking_left = record { count = n; values = w.values; more = h; left = w.left }

    module _ {begin size : ℕ} (q : NextCell c n i begin size w.values) where
      abbrev v : Value
      v = take size (drop begin (bytes_of c))

      abbrev j : ℕ
      j = get_or js i 0

      next : drop i js ≡ j ∷ drop (i + 1) js
      next = drop-cons js i 0 (omega arith) ∙ ap (λ (k : ℕ). j ∷ drop k js) (sym (add-one i))

      -- the places and values that are left, from what is said of this cell
      places_are : {o : Option ℕ} → f j ≡ o → places_asked f (drop i js) ≡ with_place o (places_asked f (drop (i + 1) js))
      places_are e = ap (places_asked f) next ∙ ap (λ (o : Option ℕ). with_place o (places_asked f (drop (i + 1) js))) e

      values_are : {o : Option ℕ} → f j ≡ o → values_asked f (drop i js) w.values ≡ with_value o v (values_asked f (drop (i + 1) js) q.others)
      values_are e =
          ap₂ (λ (ks : List ℕ) (vs : List Value). values_asked f ks vs) next q.is
          ∙ ap (λ (o : Option ℕ). with_value o v (values_asked f (drop (i + 1) js) q.others)) e

      holds_are : {o : Option ℕ} → f j ≡ o → Each Q (with_place o (places_asked f (drop (i + 1) js))) (with_value o v (values_asked f (drop (i + 1) js) q.others))
      holds_are {o} e =
          subst (λ (x : List ℕ). Each Q x (with_value o v (values_asked f (drop (i + 1) js) q.others))) (places_are e)
          (subst (λ (x : List Value). Each Q (places_asked f (drop i js)) x) (values_are e) w.holds)

      -- it is not asked for
      pub walking_none : f j ≡ None → Walking G Q f c n js (i + 1) (begin + size) s whole
      walking_none e = record {
        values = q.others;
        left = q.left;
        same = sym (ap₂ (G s) (places_are e) (values_are e)) ∙ w.same;
        holds = holds_are e;
      }

      -- it is, and has this place
      module _ (p : ℕ) (e : f j ≡ Some p) where
        pub walking_here : Q p v
        walking_here = (holds_are e).0

        pub walking_whole : G s (p ∷ places_asked f (drop (i + 1) js)) (v ∷ values_asked f (drop (i + 1) js) q.others) ≡ whole
        walking_whole = sym (ap₂ (G s) (places_are e) (values_are e)) ∙ w.same

        pub walking_some : (t : S) → ((ps : List ℕ) (vs : List Value) → G t ps vs ≡ G s (p ∷ ps) (v ∷ vs)) → Walking G Q f c n js (i + 1) (begin + size) t whole
        walking_some t g = record {
          values = q.others;
          left = q.left;
          same = g (places_asked f (drop (i + 1) js)) (values_asked f (drop (i + 1) js) q.others) ∙ sym (ap₂ (G s) (places_are e) (values_are e)) ∙ w.same;
          holds = (holds_are e).1;
        }
