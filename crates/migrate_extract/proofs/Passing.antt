-- A walk over the chunks, whatever it does with the cells that are asked for: G says what becomes of the places and values that are left.
-- Assumes nothing.
use mathlib.Core.Path.{◌≡◌, refl, sym, ap, ap₂, ◌∙◌, subst}
use Prim.Native.Nat.{ℕ}
use native.Mathlib.Omega.{arith}
use mathlib.Core.List.{List, [], ◌∷◌, ◌++◌}
use lib.ListN.{length}
use Rattle.std.specs.Prelude.{Option, None, Some}
use Rattle.array.specs.Answer.{gives, and_then}
use Rattle.array.specs.Lists.{joined}
use Rattle.array.specs.Subset.{Subset, pairs, cells_in, cells_of_all}
use Rattle.array.specs.Cells.{Value}
use Rattle.array.proofs.Answers.{went_on, same_given}
use Rattle.subset.specs.Walk.{SubsetAsked}
use Rattle.subset.proofs.Rows.{asked_count, asked_volume}
use Rattle.decode_interleaved.specs.Walk.{given}
use Rattle.migrate.specs.Live.{Stored, read_stored, read_chunks}
use Rattle.migrate.proofs.Cuts.{read_length}
use Rattle.migrate_cells.specs.Place.{place_in}
use Rattle.migrate_extract.specs.Asked.{with_place, with_value, places_asked, values_asked, Each}
use Rattle.migrate_extract.specs.Chunks.{chunk_given}
use Rattle.migrate_extract.proofs.Effects.{each_append}
use Rattle.migrate_extract.proofs.Cut.{as_many_asked}

places_append : (f : ℕ → Option ℕ) (js ks : List ℕ) → places_asked f (js ++ ks) ≡ places_asked f js ++ places_asked f ks
places_append f [] ks = refl
places_append f (j ∷ js) ks = ap (with_place (f j)) (places_append f js ks) ∙ go (f j)
  where
    go : (o : Option ℕ) → with_place o (places_asked f js ++ places_asked f ks) ≡ with_place o (places_asked f js) ++ places_asked f ks
    go None = refl
    go (Some p) = refl

values_append : (f : ℕ → Option ℕ) (js ks : List ℕ) (us vs : List Value) → length js ≡ length us → values_asked f (js ++ ks) (us ++ vs) ≡ values_asked f js us ++ values_asked f ks vs
values_append f [] ks [] vs e = refl
values_append f [] ks (u ∷ us) vs e = absurd (omega arith)
values_append f (j ∷ js) ks [] vs e = absurd (omega arith)
values_append f (j ∷ js) ks (u ∷ us) vs e = ap (with_value (f j) u) (values_append f js ks us vs (omega arith)) ∙ go (f j)
  where
    go : (o : Option ℕ) → with_value o u (values_asked f js us ++ values_asked f ks vs) ≡ with_value o u (values_asked f js us) ++ values_asked f ks vs
    go None = refl
    go (Some p) = refl

-- the chunks of `rest` are left, whose strings are `left`; `as'` are the cells that are asked for
pub record Passing {S A : Type 0} (G : S → List ℕ → List Value → A) (Q : ℕ → Value → Type 0) (as' sh : List ℕ) (rest : List Subset) (left : List Stored) (s : S) (whole : A) : Type 0 where
  pub values : List (List Value)
  pub read : read_chunks rest left ≡ gives values
  pub same : G s (places_asked (place_in as') (cells_of_all sh rest)) (values_asked (place_in as') (cells_of_all sh rest) (joined values)) ≡ whole
  pub holds : Each Q (places_asked (place_in as') (cells_of_all sh rest)) (values_asked (place_in as') (cells_of_all sh rest) (joined values))

pub passing_begins : {S A : Type 0} (G : S → List ℕ → List Value → A) (Q : ℕ → Value → Type 0) (as' sh : List ℕ) (bs : List Subset) (cs : List Stored) (s : S) (vss : List (List Value))
    → read_chunks bs cs ≡ gives vss → Each Q (places_asked (place_in as') (cells_of_all sh bs)) (values_asked (place_in as') (cells_of_all sh bs) (joined vss))
    → Passing G Q as' sh bs cs s (G s (places_asked (place_in as') (cells_of_all sh bs)) (values_asked (place_in as') (cells_of_all sh bs) (joined vss)))
passing_begins G Q as' sh bs cs s vss e q = record { values = vss; read = e; same = refl; holds = q }

module _ {S A : Type 0} {G : S → List ℕ → List Value → A} {Q : ℕ → Value → Type 0} {as' sh : List ℕ} {rest : List Subset} {left : List Stored} {s : S} {whole : A}
    (w : Passing G Q as' sh rest left s whole) where
  abbrev f : ℕ → Option ℕ
  f = place_in as'

  pub passing_ends : rest ≡ [] → G s [] [] ≡ whole
  passing_ends e = sym (ap (λ (r : List Subset). G s (places_asked f (cells_of_all sh r)) (values_asked f (cells_of_all sh r) (joined w.values))) e) ∙ w.same

  module _ {starts lens : List ℕ} {later : List Subset} (e : rest ≡ pairs starts lens ∷ later) {n : ℕ} (a : SubsetAsked sh starts lens n)
      {c : Stored} {others : List Stored} (l : left ≡ c ∷ others) where
    abbrev js : List ℕ
    js = cells_in sh (pairs starts lens)

    abbrev ks : List ℕ
    ks = cells_of_all sh later

    pub opened : (vs : List Value) × ((read_stored c n ≡ gives vs) × ((vss : List (List Value)) × ((read_chunks later others ≡ gives vss) × (vs ∷ vss ≡ w.values))))
    unfolding read_chunks
    opened =
        let q : and_then (read_stored c n) (λ vs. and_then (read_chunks later others) (λ vss. gives (vs ∷ vss))) ≡ gives w.values =
        ap (λ (i : ℕ). and_then (read_stored c i) (λ vs. and_then (read_chunks later others) (λ vss. gives (vs ∷ vss)))) (sym (asked_volume a))
        ∙ sym (ap₂ (λ (r : List Subset) (m : List Stored). read_chunks r m) e l) ∙ w.read in
        let g = went_on (read_stored c n) (λ vs. and_then (read_chunks later others) (λ vss. gives (vs ∷ vss))) q in
        let k = went_on (read_chunks later others) (λ vss. gives (g.0 ∷ vss)) g.1.1 in
        (g.0, (g.1.0, (k.0, (k.1.0, same_given k.1.1))))

    -- the first of the chunks is read
    pub passing_read : read_stored c n ≡ gives (chunk_given c n)
    passing_read = opened.1.0 ∙ ap gives (sym (ap given opened.1.0))

    abbrev us : List Value
    us = chunk_given c n

    us_are : us ≡ opened.0
    us_are = ap given opened.1.0

    long : length js ≡ length us
    long = asked_count a ∙ sym (read_length c n passing_read)

    pub passing_many : length (places_asked f js) ≡ length (values_asked f js us)
    passing_many = as_many_asked as' js us long

    places_are : places_asked f (cells_of_all sh rest) ≡ places_asked f js ++ places_asked f ks
    places_are = ap (λ (r : List Subset). places_asked f (cells_of_all sh r)) e ∙ places_append f js ks

    values_are : values_asked f (cells_of_all sh rest) (joined w.values) ≡ values_asked f js us ++ values_asked f ks (joined opened.1.1.0)
    values_are =
        ap₂ (λ (r : List Subset) (x : List (List Value)). values_asked f (cells_of_all sh r) (joined x)) e (sym opened.1.1.1.1)
        ∙ ap (λ (x : List Value). values_asked f (js ++ ks) (x ++ joined opened.1.1.0)) (sym us_are)
        ∙ values_append f js ks us (joined opened.1.1.0) long

    both : Each Q (places_asked f js) (values_asked f js us) × Each Q (places_asked f ks) (values_asked f ks (joined opened.1.1.0))
    both =
        each_append Q (places_asked f js) (places_asked f ks) (values_asked f js us) (values_asked f ks (joined opened.1.1.0)) passing_many
        (subst (λ (x : List ℕ). Each Q x (values_asked f js us ++ values_asked f ks (joined opened.1.1.0))) places_are
        (subst (λ (x : List Value). Each Q (places_asked f (cells_of_all sh rest)) x) values_are w.holds))

    pub passing_here : Each Q (places_asked f js) (values_asked f js us)
    passing_here = both.0

    -- so much of the whole is this chunk's
    pub passing_whole : G s (places_asked f js ++ places_asked f ks) (values_asked f js us ++ values_asked f ks (joined opened.1.1.0)) ≡ whole
    passing_whole = sym (ap₂ (G s) places_are values_are) ∙ w.same

    pub passing_more : (t : S) → ((ps : List ℕ) (vs : List Value) → G t ps vs ≡ G s (places_asked f js ++ ps) (values_asked f js us ++ vs)) → Passing G Q as' sh later others t whole
    passing_more t g = record {
      values = opened.1.1.0;
      read = opened.1.1.1.0;
      same = g (places_asked f ks) (values_asked f ks (joined opened.1.1.0)) ∙ passing_whole;
      holds = both.1;
    }
