-- What becomes of the places and values that are left: counted, their lengths stored, their bytes stored. One cell more, and many.
-- Assumes nothing.
use mathlib.Core.Path.{◌≡◌, refl, sym, ap, ap₂, ◌∙◌, subst}
use mathlib.Core.Bool.{true}
use Prim.Native.Nat.{ℕ, ◌+◌, ◌*◌, ◌<◌, ◌≤◌}
use native.Mathlib.Nat.{mul-one}
use native.Mathlib.Omega.{arith}
use mathlib.Core.List.{List, [], ◌∷◌, ◌++◌, map}
use lib.ListN.{length, get_or, set, length-append, length-map}
use lib.Seq.{take_all}
use borrow.Author.Tests.{le-leb, lt-leb}
use Rattle.std.specs.Prelude.{Option, None, Some}
use Rattle.array.specs.Answer.{gives, refuses}
use Rattle.array.specs.Limits.{most_bytes}
use Rattle.array.specs.Lists.{from, joined, All}
use Rattle.array.specs.Subset.{pairs, SubsetOk, cells_in}
use Rattle.array.specs.Buffers.{over_at}
use Rattle.array.specs.Cells.{Value}
use Rattle.array.specs.Places.{fixed_at, offset_at, step_at}
use Rattle.array.proofs.Lists.{length_from_lem, joined-append, map-append}
use Rattle.array.proofs.Places.{fixed_step, fixed_total}
use Rattle.array.proofs.Over.{paste_over}
use Rattle.decode_interleaved.specs.Walk.{total_of}
use Rattle.subset.specs.Cells.{cells_of}
use Rattle.subset.specs.declared.walk.Subset.{Subset}
use Rattle.subset.proofs.Rows.{asked_count}
use Rattle.migrate_cells.specs.Place.{place_in, apart_test}
use Rattle.migrate_cells.proofs.Places.{place_there}
use Rattle.migrate_cells.proofs.Meeting.{apart_none}
use Rattle.migrate.specs.Live.{Stored}
use Rattle.merge_stores.specs.Scatter.{scatter, places}
use Rattle.merge_stores.proofs.Scattering.{scatter_then, scatter_run, places-append, length-places}
use Rattle.migrate_extract.specs.Asked.{with_place, with_value, places_asked, values_asked, Each}
use Rattle.migrate_extract.specs.Chunks.{place_for, chunk_given, chunk_places, chunk_asked, Placed, few_or_refused}

-- nothing is asked of places and values
abbrev pub Any : ℕ → Value → Type 0
Any p v = Unit {0}

pub each_any : (ps : List ℕ) (vs : List Value) → Each Any ps vs
each_any [] vs = tt
each_any (p ∷ ps) [] = tt
each_any (p ∷ ps) (v ∷ vs) = (tt, each_any ps vs)

-- ---- bytes that are counted

abbrev pub count_left : ℕ → List ℕ → List Value → ℕ
count_left s ps vs = s + total_of vs

pub count_one : (s size : ℕ) (v : Value) → length v ≡ size → (p : ℕ) (ps : List ℕ) (vs : List Value) → count_left (s + size) ps vs ≡ count_left s (p ∷ ps) (v ∷ vs)
count_one s size v e p ps vs = omega (arith, e, length-append v (joined vs))

pub count_fits : (s size : ℕ) (v : Value) (vs : List Value) {whole : ℕ} → length v ≡ size → s + total_of (v ∷ vs) ≡ whole → s + size ≤ whole
count_fits s size v vs e w = omega (arith, e, w, length-append v (joined vs))

-- few enough, or 5
pub few_enough : (total : ℕ) → total ≤ most_bytes → gives total ≡ few_or_refused total
few_enough total h = rw (le-leb total most_bytes h)

pub too_many : (total : ℕ) → most_bytes < total → refuses 5 ≡ few_or_refused total
too_many total h = rw (lt-leb total most_bytes h)

-- a place that is found is one of the cut
pub place_small : (asked part : Subset) (i p : ℕ) → Some p ≡ place_in (cells_of asked) (get_or (cells_of part) i 0) → p < asked.count
place_small asked part i p e = omega (arith, (place_there (cells_of asked) (get_or (cells_of part) i 0) p (sym e)).0, asked_count asked.asked)

-- ---- lengths that are stored

abbrev pub lengths_left : List ℕ → List ℕ → List Value → List ℕ
lengths_left out ps vs = scatter out (places (fixed_at 1 1) ps) (map length vs)

pub lengths_one : (out : List ℕ) (size : ℕ) (v : Value) → length v ≡ size → (p : ℕ) (ps : List ℕ) (vs : List Value)
    → lengths_left (set out (1 + p) size) ps vs ≡ lengths_left out (p ∷ ps) (v ∷ vs)
lengths_one out size v e p ps vs =
    let one : 1 + p * 1 ≡ 1 + p = omega (arith, mul-one p) in
    ap₂ (λ (k m : ℕ). scatter (set out k m) (places (fixed_at 1 1) ps) (map length vs)) (sym one) (sym e)
    ∙ ap (λ (k : ℕ). scatter out (from (fixed_at 1 1 p) k ++ places (fixed_at 1 1) ps) (length v ∷ map length vs)) (sym (fixed_step 1 1 p))

-- ---- bytes that are stored

abbrev pub bytes_left : List ℕ → List ℕ → List ℕ → List Value → List ℕ
bytes_left begins out ps vs = scatter out (places (offset_at begins) ps) (joined vs)

pub bytes_one : (begins out : List ℕ) (v : Value) {p : ℕ} → Placed begins (length out) p v → {out' : List ℕ} → out' ≡ over_at (offset_at begins p) v out → (ps : List ℕ) (vs : List Value)
    → bytes_left begins out' ps vs ≡ bytes_left begins out (p ∷ ps) (v ∷ vs)
bytes_one begins out v {p} q {out'} e ps vs =
    let a : ℕ = offset_at begins p in
    let n : ℕ = step_at (offset_at begins) p in
    ap (λ (o : List ℕ). scatter o (places (offset_at begins) ps) (joined vs))
    (e ∙ sym (scatter_run n out a v (omega (arith, q.long, q.room)) (omega (arith, q.long)) ∙ paste_over out a v n (omega (arith, q.room)) (omega (arith, q.long))
    ∙ ap (λ (w : List ℕ). over_at a w out) (take_all n v (omega (arith, q.long)))))
    ∙ sym (scatter_then out (from a n) (places (offset_at begins) ps) v (joined vs) (length_from_lem a n ∙ q.long))

-- ---- those that are asked for are no more than all

pub asked_total : (f : ℕ → Option ℕ) (js : List ℕ) (vs : List Value) → total_of (values_asked f js vs) ≤ total_of vs
asked_total f [] vs = omega arith
asked_total f (j ∷ js) [] = omega arith
asked_total f (j ∷ js) (v ∷ vs) = go (f j) (asked_total f js vs)
  where
    go : (o : Option ℕ) → total_of (values_asked f js vs) ≤ total_of vs → total_of (with_value o v (values_asked f js vs)) ≤ total_of (v ∷ vs)
    go None ih = omega (arith, length-append v (joined vs))
    go (Some p) ih = omega (arith, length-append v (joined vs), length-append v (joined (values_asked f js vs)))

-- ---- many cells at once

pub count_many : (s : ℕ) (qs : List ℕ) (us : List Value) (ps : List ℕ) (vs : List Value) → count_left (s + total_of us) ps vs ≡ count_left s (qs ++ ps) (us ++ vs)
count_many s qs us ps vs = omega (arith, ap length (joined-append us vs), length-append (joined us) (joined vs))

pub lengths_many : (out qs : List ℕ) (us : List Value) → length qs ≡ length us → (ps : List ℕ) (vs : List Value)
    → lengths_left (lengths_left out qs us) ps vs ≡ lengths_left out (qs ++ ps) (us ++ vs)
lengths_many out qs us e ps vs =
    let off : ℕ → ℕ = fixed_at 1 1 in
    sym (ap₂ (λ (x : List ℕ) (y : List ℕ). scatter out x y) (places-append off qs ps) (map-append length us vs)
    ∙ scatter_then out (places off qs) (places off ps) (map length us) (map length vs)
    (length-places off qs ∙ fixed_total 1 1 qs ∙ mul-one (length qs) ∙ e ∙ sym (length-map us length)))

-- as many places as bytes
placed_long : (begins : List ℕ) (r : ℕ) (ps : List ℕ) (vs : List Value) → length ps ≡ length vs → Each (Placed begins r) ps vs → length (places (offset_at begins) ps) ≡ length (joined vs)
placed_long begins r [] [] e q = refl
placed_long begins r [] (v ∷ vs) e q = absurd (omega arith)
placed_long begins r (p ∷ ps) [] e q = absurd (omega arith)
placed_long begins r (p ∷ ps) (v ∷ vs) e q =
    omega (
      arith,
      length-append (from (offset_at begins p) (step_at (offset_at begins) p)) (places (offset_at begins) ps),
      length_from_lem (offset_at begins p) (step_at (offset_at begins) p),
      length-append v (joined vs),
      q.0.long,
      placed_long begins r ps vs (omega arith) q.1,
    )

pub bytes_many : (begins : List ℕ) (r : ℕ) (out qs : List ℕ) (us : List Value) → length qs ≡ length us → Each (Placed begins r) qs us → (ps : List ℕ) (vs : List Value)
    → bytes_left begins (bytes_left begins out qs us) ps vs ≡ bytes_left begins out (qs ++ ps) (us ++ vs)
bytes_many begins r out qs us e q ps vs =
    let off : ℕ → ℕ = offset_at begins in
    sym (ap₂ (λ (x : List ℕ) (y : List ℕ). scatter out x y) (places-append off qs ps) (joined-append us vs)
    ∙ scatter_then out (places off qs) (places off ps) (joined us) (joined vs) (placed_long begins r qs us e q))

pub each_append : (Q : ℕ → Value → Type 0) (qs ps : List ℕ) (us vs : List Value) → length qs ≡ length us → Each Q (qs ++ ps) (us ++ vs) → Each Q qs us × Each Q ps vs
each_append Q [] ps [] vs e q = (tt, q)
each_append Q [] ps (u ∷ us) vs e q = absurd (omega arith)
each_append Q (p ∷ qs) ps [] vs e q = absurd (omega arith)
each_append Q (p ∷ qs) ps (u ∷ us) vs e q = let r = each_append Q qs ps us vs (omega arith) q.1 in ((q.0, r.0), r.1)

-- ---- a chunk that holds no cell that is asked for

places_none : (f : ℕ → Option ℕ) (js : List ℕ) → All (λ j. f j ≡ None) js → places_asked f js ≡ []
places_none f [] q = refl
places_none f (j ∷ js) q = ap (λ (o : Option ℕ). with_place o (places_asked f js)) q.0 ∙ places_none f js q.1

values_none : (f : ℕ → Option ℕ) (js : List ℕ) (vs : List Value) → All (λ j. f j ≡ None) js → values_asked f js vs ≡ []
values_none f [] vs q = refl
values_none f (j ∷ js) [] q = refl
values_none f (j ∷ js) (v ∷ vs) q = ap (λ (o : Option ℕ). with_value o v (values_asked f js vs)) q.0 ∙ values_none f js vs q.1

module _ (asked part : Subset) (e : asked.shape.now ≡ part.shape.now) (t : true ≡ apart_test (pairs asked.starts.now asked.lens.now) (pairs part.starts.now part.lens.now)) where
  none_asked : All (λ j. place_for asked j ≡ None) (cells_of part)
  none_asked =
      subst (λ (sh : List ℕ). All (λ j. place_in (cells_in sh (pairs asked.starts.now asked.lens.now)) j ≡ None) (cells_of part)) (sym e)
      (apart_none part.shape.now (pairs asked.starts.now asked.lens.now) (pairs part.starts.now part.lens.now)
      (subst (λ (sh : List ℕ). SubsetOk sh (pairs asked.starts.now asked.lens.now)) e asked.asked.within.inside) part.asked.within.inside (sym t))

  pub apart_places : chunk_places asked part ≡ []
  apart_places = places_none (place_for asked) (cells_of part) none_asked

  pub apart_asked : (c : Stored) → chunk_asked asked part c ≡ []
  apart_asked c = values_none (place_for asked) (cells_of part) (chunk_given c part.count) none_asked
