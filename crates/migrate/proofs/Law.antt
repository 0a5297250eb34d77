-- Cuts give the cells of their subsets; steps change no cut, and as many are needed as there are old chunks (specs/Law).
-- Assumes nothing.
use mathlib.Core.Path.{◌≡◌, refl, sym, ap, ◌∙◌, subst}
use Prim.Native.Nat.{ℕ, zero, suc, ◌+◌, ◌<◌, ◌≤◌}
use native.Mathlib.Omega.{arith}
use mathlib.Core.Bool.{Bool, true, false}
use mathlib.Core.List.{List, [], ◌∷◌, map}
use lib.ListN.{length, drop, get_or}
use lib.Seq.{drop-cons}
use lib.Dec.{leb, eqb}
use lib.Arith.{lt_of_le-ne}
use borrow.Author.Tests.{le-leb, eq-eqb, ne_eqb, eqb-true, eqb-false, leb-true, leb-false}
use Rattle.array.specs.Answer.{Answer, gives, refuses, and_then, unless, map_answer, Outcome}
use Rattle.array.specs.Lists.{pick}
use Rattle.array.specs.Subset.{numbers_test}
use Rattle.array.specs.Cells.{Value}
use Rattle.array.specs.Content.{RaggedContent}
use Rattle.array.specs.declared.answer.RaggedLengths.{RaggedLengths}
use Rattle.array.specs.Buffers.{ragged_lengths_of, ragged_outcome}
use Rattle.array.specs.Places.{sum}
use Rattle.array.proofs.Answers.{pass, went_on}
use Rattle.array.proofs.Over.{over_at_length}
use Rattle.migrate.specs.Live.{LiveTable, chunk_count, moved_end, chunk_values}
use Rattle.migrate.specs.Calls.{cut_or_refused, migrate_extract_answer, migrate_extract}
use Rattle.migrate.specs.Calls.{Step, none_left, enters, fresh, step_or_refused, Progress, nothing, entered, progress_of, lent_after, migrate_step_answer, migrate_step}
use Rattle.migrate.specs.Law.{Readable, with_lent, moved_after, after, steps, CutStays, OneByOne, new_length, old_left}
use Rattle.migrate.specs.Law.{AllMoved, RefusedStays, with_area, SameMoved, Again, TryAgain, tried, Lendable, moved_one, successes, AnyTries}
use Rattle.migrate.proofs.Live.{Sound, sound, area_values, chunks_counted, entering, end_more, entered_values}
use Rattle.migrate.proofs.Demand1.{never_six}

-- no answer is two
unlike : {A : Type 0} {a : Answer A} {k : ℕ} {x : A} → a ≡ refuses k → a ≡ gives x → ⊥
unlike p q = let z : ◌≡◌ {A = ℕ} 0 1 = cc in omega arith

-- ---- the step, from what the check gave

step_enters : (t : LiveTable) (vss : List (List Value)) → Readable t vss → t.moved < chunk_count t → moved_end t + length (fresh t vss) ≤ length t.area
    → migrate_step_answer t ≡ gives (enters (fresh t vss))
unfolding migrate_step_answer
step_enters t vss r left fits =
    let room : Answer Step = unless (leb (moved_end t + length (fresh t vss)) (length t.area)) 6 (gives (enters (fresh t vss))) in
    ap (λ (a : Answer (List (List Value))). and_then a (step_or_refused t)) r
    ∙ ap (λ (b : Bool). pick b (gives none_left) room) (ne_eqb t.moved (chunk_count t) (λ e. omega arith))
    ∙ pass 6 (le-leb (moved_end t + length (fresh t vss)) (length t.area) fits) refl

step_none : (t : LiveTable) (vss : List (List Value)) → Readable t vss → t.moved ≡ chunk_count t → migrate_step_answer t ≡ gives none_left
unfolding migrate_step_answer
step_none t vss r e =
    let room : Answer Step = unless (leb (moved_end t + length (fresh t vss)) (length t.area)) 6 (gives (enters (fresh t vss))) in
    ap (λ (a : Answer (List (List Value))). and_then a (step_or_refused t)) r
    ∙ ap (λ (b : Bool). pick b (gives none_left) room) (eq-eqb t.moved (chunk_count t) e)

-- the tests behind each answer
module _ (b c : Bool) (x : List ℕ) where
  abbrev picked : Answer Step
  picked = pick b (gives none_left) (unless c 6 (gives (enters x)))

picked_enters : (b c : Bool) (x s : List ℕ) → picked b c x ≡ gives (enters s) → (b ≡ false) × (c ≡ true) × (x ≡ s)
picked_enters true c x s e = absurd (let z : ◌≡◌ {A = ℕ} 0 1 = cc in omega arith)
picked_enters false true x s e = (refl, refl, cc)
picked_enters false false x s e = absurd (unlike refl e)

picked_none : (b c : Bool) (x : List ℕ) → picked b c x ≡ gives none_left → b ≡ true
picked_none true c x e = refl
picked_none false true x e = absurd (let z : ◌≡◌ {A = ℕ} 0 1 = cc in omega arith)
picked_none false false x e = absurd (unlike refl e)

picked_short : (b c : Bool) (x : List ℕ) (k : ℕ) → picked b c x ≡ refuses k → (b ≡ false) × (c ≡ false)
picked_short true c x k e = absurd (unlike e refl)
picked_short false true x k e = absurd (unlike e refl)
picked_short false false x k e = (refl, refl)

-- what a step that enters s has passed
record Entering (t : LiveTable) (s : List ℕ) : Type 0 where
  vss : List (List Value)
  readable : Readable t vss
  left : t.moved < chunk_count t
  fits : moved_end t + length (fresh t vss) ≤ length t.area
  is_fresh : fresh t vss ≡ s

was_entering : (t : LiveTable) (s : List ℕ) → migrate_step_answer t ≡ gives (enters s) → Entering t s
unfolding migrate_step_answer
was_entering t s e =
    let g = went_on (chunk_values true t) (step_or_refused t) e in
    let need : ℕ = moved_end t + length (fresh t g.0) in
    let p = picked_enters (eqb t.moved (chunk_count t)) (leb need (length t.area)) (fresh t g.0) s g.1.1 in
    record {
      vss = g.0;
      readable = g.1.0;
      left = lt_of_le-ne (sound t true g.1.0).lists.few (eqb-false t.moved (chunk_count t) p.0);
      fits = leb-true need (length t.area) p.1;
      is_fresh = p.2;
    }

-- ---- the table after a step's answer

abbrev table_by : LiveTable → Answer Step → LiveTable
table_by t a = with_lent t (moved_after t.moved (map_answer (progress_of t.moved) a)) (lent_after a t)

after_by : (t : LiveTable) (a : Answer Step) → migrate_step_answer t ≡ a → after t ≡ table_by t a
unfolding migrate_step
after_by t a e = ap (table_by t) e

pub after_values : (t : LiveTable) (asked : Bool) → chunk_values asked (after t) ≡ chunk_values asked t
after_values t asked = ap (chunk_values asked) (after_by t (migrate_step_answer t) refl) ∙ go (migrate_step_answer t) refl
  where
    go : (a : Answer Step) → migrate_step_answer t ≡ a → chunk_values asked (table_by t a) ≡ chunk_values asked t
    go (gives none_left) e = refl
    go (refuses k) e = refl
    go (gives (enters s)) e =
        let w : Entering t s = was_entering t s e in
        subst (λ (x : List ℕ). chunk_values asked (table_by t (gives (enters x))) ≡ chunk_values asked t) w.is_fresh
        (entered_values (sound t true w.readable) w.left w.fits asked)

-- ---- cuts

-- a cut looks at the lent buffers only through the check
abbrev cut_from : LiveTable → List ℕ → RaggedContent → Answer (List (List Value)) → Outcome RaggedLengths RaggedContent
cut_from t ns out r = ragged_outcome (and_then r (cut_or_refused t ns (ragged_lengths_of out))) out

cut_after : (t : LiveTable) (ns : List ℕ) (out : RaggedContent) → migrate_extract (after t) ns out ≡ migrate_extract t ns out
unfolding migrate_extract migrate_extract_answer
cut_after t ns out = ap (cut_from t ns out) (after_values t (numbers_test t.shape ns))

pub cut_stays : CutStays
cut_stays t zero ns out = refl
cut_stays t (suc i) ns out = cut_stays (after t) i ns out ∙ cut_after t ns out

-- ---- the number moved

pub one_by_one : OneByOne
unfolding migrate_step migrate_step_answer
one_by_one t = record { moves_one = λ l n. more l n (migrate_step_answer t) refl; none_left = none (migrate_step_answer t) refl }
  where
    more : (l n : ℕ) (a : Answer Step) → migrate_step_answer t ≡ a → map_answer (progress_of t.moved) a ≡ gives (entered l n) → (n ≡ suc t.moved) × (t.moved < chunk_count t)
    more l n (gives none_left) e q = absurd (let z : ◌≡◌ {A = ℕ} 0 1 = cc in omega arith)
    more l n (gives (enters s)) e q = (let j : n ≡ suc t.moved = cc in j, (was_entering t s e).left)
    more l n (refuses k) e q = absurd (unlike refl q)

    none : (a : Answer Step) → migrate_step_answer t ≡ a → map_answer (progress_of t.moved) a ≡ gives nothing → t.moved ≡ chunk_count t
    none (gives none_left) e q =
        let g = went_on (chunk_values true t) (step_or_refused t) e in
        eqb-true t.moved (chunk_count t)
        (picked_none (eqb t.moved (chunk_count t)) (leb (moved_end t + length (fresh t g.0)) (length t.area)) (fresh t g.0) g.1.1)
    none (gives (enters s)) e q = absurd (let z : ◌≡◌ {A = ℕ} 0 1 = cc in omega arith)
    none (refuses k) e q = absurd (unlike refl q)

-- ---- all steps

-- the answer of the step that moves chunk i
abbrev told : List (List Value) → ℕ → Answer Progress
told vss i = gives (entered (new_length (get_or vss i [])) (suc i))

record Way (t : LiveTable) (vss : List (List Value)) (i : ℕ) : Type 0 where
  each : (j : ℕ) → j < i → (migrate_step (steps j t)).answer ≡ told vss (t.moved + j)
  done : (migrate_step (steps i t)).answer ≡ gives nothing

way : (i : ℕ) (t : LiveTable) (vss : List (List Value)) → Readable t vss → t.moved + i ≡ chunk_count t
    → moved_end t + sum (map new_length (drop t.moved vss)) ≤ length t.area → Way t vss i
unfolding migrate_step
way zero t vss r e room = record {
  each = λ j h. absurd (omega arith);
  done = ap (map_answer (progress_of t.moved)) (step_none t vss r (omega arith));
}
way (suc i) t vss r e room =
    let m : ℕ = t.moved in
    let s : Sound t vss = sound t true r in
    let left : m < chunk_count t = omega arith in
    let next : drop m vss ≡ get_or vss m [] ∷ drop (suc m) vss = drop-cons vss m [] (omega (arith, chunks_counted s)) in
    let needs : sum (map new_length (drop m vss)) ≡ length (fresh t vss) + sum (map new_length (drop (suc m) vss)) =
    ap (λ (x : List (List Value)). sum (map new_length x)) next in
    let fits : moved_end t + length (fresh t vss) ≤ length t.area = omega arith in
    let u : LiveTable = entering s left in
    let a : migrate_step_answer t ≡ gives (enters (fresh t vss)) = step_enters t vss r left fits in
    let q : after t ≡ u = after_by t (gives (enters (fresh t vss))) a in
    let w : Way u vss i = way i u vss (entered_values s left fits true ∙ r) (omega arith)
    (omega (arith, end_more s left, over_at_length (moved_end t) (fresh t vss) t.area fits)) in
    record {
      each = turn u q a w.each;
      done = subst (λ (x : LiveTable). (migrate_step (steps i x)).answer ≡ gives nothing) (sym q) w.done;
    }
  where
    turn : (u : LiveTable) → after t ≡ u → migrate_step_answer t ≡ gives (enters (fresh t vss))
        → ((j : ℕ) → j < i → (migrate_step (steps j u)).answer ≡ told vss (suc t.moved + j))
        → (j : ℕ) → j < suc i → (migrate_step (steps j t)).answer ≡ told vss (t.moved + j)
    turn u q a w zero h = ap (map_answer (progress_of t.moved)) a ∙ ap (told vss) (omega arith)
    turn u q a w (suc j) h =
        subst (λ (x : LiveTable). (migrate_step (steps j x)).answer ≡ told vss (suc t.moved + j)) (sym q) (w j (omega arith)) ∙ ap (told vss) (omega arith)

pub all_moved : AllMoved
all_moved t vss r room =
    let w : Way t vss (old_left t) = way (old_left t) t vss r (omega (arith, (sound t true r).lists.few)) room in
    record { each = w.each; done = w.done }

-- ---- refusals

-- a step that refuses, by its answer
refused_by : (t : LiveTable) (k : ℕ) → (migrate_step t).answer ≡ refuses k → migrate_step_answer t ≡ refuses k
unfolding migrate_step
refused_by t k e = go (migrate_step_answer t) e
  where
    go : (a : Answer Step) → map_answer (progress_of t.moved) a ≡ refuses k → a ≡ refuses k
    go (gives none_left) e = absurd (unlike e refl)
    go (gives (enters s)) e = absurd (unlike e refl)
    go (refuses j) e = cc

pub refused_stays : RefusedStays
refused_stays t k e = after_by t (refuses k) (refused_by t k e)

cut_area : {t : LiveTable} {vss : List (List Value)} (s : Sound t vss) {a : List ℕ} → SameMoved t a → (ns : List ℕ) (out : RaggedContent)
    → migrate_extract (with_area t a) ns out ≡ migrate_extract t ns out
unfolding migrate_extract migrate_extract_answer
cut_area {t} s h ns out = ap (cut_from t ns out) (area_values s h (numbers_test t.shape ns))

pub try_again : TryAgain
unfolding migrate_step migrate_step_answer
try_again t e = go (chunk_values true t) refl (refused_by t 6 e)
  where
    go : (r : Answer (List (List Value))) → chunk_values true t ≡ r → and_then r (step_or_refused t) ≡ refuses 6 → Again t
    go (refuses k) p q = absurd (let six : k ≡ 6 = cc q in never_six t (p ∙ ap refuses six))
    go (gives vss) p q =
        let s : Sound t vss = sound t true p in
        let need : ℕ = length (fresh t vss) in
        let tests = picked_short (eqb t.moved (chunk_count t)) (leb (moved_end t + need) (length t.area)) (fresh t vss) 6 q in
        record {
          need = need;
          short = leb-false (moved_end t + need) (length t.area) tests.1;
          succeeds = λ a h fits. ap (map_answer (progress_of t.moved))
              (step_enters (with_area t a) vss (area_values s h true ∙ p) (lt_of_le-ne s.lists.few (eqb-false t.moved (chunk_count t) tests.0)) fits);
          cuts = λ a h ns out. cut_area s h ns out;
        }

-- ---- any tries

moved_more : (t : LiveTable) → (after t).moved ≡ t.moved + moved_one (migrate_step t).answer
unfolding migrate_step
moved_more t = go (migrate_step_answer t)
  where
    go : (a : Answer Step) → moved_after t.moved (map_answer (progress_of t.moved) a) ≡ t.moved + moved_one (map_answer (progress_of t.moved) a)
    go (gives none_left) = omega arith
    go (gives (enters s)) = omega arith
    go (refuses k) = omega arith

count_same : (as' : List (List ℕ)) (t : LiveTable) → chunk_count (tried as' t) ≡ chunk_count t
count_same [] t = refl
count_same (a ∷ as') t = count_same as' (after (with_area t a))

counted : (as' : List (List ℕ)) (t : LiveTable) → (tried as' t).moved ≡ t.moved + successes as' t
counted [] t = omega arith
counted (a ∷ as') t = omega (arith, counted as' (after (with_area t a)), moved_more (with_area t a))

cuts_alike : (as' : List (List ℕ)) (t : LiveTable) (vss : List (List Value)) → Readable t vss → Lendable as' t → (ns : List ℕ) (out : RaggedContent)
    → migrate_extract (tried as' t) ns out ≡ migrate_extract t ns out
cuts_alike [] t vss r h ns out = refl
cuts_alike (a ∷ as') t vss r h ns out =
    let s : Sound t vss = sound t true r in
    cuts_alike as' (after (with_area t a)) vss (after_values (with_area t a) true ∙ area_values s h.0 true ∙ r) h.1 ns out
    ∙ cut_after (with_area t a) ns out ∙ cut_area s h.0 ns out

pub any_tries : AnyTries
any_tries t vss r as' h = record {
  counted = counted as' t;
  cuts = cuts_alike as' t vss r h;
  done = λ e. sym (counted as' t) ∙ (one_by_one (tried as' t)).none_left e ∙ count_same as' t;
}
