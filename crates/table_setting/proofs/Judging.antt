-- Whether a setting fits: 5, 15 and 16, each when it is due; and for a table that keeps its rules it is the setting's own answer.
-- Assumes nothing.
use mathlib.Core.Path.{◌≡◌, refl, sym, ap, ap₂, ◌∙◌}
use Prim.Native.Nat.{ℕ, ◌+◌, ◌-◌, ◌≤◌, ◌<◌}
use native.Mathlib.Omega.{arith}
use mathlib.Core.Bool.{Bool, true, false}
use mathlib.Core.List.{List}
use lib.ListN.{length, get_or, set}
use lib.Dec.{leb, ltb}
use borrow.Author.Tests.{le-leb, lt-leb, lt-ltb, leb-true, ltb-true}
use Rattle.array.specs.Answer.{Answer, gives, refuses, unless, map_answer}
use Rattle.array.specs.Cells.{Value, leaf}
use Rattle.array.specs.Places.{sum}
use Rattle.array.proofs.Answers.{passed, same_given}
use Rattle.table.specs.Table.{Table, most_store}
use Rattle.table.specs.Setting.{setting_of}
use Rattle.table.proofs.Setting.{sum-set}
use Rattle.table_setting.specs.declared.fit.Fitting.{Fitting}
use Rattle.table_setting.specs.Fit.{size_by, fitting, fitted}
use Rattle.table_setting.specs.Settle.{Sound, Ready, settled_by, setting_answer}
use Rattle.table_setting.proofs.Values.{size_set}

-- what is made of an answer behind a test
map-unless : {A B : Type 0} (b : Bool) (k : ℕ) (a : Answer A) (f : A → B) → map_answer f (unless b k a) ≡ unless b k (map_answer f a)
map-unless true k a f = refl
map-unless false k a f = refl

-- ---- stage by stage

module _ (l : List ℕ) (room c : ℕ) (ms : List ℕ) (len : ℕ) where
  abbrev after : ℕ
  after = sum (set l c 0) + size_by ms len

  module _ (e : leb room most_store ≡ true) where
    module _ (g : c < length l) (h : sum l ≤ room) where
      gave_up : sum (set l c 0) + get_or l c 0 ≡ sum l + 0
      gave_up = sum-set l c 0 g

      module _ {total : ℕ} (q : total ≡ sum l) where
        pub one_of_all : get_or l c 0 ≤ total
        one_of_all = omega (arith, gave_up)

        others_are : total - get_or l c 0 ≡ sum (set l c 0)
        others_are = omega (arith, gave_up)

        pub others_fit : total - get_or l c 0 ≤ room
        others_fit = omega arith

        module _ {size : ℕ} (z : size ≡ size_by ms len) where
          pub too_full : room - (total - get_or l c 0) < size → refuses 16 ≡ fitted l room c ms len
          too_full f = rw (e, lt-ltb c (length l) g, lt-leb after room (omega (arith, others_are, others_fit)))

          pub fits : size ≤ room - (total - get_or l c 0) → gives (record { size = size; others = total - get_or l c 0 }) ≡ fitted l room c ms len
          fits f = go z others_are ∙ rw (e, lt-ltb c (length l) g, le-leb after room (omega (arith, others_are, others_fit)))
            where
              go : {s o : ℕ} → s ≡ size_by ms len → o ≡ sum (set l c 0) → gives (record { size = s; others = o }) ≡ gives (fitting l c ms len)
              go p q = rw (p, q)

-- ---- what is known where it fits

pub record Known (l : List ℕ) (room c : ℕ) (ms : List ℕ) (len : ℕ) (f : Fitting) : Type 0 where
  pub small : room ≤ most_store
  pub low : c < length l
  pub held : sum (set l c 0) + size_by ms len ≤ room
  pub is : fitting l c ms len ≡ f

pub known : (l : List ℕ) (room c : ℕ) (ms : List ℕ) (len : ℕ) {f : Fitting} → fitted l room c ms len ≡ gives f → Known l room c ms len f
known l room c ms len e =
    let (small, e') = passed (leb room most_store) 5 _ e in
    let (low, e'') = passed (ltb c (length l)) 15 _ e' in
    let (held, last) = passed (leb (sum (set l c 0) + size_by ms len) room) 16 _ e'' in
    record { small = leb-true room most_store small; low = ltb-true c (length l) low; held = leb-true (sum (set l c 0) + size_by ms len) room held; is = same_given last }

-- ---- a table that keeps its rules

module _ {room : ℕ} {t : Table} {ms : List ℕ} (s : Sound room t ms) (c : ℕ) (v : Value) where
  sized : size_by ms (length v) ≡ length (leaf (length ms) (setting_of (length ms) ms v))
  sized = size_set (length ms) ms v

  pub ready : {f : Fitting} → fitted t.lengths (length t.store) c ms (length v) ≡ gives f → Ready room t c ms v f.size
  ready e =
      let k = known t.lengths (length t.store) c ms (length v) e in
      record {
        sound = s;
        small = k.small;
        low = omega (arith, k.low, s.table.lengths_fit);
        sized = ap (λ (f : Fitting). f.size) (sym k.is) ∙ sized;
        fits = omega (arith, k.held, sized);
      }

  pub others_known : {f : Fitting} → fitted t.lengths (length t.store) c ms (length v) ≡ gives f → f.others ≡ sum (set t.lengths c 0)
  others_known e = ap (λ (f : Fitting). f.others) (sym (known t.lengths (length t.store) c ms (length v) e).is)

  -- what is given where it fits is the setting's answer
  pub fitted_is : map_answer (λ f. settled_by c ms v t) (fitted t.lengths (length t.store) c ms (length v)) ≡ setting_answer c ms v t
  fitted_is =
      map-unless (leb (length t.store) most_store) 5 _ (λ f. settled_by c ms v t)
      ∙ ap (unless (leb (length t.store) most_store) 5)
      (map-unless (ltb c (length t.lengths)) 15 _ (λ f. settled_by c ms v t)
      ∙ ap₂ (λ (m : ℕ) (a : Answer Table). unless (ltb c m) 15 a) s.table.lengths_fit
      (map-unless (leb (sum (set t.lengths c 0) + size_by ms (length v)) (length t.store)) 16 _ (λ f. settled_by c ms v t)
      ∙ ap (λ (m : ℕ). unless (leb (sum (set t.lengths c 0) + m) (length t.store)) 16 (gives (settled_by c ms v t))) sized))
