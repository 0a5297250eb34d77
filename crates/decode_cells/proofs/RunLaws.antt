-- Runs of cells that are all set, or all not: how long they are, and the loop that finds it.
-- Assumes nothing.
use mathlib.Core.Path.{◌≡◌, refl, sym, ap, ◌∙◌}
use mathlib.Core.Bool.{Bool, true, false, not, beq}
use mathlib.Core.List.{List, [], ◌∷◌}
use Prim.Native.Nat.{ℕ, zero, suc, ◌+◌, ◌-◌, ◌≤◌, ◌<◌}
use native.Mathlib.Omega.{arith}
use native.Mathlib.Numerals.{add-one}
use lib.ListN.{length, take, drop, get_or, drop_of_length-le}
use lib.Seq.{drop-cons}
use Rattle.array.specs.Cells.{set_test}
use Rattle.codec.specs.Frame.{count_set}
use Rattle.decode_cells.specs.Runs.{run_by, mark_run}

pub run_within : (b : Bool) (p : List ℕ) → mark_run b p ≤ length p
run_within b [] = omega arith
run_within b (m ∷ p) = go (beq (set_test m) b) (run_within b p)
  where
    go : (t : Bool) {n l : ℕ} → n ≤ l → run_by t n ≤ suc l
    go true h = omega arith
    go false h = omega arith

pub null_run : (p : List ℕ) → count_set (take (mark_run false p) p) ≡ 0
null_run [] = refl
null_run (zero ∷ p) = null_run p
null_run (suc zero ∷ p) = refl
null_run (suc (suc m) ∷ p) = null_run p

pub set_run : (p : List ℕ) → count_set (take (mark_run true p) p) ≡ mark_run true p
set_run [] = refl
set_run (zero ∷ p) = refl
set_run (suc zero ∷ p) = ap suc (set_run p)
set_run (suc (suc m) ∷ p) = refl

-- behind cells that are not set come set ones, where any byte is set
pub some_run : (p : List ℕ) → 0 < count_set p → 0 < mark_run true (drop (mark_run false p) p)
some_run [] h = absurd (omega arith)
some_run (zero ∷ p) h = some_run p h
some_run (suc zero ∷ p) h = omega arith
some_run (suc (suc m) ∷ p) h = some_run p h

-- the run from i on reaches e
pub record Running (b : Bool) (p : List ℕ) (i e : ℕ) : Type 0 where
  pub begun : i ≤ e
  pub within : e ≤ length p
  pub left : e - i + mark_run b (drop e p) ≡ mark_run b (drop i p)

module _ {b : Bool} {p : List ℕ} {i e : ℕ} (r : Running b p i e) where
  pub running_ends : length p ≤ e → e - i ≡ mark_run b (drop i p)
  running_ends h = omega (arith, r.left, ap (mark_run b) (drop_of_length-le p {i = e} h))

  module _ (h : e < length p) {t : Bool} (et : t ≡ set_test (get_or p e 0)) where
    at_e : drop e p ≡ get_or p e 0 ∷ drop (e + 1) p
    at_e = drop-cons p e 0 h ∙ ap (λ (k : ℕ). get_or p e 0 ∷ drop k p) (sym (add-one e))

    pub running_stops : not (beq t b) ≡ true → e - i ≡ mark_run b (drop i p)
    running_stops f = omega (arith, r.left, ap (mark_run b) at_e, go (beq (set_test (get_or p e 0)) b) (ap (λ (u : Bool). not (beq u b)) (sym et) ∙ f))
      where
        go : (u : Bool) → not u ≡ true → run_by u (mark_run b (drop (e + 1) p)) ≡ 0
        go true f = cc
        go false f = refl

    pub running_more : not (beq t b) ≡ false → Running b p i (e + 1)
    running_more f = record {
      begun = omega (arith, r.begun);
      within = omega arith;
      left = omega (arith, r.begun, r.left, ap (mark_run b) at_e, go (beq (set_test (get_or p e 0)) b) (ap (λ (u : Bool). not (beq u b)) (sym et) ∙ f));
    }
      where
        go : (u : Bool) → not u ≡ false → run_by u (mark_run b (drop (e + 1) p)) ≡ suc (mark_run b (drop (e + 1) p))
        go true f = refl
        go false f = cc
