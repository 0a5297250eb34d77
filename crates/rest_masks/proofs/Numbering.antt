-- Loops that store f j for the cell j: what is left to write, turn by turn.
-- Assumes nothing.
use mathlib.Core.Path.{◌≡◌, sym, ap, ◌∙◌}
use mathlib.Core.List.{List, ◌∷◌, ◌++◌, map}
use Prim.Native.Nat.{ℕ, suc, ◌+◌, ◌-◌, ◌≤◌, ◌<◌}
use native.Mathlib.Nat.{sub-zero}
use native.Mathlib.Numerals.{add-one}
use native.Mathlib.Omega.{arith}
use lib.ListN.{length, take, get_or, set, length-append, length-map, get_or-append}
use lib.Seq.{length-take-le, get_or-append-add}
use Rattle.array.specs.Lists.{from}
use Rattle.array.specs.Buffers.{over_at}
use Rattle.array.proofs.Lists.{length_from_lem}
use Rattle.array.proofs.Laying.{Laying, laying_begins, laying_same, laying_ends, laying_store, laying_is}

-- f of the first j of n cells lies at `to` in what was d
pub record Numbering (f : ℕ → ℕ) (n : ℕ) (d : List ℕ) (to : ℕ) (out : List ℕ) (j : ℕ) : Type 0 where
  pub within : j ≤ n
  pub laid : Laying (map f (from 0 n)) d to out j (map f (from j (n - j)))

pub length_numbered : (f : ℕ → ℕ) (n : ℕ) → length (map f (from 0 n)) ≡ n
length_numbered f n = length-map (from 0 n) f ∙ length_from_lem 0 n

next : (f : ℕ → ℕ) {n j : ℕ} → j < n → map f (from j (n - j)) ≡ f j ∷ map f (from (j + 1) (n - (j + 1)))
next f {n} {j} h =
    let e : n - j ≡ suc (n - suc j) = omega arith in
    ap (λ (k : ℕ). map f (from j k)) e ∙ ap (λ (i : ℕ). f j ∷ map f (from i (n - i))) (sym (add-one j))

pub number_begins : (f : ℕ → ℕ) (n : ℕ) (d : List ℕ) (to : ℕ) → to + n ≤ length d → Numbering f n d to d 0
number_begins f n d to h = record {
  within = omega arith;
  laid = laying_is (laying_begins (map f (from 0 n)) d to (omega (arith, length_numbered f n))) (ap (λ (m : ℕ). map f (from 0 m)) (sym (sub-zero n)));
}

module _ {f : ℕ → ℕ} {n : ℕ} {d : List ℕ} {to : ℕ} {out : List ℕ} {j : ℕ} (c : Numbering f n d to out j) where
  pub number_same : length out ≡ length d
  number_same = laying_same (map f (from 0 n)) d to out j _ c.laid

  pub number-ends : n ≤ j → out ≡ over_at to (map f (from 0 n)) d
  number-ends h =
      let none : n - j ≡ 0 = omega arith in
      laying_ends (map f (from 0 n)) d to out j (laying_is c.laid (ap (λ (k : ℕ). map f (from j k)) none))

  module _ (h : j < n) where
    pub number_more : {x k : ℕ} → x ≡ f j → k ≡ to + j → Numbering f n d to (set out k x) (j + 1)
    number_more {x} {k} ex ek = record {
      within = omega arith;
      laid =
          let stored : Laying (map f (from 0 n)) d to (set out (to + j) (f j)) (j + 1) (map f (from (j + 1) (n - (j + 1)))) =
          laying_store (map f (from 0 n)) d to out j (f j) _ (laying_is c.laid (next f h)) in
          rw (ex, ek) stored;
    }

-- an element of what was laid from a place on
pub laid_at : (to : ℕ) (g d : List ℕ) → to ≤ length d → (j : ℕ) → j < length g → get_or (over_at to g d) (to + j) 0 ≡ get_or g j 0
laid_at to g d h j l =
    let front : length (take to d) ≡ to = length-take-le to d h in
    get_or-append (take to d ++ g) _ 0 (to + j) (omega (arith, length-append (take to d) g))
    ∙ ap (λ (k : ℕ). get_or (take to d ++ g) (k + j) 0) (sym front) ∙ get_or-append-add (take to d) g j 0
