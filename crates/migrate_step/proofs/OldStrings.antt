-- Strings that lie end to end: the walk to one of them.
-- Assumes nothing.
use mathlib.Core.Path.{◌≡◌, refl, sym, ap, ◌∙◌, subst}
use Prim.Native.Nat.{ℕ, ◌+◌, ◌-◌, ◌<◌, ◌≤◌}
use native.Mathlib.Numerals.{add-one}
use native.Mathlib.Nat.{add-zero}
use native.Mathlib.Omega.{arith}
use mathlib.Core.List.{List, [], ◌∷◌}
use lib.ListN.{length, take, drop, get_or, length-take, length-drop}
use lib.Seq.{drop-cons, drop-drop, get_or-drop, get_or-take, take_all}
use Rattle.array.specs.Places.{sum}
use Rattle.migrate.specs.Live.{strings}

-- those before number i are passed
pub record Passing (lengths bytes left : List ℕ) (i : ℕ) : Type 0 where
  pub behind : strings (drop i lengths) left ≡ drop i (strings lengths bytes)
  pub room : sum (drop i lengths) ≤ length left

pub passing_begins : {lengths bytes : List ℕ} → sum lengths ≤ length bytes → Passing lengths bytes bytes 0
passing_begins h = record { behind = refl; room = h }

module _ {lengths bytes left : List ℕ} {i : ℕ} (p : Passing lengths bytes left i) (h : i < length lengths) where
  abbrev here : ℕ
  here = get_or lengths i 0

  next : drop i lengths ≡ here ∷ drop (i + 1) lengths
  next = drop-cons lengths i 0 h ∙ ap (λ (k : ℕ). here ∷ drop k lengths) (sym (add-one i))

  first : take here left ∷ strings (drop (i + 1) lengths) (drop here left) ≡ drop i (strings lengths bytes)
  first = sym (ap (λ (ls : List ℕ). strings ls left) next) ∙ p.behind

  pub passing_fits : here ≤ length left
  passing_fits = omega (arith, p.room, ap sum next)

  pub passing_more : Passing lengths bytes (drop here left) (i + 1)
  passing_more = record {
    behind = ap (drop 1) first ∙ drop-drop 1 i (strings lengths bytes);
    room = omega (arith, p.room, ap sum next, length-drop here left);
  }

  pub passing_ends : take here left ≡ get_or (strings lengths bytes) i []
  passing_ends =
      ap (λ (ss : List (List ℕ)). get_or ss 0 []) first ∙ get_or-drop i (strings lengths bytes) 0 [] ∙ ap (λ (k : ℕ). get_or (strings lengths bytes) k []) (add-zero i)

-- the next string is passed, by the lengths of those before `number`
pub passing_next : {lengths bytes left : List ℕ} {i : ℕ} (number : ℕ) → Passing lengths bytes left i → i < length (take number lengths) → number < length lengths
    → Passing lengths bytes (take (length left - get_or (take number lengths) i 0) (drop (get_or (take number lengths) i 0) left)) (i + 1)
passing_next {lengths} {bytes} {left} {i} number p h g =
    let some : i < number = omega (arith, length-take number lengths) in
    let whole : drop (get_or lengths i 0) left ≡ take (length left - get_or lengths i 0) (drop (get_or lengths i 0) left) =
    sym (take_all (length left - get_or lengths i 0) (drop (get_or lengths i 0) left) (omega (arith, length-drop (get_or lengths i 0) left))) in
    subst (λ (x : ℕ). Passing lengths bytes (take (length left - x) (drop x left)) (i + 1)) (sym (get_or-take number lengths i 0 some))
    (subst (λ (r : List ℕ). Passing lengths bytes r (i + 1)) whole (passing_more p (omega arith)))
