-- Parts laid over an output one after the other, and where they come to lie.
-- Assumes nothing.
use mathlib.Core.Path.{◌≡◌, sym, ap, ap₂, ◌∙◌}
use Prim.Native.Nat.{ℕ, ◌+◌, ◌-◌, ◌≤◌}
use native.Mathlib.Omega.{arith}
use mathlib.Core.List.{List, [], ◌++◌, append_assoc, append-nil}
use lib.ListN.{length, take, drop, length-append, take-append-drop}
use lib.Seq.{take_at, drop_at, take-take, drop-drop, drop-append-add, length-take-le, take-append-le}
use Rattle.array.specs.Buffers.{over, over_at}
use Rattle.array.proofs.Over.{over_again}

-- what is laid behind
pub at_behind : (at : ℕ) (f g out : List ℕ) (b : ℕ) → at + length f ≡ b → at ≤ length out → over_at b g (over_at at f out) ≡ over_at at (f ++ g) out
at_behind at f g out b e h =
    over_again (take at out ++ f) g out b (length-append (take at out) f ∙ ap (λ (m : ℕ). m + length f) (length-take-le at out h) ∙ e)
    ∙ ap (λ (x : List ℕ). over x out) (append_assoc (take at out) f g)

-- what is laid in front
pub at_front : (at : ℕ) (f g out : List ℕ) (b : ℕ) → at + length f ≡ b → b ≤ length out → over_at at f (over_at b g out) ≡ over_at at (f ++ g) out
at_front at f g out b e h =
    let lt : length (take b out) ≡ b = length-take-le b out h in
    let la : length (take at out) ≡ at = length-take-le at out (omega arith) in
    let rest : List ℕ = drop (length (take b out ++ g)) out in
    let whole : List ℕ = (take b out ++ g) ++ rest in
    let ew : whole ≡ take b out ++ (g ++ rest) = append_assoc (take b out) g rest in
    let e1 : take at whole ≡ take at out =
    ap (take at) ew ∙ take-append-le at (take b out) (g ++ rest) (omega arith) ∙ take-take at b out (omega arith) in
    let lf : length (take at whole ++ f) ≡ b = length-append (take at whole) f ∙ ap (λ (m : ℕ). m + length f) (ap length e1 ∙ la) ∙ e in
    let e2 : drop (length (take at whole ++ f)) whole ≡ g ++ rest = ap₂ drop lf ew ∙ drop_at (take b out) (g ++ rest) b lt in
    let e3 : length (take b out ++ g) ≡ length (take at out ++ (f ++ g)) =
    omega (arith, length-append (take b out) g, length-append (take at out) (f ++ g), length-append f g) in
    ap₂ ◌++◌ (ap (λ (x : List ℕ). x ++ f) e1) e2
    ∙ append_assoc (take at out) f (g ++ rest)
    ∙ ap (λ (x : List ℕ). take at out ++ x) (sym (append_assoc f g rest))
    ∙ sym (append_assoc (take at out) (f ++ g) rest)
    ∙ ap (λ (m : ℕ). (take at out ++ (f ++ g)) ++ drop m out) e3

-- what is laid over again, and no less of it
pub at_again : (at : ℕ) (f g out : List ℕ) → at ≤ length out → length g ≤ length f → over_at at f (over_at at g out) ≡ over_at at f out
at_again at f g out h q =
    let la : length (take at out) ≡ at = length-take-le at out h in
    let front : List ℕ = take at out ++ g in
    let rest : List ℕ = drop (length front) out in
    let e1 : take at (front ++ rest) ≡ take at out = ap (take at) (append_assoc (take at out) g rest) ∙ take_at (take at out) (g ++ rest) at la in
    let e2 : length (take at out ++ f) ≡ length front + (length f - length g) = omega (arith, length-append (take at out) f, length-append (take at out) g) in
    let e3 : drop (length (take at out ++ f)) (front ++ rest) ≡ drop (length (take at out ++ f)) out =
    ap (λ (m : ℕ). drop m (front ++ rest)) e2 ∙ drop-append-add front rest (length f - length g) ∙ drop-drop (length f - length g) (length front) out ∙ ap (λ (m : ℕ). drop m out) (sym e2) in
    ap (λ (x : List ℕ). over (x ++ f) (front ++ rest)) e1 ∙ ap (λ (x : List ℕ). (take at out ++ f) ++ x) e3

-- nothing laid
pub at_none : (at : ℕ) (out : List ℕ) → at ≤ length out → out ≡ over_at at [] out
at_none at out h =
    sym (ap (λ (x : List ℕ). over x out) (append-nil (take at out)) ∙ ap (λ (m : ℕ). take at out ++ drop m out) (length-take-le at out h) ∙ take-append-drop at out)

-- the same bytes under another name
pub laid_as : {o x y : List ℕ} (at : ℕ) (out : List ℕ) → o ≡ over_at at x out → x ≡ y → o ≡ over_at at y out
laid_as at out e f = e ∙ ap (λ (s : List ℕ). over_at at s out) f
