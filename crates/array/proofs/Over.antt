-- A result laid over an output, from its front or from a place on.
-- Assumes nothing.
use mathlib.Core.Path.{◌≡◌, refl, sym, ap, ◌∙◌}
use mathlib.Core.List.{List, [], ◌∷◌, ◌++◌, append_assoc}
use Prim.Native.Nat.{ℕ, suc, ◌+◌, ◌≤◌, ◌<◌}
use native.Mathlib.Omega.{arith}
use native.Mathlib.Numerals.{add-one}
use lib.ListN.{length, take, drop, get_or, set, length-append, length-drop}
use lib.Seq.{drop-drop, take_at, set_at, length-take-le, drop-cons, drop-append-add, paste, length_paste_head}
use Rattle.array.specs.Buffers.{over, over_at}

-- the first of the output is the result
pub take-over : (s old : List ℕ) → take (length s) (over s old) ≡ s
take-over s old = take_at s (drop (length s) old) (length s) refl

-- the output stays as long as it was
pub over-length : (f d : List ℕ) → length f ≤ length d → length (over f d) ≡ length d
over-length f d h = omega (arith, length-append f (drop (length f) d), length-drop (length f) d)

-- what is laid behind a result comes to one result
pub over_again : (f g d : List ℕ) (k : ℕ) → length f ≡ k → over_at k g (over f d) ≡ over (f ++ g) d
over_again f g d k e =
    let a : take k (over f d) ≡ f = take_at f (drop (length f) d) k e in
    let b : drop (length (f ++ g)) (f ++ drop (length f) d) ≡ drop (length (f ++ g)) d =
    ap (λ (j : ℕ). drop j (f ++ drop (length f) d)) (length-append f g) ∙ drop-append-add f (drop (length f) d) (length g) ∙ drop-drop (length g) (length f) d ∙ ap
    (λ (j : ℕ). drop j d) (sym (length-append f g)) in
    ap (λ (l : List ℕ). over (l ++ g) (over f d)) a ∙ ap (λ (l : List ℕ). (f ++ g) ++ l) b

-- one element stored right behind it
pub over_store : (f d : List ℕ) (k x : ℕ) → length f ≡ k → k < length d → set (over f d) k x ≡ over (f ++ (x ∷ [])) d
over_store f d k x e h =
    let a : drop (length f) d ≡ get_or d k 0 ∷ drop (suc k) d = ap (λ (j : ℕ). drop j d) e ∙ drop-cons d k 0 h in
    let b : length (f ++ (x ∷ [])) ≡ suc k = length-append f (x ∷ []) ∙ add-one (length f) ∙ ap suc e in
    ap (λ (l : List ℕ). set (f ++ l) k x) a ∙ set_at f (get_or d k 0) (drop (suc k) d) x k e
    ∙ sym (append_assoc f (x ∷ []) (drop (length (f ++ (x ∷ []))) d) ∙ ap (λ (j : ℕ). f ++ (x ∷ drop j d)) b)

pub over_at_length : (k : ℕ) (g d : List ℕ) → k + length g ≤ length d → length (over_at k g d) ≡ length d
over_at_length k g d h = over-length (take k d ++ g) d (omega (arith, length-append (take k d) g, length-take-le k d (omega arith)))

-- the library's paste is the same
pub paste_over : (old : List ℕ) (at : ℕ) (xs : List ℕ) (n : ℕ) → at ≤ length old → n ≤ length xs → paste old at xs n ≡ over_at at (take n xs) old
paste_over old at xs n h l = ap (λ (k : ℕ). take at old ++ take n xs ++ drop k old) (sym (length_paste_head old at xs n h l))
