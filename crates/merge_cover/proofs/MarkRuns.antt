-- Marking a run of cells, a word at a time.
-- Assumes nothing.
use mathlib.Core.Path.{◌≡◌, refl, ap, ◌∙◌}
use Prim.Native.Nat.{ℕ, ◌+◌, ◌-◌, ◌≤◌}
use native.Mathlib.Omega.{arith}
use mathlib.Core.List.{List}
use Rattle.array.specs.Answer.{Answer, gives, and_then}
use Rattle.array.specs.Lists.{from}
use Rattle.array.proofs.Geometry.{from-append}
use Rattle.merge_cover.specs.Marks.{marking}
use Rattle.merge_cover.proofs.Once.{marking-append}

pub run_begins : (m : List ℕ) (a n : ℕ) → marking m (from a n) ≡ marking m (from a (a + n - a))
run_begins m a n = let q : n ≡ a + n - a = omega arith in ap (λ (k : ℕ). marking m (from a k)) q

pub run_ends : (m : List ℕ) (i e : ℕ) → e ≤ i → marking m (from i (e - i)) ≡ gives m
unfolding marking
run_ends m i e h = let q : e - i ≡ 0 = omega arith in ap (λ (k : ℕ). marking m (from i k)) q

-- n cells at once
pub run_more : (m : List ℕ) (i n e : ℕ) → i + n ≤ e → {a : Answer (List ℕ)} → marking m (from i n) ≡ a
    → marking m (from i (e - i)) ≡ and_then a (λ u. marking u (from (i + n) (e - (i + n))))
run_more m i n e h r =
    ap (marking m) (from-append i n (e - (i + n)) (i + n) (e - i) refl (omega arith)) ∙ marking-append m (from i n) (from (i + n) (e - (i + n)))
    ∙ ap (λ (x : Answer (List ℕ)). and_then x (λ u. marking u (from (i + n) (e - (i + n))))) r
