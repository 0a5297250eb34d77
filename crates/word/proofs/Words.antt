-- Bytes and the numbers of them: any bytes are those of their number, in either order; and the sizes of a word.
-- Assumes nothing.
use mathlib.Core.Path.{◌≡◌, refl, sym, ap, subst, ◌∙◌}
use mathlib.Core.Logic.{⊎_elim}
use mathlib.Core.Bool.{true, false}
use mathlib.Core.List.{List, [], ◌∷◌, reverse, reverse_aux}
use Prim.Native.Nat.{ℕ, zero, suc, ◌+◌, ◌≤◌, ◌<◌}
use native.Mathlib.Omega.{arith}
use lib.ListN.{length, take, drop, get_or, replicate, length-drop}
use lib.Seq.{length-take-le}
use borrow.Author.Tests.{ne_eqb, eqb-true}
use Rattle.std.proofs.lemmas.Bool.Decides.{eqb_tells}
use Rattle.array.specs.Bytes.{le, unle, AllBytes}
use Rattle.array.specs.Kind.{Order, little, big, ordered}
use Rattle.array.proofs.Bytes.{number_again, bytes_take, bytes_drop}
use Rattle.array.proofs.Sizes.{length-ordered}
use Rattle.word.specs.Word.{word_test}

-- ---- each element is a byte

-- as the elements of a slice are
abbrev pub Slice : List ℕ → Type 0
Slice s = (i : ℕ) → get_or s i 0 < 256

slice_bytes : (s : List ℕ) → Slice s → AllBytes s
slice_bytes [] f = tt
slice_bytes (x ∷ s) f = (f 0, slice_bytes s (λ i. f (suc i)))

bytes_reverse : (s r : List ℕ) → AllBytes s → AllBytes r → AllBytes (reverse_aux s r)
bytes_reverse [] r p q = q
bytes_reverse (x ∷ s) r p q = bytes_reverse s (x ∷ r) p.1 (p.0, q)

bytes_ordered : (o : Order) (s : List ℕ) → AllBytes s → AllBytes (ordered o s)
bytes_ordered little s p = p
bytes_ordered big s p = bytes_reverse s [] p tt

-- ---- bytes are the bytes of their number

pub le_read : (o : Order) (s : List ℕ) → Slice s → (at k : ℕ) → at + k ≤ length s → {r : ℕ} → r ≡ unle (ordered o (take k (drop at s))) → le k r ≡ ordered o (take k (drop at s))
le_read o s f at k h e =
    let v : List ℕ = ordered o (take k (drop at s)) in
    let l : length v ≡ k = length-ordered o (take k (drop at s)) ∙ length-take-le k (drop at s) (omega (arith, length-drop at s)) in
    ap (le k) e ∙ number_again v l (bytes_ordered o (take k (drop at s)) (bytes_take k (drop at s) (bytes_drop at s (slice_bytes s f))))

-- zero is zero bytes
pub le-zero : (k : ℕ) → le k 0 ≡ replicate k 0
unfolding le
le-zero zero = refl
le-zero (suc k) = ap (λ (r : List ℕ). 0 ∷ r) (le-zero k)

pub reverse_one : (s : List ℕ) → reverse (take 1 s) ≡ take 1 s
reverse_one [] = refl
reverse_one (x ∷ s) = refl

-- ---- the sizes of a word

pub word_no : (k : ℕ) → (k ≡ 1 → ⊥) → (k ≡ 2 → ⊥) → (k ≡ 4 → ⊥) → (k ≡ 8 → ⊥) → false ≡ word_test k
word_no k a b c d = rw (ne_eqb k 1 a, ne_eqb k 2 b, ne_eqb k 4 c, ne_eqb k 8 d)

pub word_eight : (k : ℕ) → word_test k ≡ true → (k ≡ 1 → ⊥) → (k ≡ 2 → ⊥) → (k ≡ 4 → ⊥) → k ≡ 8
word_eight k h a b c = eqb-true k 8 (rw (ne_eqb k 1 a, ne_eqb k 2 b, ne_eqb k 4 c) at h)

-- what holds of 1, 2, 4 and 8 holds of each
pub by_size : (P : ℕ → Type 0) → P 1 → P 2 → P 4 → P 8 → (k : ℕ) → word_test k ≡ true → P k
by_size P one two four eight k h =
    ⊎_elim (λ e. subst P (sym e.1) one) (λ a.
    ⊎_elim (λ e. subst P (sym e.1) two) (λ b.
    ⊎_elim (λ e. subst P (sym e.1) four) (λ c. subst P (sym (word_eight k h a.1 b.1 c.1)) eight)
    (eqb_tells k 4)) (eqb_tells k 2)) (eqb_tells k 1)
