-- Ragged values are read as they were written, for any width in which the offsets fit, and for both places.
-- Assumes nothing.
use mathlib.Core.Path.{◌≡◌, refl, sym, ap, ap₂, ◌∙◌}
use Prim.Native.Nat.{ℕ, suc, ◌+◌, ◌-◌, ◌*◌, ◌^◌, ◌<◌, ◌≤◌}
use native.Mathlib.Nat.{add_comm, mul_comm}
use native.Mathlib.Omega.{arith}
use mathlib.Core.List.{List, [], ◌∷◌, ◌++◌, map}
use lib.ListN.{length, length-append, length-map}
use lib.Seq.{take_at, drop_at}
use borrow.Author.Tests.{le-leb, eq-eqb}
use Rattle.array.specs.Answer.{gives}
use Rattle.array.specs.Limits.{most_bytes}
use Rattle.array.specs.Lists.{pieces, All}
use Rattle.array.specs.Bytes.{le, unle}
use Rattle.array.specs.Kind.{Place, at_start, at_end}
use Rattle.array.specs.Offsets.{last, Rising}
use Rattle.array.specs.Content.{RaggedContent}
use Rattle.array.proofs.Bytes.{length-le, unle-le}
use Rattle.array.proofs.Lists.{Sized, All-image, All-of, length-joined, pieces-joined}
use Rattle.array.proofs.Rules.{rising_test_lem}
use Rattle.codec.specs.Ragged.{put, part_of, left_of, index_of, put_ragged, get_ragged, check_ragged}

-- ---- a part at the start or at the end

pub length_put : (p : Place) (part s : List ℕ) → length (put p part s) ≡ length part + length s
length_put at_start part s = length-append part s
length_put at_end part s = length-append s part ∙ add_comm (length s) (length part)

pub part-put : (p : Place) (part s : List ℕ) (k : ℕ) → length part ≡ k → part_of p k (put p part s) ≡ part
part-put at_start part s k e = take_at part s k e
part-put at_end part s k e = drop_at s part (length (s ++ part) - k) (simp length-append (omega arith))

pub left-put : (p : Place) (part s : List ℕ) (k : ℕ) → length part ≡ k → left_of p k (put p part s) ≡ s
left-put at_start part s k e = drop_at part s k e
left-put at_end part s k e = take_at s part (length (s ++ part) - k) (simp length-append (omega arith))

-- ---- the index

all_le : (w : ℕ) (os : List ℕ) → Sized w (map (le w) os)
all_le w os = All-image (λ v. length v ≡ w) (le w) os (All-of (λ o. length (le w o) ≡ w) (length-le w) os)

pub length_index : (w : ℕ) (os : List ℕ) → length (index_of w os) ≡ w * length os
length_index w os = length-joined w (map (le w) os) (all_le w os) ∙ ap (λ (n : ℕ). n * w) (length-map os (le w)) ∙ mul_comm (length os) w

unle-map : (w : ℕ) (os : List ℕ) → All (λ o. o < 256 ^ w) os → map unle (map (le w) os) ≡ os
unle-map w [] p = refl
unle-map w (o ∷ os) p = ap₂ (λ (x : ℕ) (r : List ℕ). x ∷ r) (unle-le w o p.0) (unle-map w os p.1)

pub index_back : (w : ℕ) (os : List ℕ) → All (λ o. o < 256 ^ w) os → map unle (pieces w (length os) (index_of w os)) ≡ os
index_back w os p =
    ap (λ (n : ℕ). map unle (pieces w n (index_of w os))) (sym (length-map os (le w)))
    ∙ ap (map unle) (pieces-joined w (map (le w) os) (all_le w os)) ∙ unle-map w os p

-- ---- the round trip

pub check_gives : (os s : List ℕ) → last os ≡ length s → Rising os → last os ≤ most_bytes → check_ragged os s ≡ gives (record { values = s; offsets = os })
check_gives os s e p h = rw (eq-eqb (last os) (length s) e, rising_test_lem os p, le-leb (last os) most_bytes h)

-- for any width in which the offsets fit
pub back_ragged : (w : ℕ) (p : Place) (c : RaggedContent) (n : ℕ) → All (λ o. o < 256 ^ w) c.offsets → length c.offsets ≡ suc n → Rising c.offsets
    → last c.offsets ≡ length c.values → length c.values ≤ most_bytes → length (put_ragged w p c) < 256 ^ 8 → get_ragged w p (put_ragged w p c) n ≡ gives c
unfolding put_ragged get_ragged
back_ragged w p c n fit en r e h small =
    let os : List ℕ = c.offsets in
    let s : List ℕ = c.values in
    let index : List ℕ = index_of w os in
    let body : List ℕ = put p index s in
    let field : List ℕ = le 8 (length index) in
    let lf : length field ≡ 8 = length-le 8 (length index) in
    let li : length index ≡ w * suc n = length_index w os ∙ ap (λ (k : ℕ). w * k) en in
    let lb : length body ≡ length index + length s = length_put p index s in
    let lw : length (put p field body) ≡ length field + length body = length_put p field body in
    let eu : unle (part_of p 8 (put p field body)) ≡ length index = ap unle (part-put p field body 8 lf) ∙ unle-le 8 (length index) (omega arith) in
    let back : map unle (pieces w (suc n) index) ≡ os = ap (λ (k : ℕ). map unle (pieces w k index)) (sym en) ∙ index_back w os fit in
    rw (
      le-leb 8 (length (put p field body)) (omega arith),
      eu,
      left-put p field body 8 lf,
      le-leb (length index) (length body) (omega arith),
      eq-eqb (length index) (w * suc n) li,
      part-put p index s (length index) refl,
      left-put p index s (length index) refl,
    )
    (ap (λ (x : List ℕ). check_ragged x s) back ∙ check_gives os s e r (omega arith))
