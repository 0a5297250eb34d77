-- Masks and values that are read: they keep the rules, and written they are the same stored bytes.
-- Assumes nothing.
use mathlib.Core.Path.{◌≡◌, refl, sym, ap, ap₂, ◌∙◌, subst}
use Prim.Native.Nat.{ℕ, ◌-◌, ◌*◌, ◌^◌, ◌<◌, ◌≤◌}
use native.Mathlib.Nat.{zero-lt-suc}
use native.Mathlib.Omega.{arith}
use mathlib.Core.Bool.{true}
use mathlib.Core.List.{List, [], ◌∷◌, ◌++◌, map}
use lib.ListN.{length, take, drop, replicate, length-map, length-drop, take-append-drop}
use lib.Seq.{length-take-le}
use lib.Dec.{eqb}
use borrow.Author.Tests.{eqb-true}
use Rattle.array.specs.Answer.{gives}
use Rattle.array.specs.Limits.{most_bytes}
use Rattle.array.specs.Lists.{joined, pieces, All}
use Rattle.array.specs.Bytes.{digits, number, AllBytes}
use Rattle.array.specs.Kind.{Masks, as_bytes, as_bits, Form, fixed, ragged, ordered}
use Rattle.array.specs.Offsets.{slices}
use Rattle.array.specs.Cells.{Value, Strict, strict_test}
use Rattle.array.specs.Content.{RaggedContent, end_to_end, unmasked}
use Rattle.array.proofs.Answers.{passed, went_on, same_given}
use Rattle.array.proofs.Bytes.{number_digits, digits_below}
use Rattle.array.proofs.Lists.{All-map, All-append, All-of, All-take, length-pieces, pieces-joined, joined-pieces, sized-pieces}
use Rattle.array.proofs.Rules.{all_every, strict_ok}
use Rattle.array.proofs.Sizes.{OfSize, SizedAs}
use Rattle.array.proofs.LayoutLaws.{values_length_lem}
use Rattle.codec.specs.Mask.{MaskForm, mask_form, bytes_for, padded, pack_bits, bits_of}
use Rattle.codec.specs.Ragged.{put_ragged, get_ragged}
use Rattle.codec.specs.Values.{put_values, get_values}
use Rattle.codec.proofs.Masks.{Bits, sized-digits, length_bits, bits_strict, zeros_of}
use Rattle.codec.proofs.Values.{ordered_twice, sized-ordered}
use Rattle.codec.proofs.Accepted.{ragged_ok, read_fits, ragged_again}
use Rattle.codec.proofs.Flat.{again}

-- ---- masks

-- so many mask bytes, each 00 or 01, and written they are s
pub record MaskAgain (mf : MaskForm) (n : ℕ) (s ms : List ℕ) : Type 0 where
  pub counted : length ms ≡ n
  pub strict : All Strict ms
  pub written : mf.put ms ≡ s

bits_below : (s : List ℕ) → Bits (bits_of s)
bits_below [] = tt
bits_below (b ∷ s) = All-append (λ x. x < 2) (digits 2 8 b) (bits_of s) (digits_below 2 (zero-lt-suc 1) 8 b) (bits_below s)

numbers_again : (s : List ℕ) → AllBytes s → map (number 2) (map (digits 2 8) s) ≡ s
numbers_again [] b = refl
numbers_again (x ∷ s) b = ap₂ (λ (y : ℕ) (r : List ℕ). y ∷ r) (number_digits 2 (zero-lt-suc 1) 8 x b.0) (numbers_again s b.1)

-- whole bytes of bits, packed
pack_again : (s : List ℕ) → AllBytes s → map (number 2) (pieces 8 (length s) (bits_of s)) ≡ s
pack_again s b =
    ap (λ (n : ℕ). map (number 2) (pieces 8 n (bits_of s))) (sym (length-map s (digits 2 8)))
    ∙ ap (map (number 2)) (pieces-joined 8 (map (digits 2 8) s) (sized-digits s)) ∙ numbers_again s b

pub mask_again : (x : Masks) (n : ℕ) (s : List ℕ) → AllBytes s → length s ≡ (mask_form x).size n → (mask_form x).test s n ≡ true
    → MaskAgain (mask_form x) n s ((mask_form x).said s n)
mask_again as_bytes n s b l e = record { counted = l; strict = all_every Strict strict_test strict_ok s e; written = refl }
mask_again as_bits n s b l e =
    let bits : List ℕ = bits_of s in
    let said : List ℕ = take n bits in
    let lb : length bits ≡ length s * 8 = length_bits s in
    let ls : length said ≡ n = length-take-le n bits (omega (arith, lb, l)) in
    let strict : All Strict said = All-take Strict n bits (All-map (λ x. x < 2) Strict (λ x h. omega arith) bits (bits_below s)) in
    let rest : drop n bits ≡ replicate (bytes_for n * 8 - n) 0 =
    zeros_of (drop n bits) e ∙ ap (λ (k : ℕ). replicate k 0) (length-drop n bits ∙ ap (λ (k : ℕ). k - n) (lb ∙ ap (λ (k : ℕ). k * 8) l)) in
    let whole : padded said ≡ bits =
    ap (λ (k : ℕ). said ++ replicate (bytes_for k * 8 - k) 0) ls ∙ ap (λ (r : List ℕ). said ++ r) (sym rest) ∙ take-append-drop n bits in
    record {
      counted = ls;
      strict = strict;
      written = ap pack_bits (bits_strict said strict) ∙ ap₂ (λ (k : ℕ) (r : List ℕ). map (number 2) (pieces 8 k r)) (ap bytes_for ls ∙ sym l) whole ∙ pack_again s b;
    }

-- ---- values

-- of the form's size, and where the form does not say how many bytes, few, and no more than the width carries
abbrev Few : Form → List Value → Type 0
Few (fixed k o) vs = Unit {0}
Few (ragged w p) vs = (length (joined vs) ≤ most_bytes) × (length (joined vs) < 256 ^ w)

abbrev pub Fit : Form → List Value → Type 0
Fit f vs = SizedAs f vs × Few f vs

-- so many values that fit, and written they are s
pub record ValuesAgain (f : Form) (n : ℕ) (s : List ℕ) (vs : List Value) : Type 0 where
  pub counted : length vs ≡ n
  pub fit : Fit f vs
  pub written : put_values f vs ≡ s

pub values_again : (f : Form) (n : ℕ) (s : List ℕ) {vs : List Value} → AllBytes s → get_values f s n ≡ gives vs → ValuesAgain f n s vs
unfolding get_values put_values
values_again (fixed k o) n s b e =
    let us : List Value = pieces k n s in
    let p = passed (eqb (length s) (n * k)) 8 (gives (map (ordered o) us)) e in
    let l : length s ≡ n * k = eqb-true (length s) (n * k) p.0 in
    subst (ValuesAgain (fixed k o) n s) (same_given p.1) (record {
      counted = length-map us (ordered o) ∙ length-pieces k n s;
      fit = (sized-ordered k o us (sized-pieces k n s l), tt);
      written = ap joined (ordered_twice o us) ∙ joined-pieces k n s l;
    })
values_again (ragged w p) n s b e =
    let g = went_on (get_ragged w p s n) (λ x. gives (slices x.offsets x.values)) e in
    let c : RaggedContent = g.0 in
    let us : List Value = slices c.offsets c.values in
    let ok = ragged_ok w p s n c g.1.0 in
    let same : end_to_end us ≡ c = again c ok.0 ok.1 ok.2 in
    subst (ValuesAgain (ragged w p) n s) (same_given g.1.1) (record {
      counted = values_length_lem (ragged w p) n (unmasked c) (ok.0, ok.1, ok.2);
      fit = (
        All-of (OfSize (ragged w p)) (λ v. tt) us,
        subst (λ (x : RaggedContent). (length x.values ≤ most_bytes) × (length x.values < 256 ^ w)) (sym same) (ok.3, read_fits w p s n c g.1.0 b),
      );
      written = ap (put_ragged w p) same ∙ ragged_again w p s n c g.1.0 b;
    })
