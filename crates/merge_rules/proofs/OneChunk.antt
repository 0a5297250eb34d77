-- The check of one chunk: what a chunk that keeps the rules says of what is left, and one law for each answer.
-- Assumes nothing.
use mathlib.Core.Path.{◌≡◌, refl, sym, ap, ◌∙◌}
use Prim.Native.Nat.{ℕ, suc, ◌+◌, ◌-◌, ◌*◌, ◌<◌, ◌≤◌}
use native.Mathlib.Numerals.{add-one}
use native.Mathlib.Omega.{arith}
use mathlib.Core.Bool.{Bool, true, false, not}
use mathlib.Core.List.{List}
use lib.ListN.{length, get_or, take}
use lib.Dec.{leb}
use borrow.Author.Tests.{leb-true, leb-false, le-leb, lt-leb, not-true, not-false}
use Rattle.array.specs.Answer.{refuses, unless}
use Rattle.array.specs.Content.{Content, ContentOk, ValuesOk, array_test}
use Rattle.array.specs.Kind.{Kind, Form, fixed, ragged, Order, Place}
use Rattle.array.specs.Outcome.{content_array}
use Rattle.array.proofs.Answers.{passed, same_given}
use Rattle.array.proofs.Rules.{array_ok}
use Rattle.valid.proofs.CheckLaws.{small_product}
use Rattle.chunks.specs.Chunks.{offset_count, first_chunk}
use Rattle.merge_stores.proofs.RaggedTies.{last-take, take_long}
use Rattle.merge_rules.specs.Chunks.{chunk_taken, takes, chunk_takes, size_answer, chunk_answer}

-- ---- what a chunk takes, by its offsets

pub record Sized (f : Form) (m : ℕ) (os : List ℕ) (taken numbers : ℕ) : Type 0 where
  pub is_taken : taken ≡ chunk_taken f m os
  pub is_numbers : numbers ≡ offset_count f m

sized : (f : Form) (m : ℕ) (os : List ℕ) {taken numbers : ℕ} → chunk_takes f m os ≡ takes taken numbers → Sized f m os taken numbers
sized f m os e = record { is_taken = sym (ap (λ (x : ℕ × ℕ). x.0) (same_given e)); is_numbers = sym (ap (λ (x : ℕ × ℕ). x.1) (same_given e)) }

module _ (m : ℕ) (os : List ℕ) where
  pub size_fixed : (k : ℕ) (o : Order) → takes (m * k) 0 ≡ size_answer (fixed k o) m os
  size_fixed k o = simp (le-leb 0 (length os) (omega arith))

  module _ (w : ℕ) (p : Place) where
    pub size_bad : length os ≤ m → refuses 4 ≡ size_answer (ragged w p) m os
    size_bad h = simp (lt-leb (suc m) (length os) (omega arith))

    pub size_ragged : m < length os → takes (get_or os m 0) (m + 1) ≡ size_answer (ragged w p) m os
    size_ragged h = simp (le-leb (suc m) (length os) h, last-take os m h, add-one m)

module _ (f : Form) (m : ℕ) (os : List ℕ) where
  pub size_known : {taken numbers : ℕ} → takes taken numbers ≡ size_answer f m os → Sized f m os taken numbers × (numbers ≤ length os)
  size_known e =
      let t = passed (leb (offset_count f m) (length os)) 4 (chunk_takes f m os) (sym e) in
      let s = sized f m os t.1 in (s, omega (arith, s.is_numbers, leb-true (offset_count f m) (length os) t.0))

  pub size_lacking : refuses 4 ≡ size_answer f m os → length os < offset_count f m
  size_lacking e = go (leb (offset_count f m) (length os)) refl e
    where
      go : (b : Bool) → leb (offset_count f m) (length os) ≡ b → refuses 4 ≡ unless b 4 (chunk_takes f m os) → length os < offset_count f m
      go true t e = let z : ◌≡◌ {A = ℕ} 0 1 = cc in absurd (omega arith)
      go false t e = leb-false (offset_count f m) (length os) t

-- ---- a chunk that keeps the rules: what is left holds it

pub record Holds (k : Kind) (m : ℕ) (c : Content) : Type 0 where
  pub masks : k.depth * m ≤ length c.masks
  pub values : chunk_taken k.form m c.offsets ≤ length c.values
  pub offsets : offset_count k.form m ≤ length c.offsets

values_held : (f : Form) (m : ℕ) (ms vs os : List ℕ) → ValuesOk f m (content_array ms (take (chunk_taken f m os) vs) (take (offset_count f m) os))
    → (chunk_taken f m os ≤ length vs) × (offset_count f m ≤ length os)
values_held (fixed k o) m ms vs os v = (take_long vs v.0, omega arith)
values_held (ragged w p) m ms vs os v = (take_long vs (sym v.2), take_long os v.0)

-- ---- what the answer says of a chunk

pub record Fitting (k : Kind) (m : ℕ) (c : Content) (taken numbers : ℕ) : Type 0 where
  pub test : array_test k m (first_chunk k m c) ≡ true
  pub held : Holds k m c
  pub size : Sized k.form m c.offsets taken numbers

module _ (k : Kind) (m : ℕ) (c : Content) where
  abbrev test : Bool
  test = array_test k m (first_chunk k m c)

  holds : test ≡ true → Holds k m c
  holds t =
      let ok : ContentOk k m (first_chunk k m c) = (array_ok k m (first_chunk k m c) t).fits in
      let v = values_held k.form m (take (k.depth * m) c.masks) c.values c.offsets ok.values_fit in
      record { masks = take_long c.masks ok.masks_fit; values = v.0; offsets = v.1 }

  answered : {b : Bool} → b ≡ test → unless b 4 (chunk_takes k.form m c.offsets) ≡ chunk_answer k m c
  unfolding chunk_answer
  answered e = ap (λ (x : Bool). unless x 4 (chunk_takes k.form m c.offsets)) e

  pub chunk_fits : {taken numbers : ℕ} → takes taken numbers ≡ chunk_answer k m c → Fitting k m c taken numbers
  chunk_fits e =
      let t = passed test 4 (chunk_takes k.form m c.offsets) (answered {b = test} refl ∙ sym e) in
      record { test = t.0; held = holds t.0; size = sized k.form m c.offsets t.1 }

  pub chunk_bad : refuses 4 ≡ chunk_answer k m c → test ≡ false
  chunk_bad e = go test refl (e ∙ sym (answered {b = test} refl))
    where
      go : (b : Bool) → test ≡ b → refuses 4 ≡ unless b 4 (chunk_takes k.form m c.offsets) → test ≡ false
      go true t e = let z : ◌≡◌ {A = ℕ} 0 1 = cc in absurd (omega arith)
      go false t e = t

  -- ---- one law for each answer

  pub chunk_lacks : (Holds k m c → ⊥) → refuses 4 ≡ chunk_answer k m c
  chunk_lacks n = go test refl
    where
      go : (b : Bool) → test ≡ b → refuses 4 ≡ chunk_answer k m c
      go true t = absurd (n (holds t))
      go false t = answered (sym t)

  module _ {taken numbers : ℕ} (s : Sized k.form m c.offsets taken numbers) {keeps : Bool}
      (e : keeps ≡ array_test k m (content_array (take (k.depth * m - 0) c.masks) (take (taken - 0) c.values) (take (numbers - 0) c.offsets))) where
    -- the slices are the chunk's own
    own : keeps ≡ test
    own =
        let whole : (n : ℕ) → n - 0 ≡ n = λ n. omega arith in
        let v : taken - 0 ≡ chunk_taken k.form m c.offsets = whole taken ∙ s.is_taken in
        let o : numbers - 0 ≡ offset_count k.form m = whole numbers ∙ s.is_numbers in
        e ∙ (λ i. array_test k m (content_array (take (whole (k.depth * m) i) c.masks) (take (v i) c.values) (take (o i) c.offsets)))

    pub chunk_breaks : not keeps ≡ true → refuses 4 ≡ chunk_answer k m c
    chunk_breaks h = answered (sym (not-true keeps h) ∙ own)

    pub chunk_keeps : not keeps ≡ false → takes taken numbers ≡ chunk_answer k m c
    chunk_keeps h = (λ i. takes (s.is_taken i) (s.is_numbers i)) ∙ answered (sym (not-false keeps h) ∙ own)

pub ruleset chunk_laws = (small_product, size_known, size_lacking, chunk_lacks)
