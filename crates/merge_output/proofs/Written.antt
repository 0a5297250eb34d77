-- What a call with three outputs leaves behind, whatever content it gives: refusal 6 for each output that is too short, and the
-- content laid over outputs that are long enough.
-- Assumes nothing.
use mathlib.Core.Path.{◌≡◌, refl, sym, ap, ap₂, ◌∙◌}
use Prim.Native.Nat.{ℕ, ◌<◌, ◌≤◌}
use native.Mathlib.Omega.{arith}
use mathlib.Core.Bool.{Bool, true, false, ◌&&◌}
use mathlib.Core.List.{List}
use lib.ListN.{length}
use lib.Dec.{leb}
use borrow.Author.Tests.{le-leb, lt-leb}
use Rattle.array.specs.Answer.{Answer, gives, refuses, unless, Outcome}
use Rattle.array.specs.Content.{Content}
use Rattle.array.specs.declared.answer.Lengths.{Lengths}
use Rattle.array.specs.Buffers.{lengths_of, enough_test, over, content_outcome}
use Rattle.array.specs.Outcome.{content_array}
use Rattle.array.proofs.LayoutLaws.{content_path}

and_false : (a : Bool) → a && false ≡ false
and_false true = refl
and_false false = refl

module _ (m old : Content) {a b : ℕ} (e : ℕ) (ea : length m.masks ≡ a) (eb : length m.values ≡ b) (ee : length m.offsets ≡ e) where
  -- 6, or the content
  abbrev pub lent : Answer Content
  lent = unless (enough_test m (lengths_of old)) 6 (gives m)

  abbrev refused : Outcome Lengths Content
  refused = record { answer = refuses 6; buffers = old }

  tested : {x y z : Bool} → leb (length m.masks) (length old.masks) ≡ x → leb (length m.values) (length old.values) ≡ y
      → leb (length m.offsets) (length old.offsets) ≡ z → content_outcome lent old ≡ content_outcome (unless (x && y && z) 6 (gives m)) old
  tested p q r = rw (p, q, r)

  pub short_masks : length old.masks < a → refused ≡ content_outcome lent old
  short_masks h =
      let y : Bool = leb (length m.values) (length old.values) in
      let z : Bool = leb (length m.offsets) (length old.offsets) in
      sym (tested {y = y} {z = z} (lt-leb (length m.masks) (length old.masks) (omega arith)) refl refl)

  pub short_values : length old.values < b → refused ≡ content_outcome lent old
  short_values h =
      let x : Bool = leb (length m.masks) (length old.masks) in
      let z : Bool = leb (length m.offsets) (length old.offsets) in
      sym (tested {x = x} {z = z} refl (lt-leb (length m.values) (length old.values) (omega arith)) refl
      ∙ ap (λ (t : Bool). content_outcome (unless (t && z) 6 (gives m)) old) (and_false x))

  pub short_offsets : length old.offsets < e → refused ≡ content_outcome lent old
  short_offsets h =
      let x : Bool = leb (length m.masks) (length old.masks) in
      let y : Bool = leb (length m.values) (length old.values) in
      sym (tested {x = x} {y = y} refl refl (lt-leb (length m.offsets) (length old.offsets) (omega arith))
      ∙ ap (λ (t : Bool). content_outcome (unless t 6 (gives m)) old) (and_false (x && y)))

  pub written : a ≤ length old.masks → b ≤ length old.values → e ≤ length old.offsets → {ms vs os : List ℕ}
      → ms ≡ over m.masks old.masks → vs ≡ over m.values old.values → os ≡ over m.offsets old.offsets
      → record { answer = gives (record { masks = a; values = b; offsets = e }); buffers = content_array ms vs os } ≡ content_outcome lent old
  written ha hb he em ev eo =
      let named : ◌≡◌ {A = Lengths} (record { masks = a; values = b; offsets = e }) (lengths_of m) = lengths_path (sym ea) (sym eb) (sym ee) in
      ap₂ (λ (l : Lengths) (c : Content). record { answer = gives l; buffers = c }) named (content_path em ev eo)
      ∙ sym (tested (le-leb (length m.masks) (length old.masks) (omega arith)) (le-leb (length m.values) (length old.values) (omega arith))
      (le-leb (length m.offsets) (length old.offsets) (omega arith)))
    where
      lengths_path : {p p' q q' r r' : ℕ} → p ≡ p' → q ≡ q' → r ≡ r' → ◌≡◌ {A = Lengths} (record { masks = p; values = q; offsets = r }) (record { masks = p'; values = q'; offsets = r' })
      lengths_path {p} {p'} {q} {q'} {r} {r'} x y z = rw (x, y, z)
