-- A result laid into the lent outputs: which of them is too short, or that all was written.
-- Assumes nothing.
use mathlib.Core.Path.{◌≡◌, refl, sym, ap, ◌∙◌}
use mathlib.Core.Bool.{Bool, true, false}
use Prim.Native.Nat.{ℕ, ◌≤◌, ◌<◌}
use native.Mathlib.Omega.{arith}
use mathlib.Core.List.{List}
use lib.ListN.{length}
use Rattle.array.specs.Answer.{gives, refuses, unless, Outcome}
use Rattle.array.specs.Content.{Content}
use Rattle.array.specs.declared.answer.Lengths.{Lengths}
use Rattle.array.specs.Buffers.{lengths_of, Enough, enough_test, over, content_outcome, put_into}
use Rattle.array.specs.Outcome.{content_array}
use Rattle.array.proofs.Rules.{enough_test_lem, enough_ok}

-- nothing is stored
abbrev pub refused : ℕ → Content → Outcome Lengths Content
refused number out = record { answer = refuses number; buffers = out }

module _ (c out : Content) where
  not_enough : (Enough c (lengths_of out) → ⊥) → refused 6 out ≡ put_into c out
  not_enough f = go (enough_test c (lengths_of out)) refl
    where
      go : (b : Bool) → enough_test c (lengths_of out) ≡ b → refused 6 out ≡ put_into c out
      go true e = absurd (f (enough_ok c (lengths_of out) e))
      go false e = ap (λ (b : Bool). content_outcome (unless b 6 (gives c)) out) (sym e)

  pub without_masks_lem : (m : ℕ) → length c.masks ≡ m → length out.masks < m → refused 6 out ≡ put_into c out
  without_masks_lem m e h = not_enough (λ r. omega (arith, r.for_masks))

  pub no_values : (v : ℕ) → length c.values ≡ v → length out.values < v → refused 6 out ≡ put_into c out
  no_values v e h = not_enough (λ r. omega (arith, r.for_values))

  pub no_offsets : (o : ℕ) → length c.offsets ≡ o → length out.offsets < o → refused 6 out ≡ put_into c out
  no_offsets o e h = not_enough (λ r. omega (arith, r.for_offsets))

  pub put : (m v o : ℕ) → length c.masks ≡ m → length c.values ≡ v → length c.offsets ≡ o
      → m ≤ length out.masks → v ≤ length out.values → o ≤ length out.offsets
      → (ms vs os : List ℕ) → ms ≡ over c.masks out.masks → vs ≡ over c.values out.values → os ≡ over c.offsets out.offsets
      → ◌≡◌ {A = Outcome Lengths Content} (record { answer = gives (record { masks = m; values = v; offsets = o }); buffers = content_array ms vs os }) (put_into c out)
  put m v o em ev eo hm hv ho ms vs os rm rv ro =
      let t : enough_test c (lengths_of out) ≡ true =
      enough_test_lem c (lengths_of out) (record { for_masks = omega arith; for_values = omega arith; for_offsets = omega arith }) in
      (λ i. record { answer = gives (record { masks = sym em i; values = sym ev i; offsets = sym eo i }); buffers = content_array (rm i) (rv i) (ro i) })
      ∙ ap (λ (b : Bool). content_outcome (unless b 6 (gives c)) out) (sym t)
