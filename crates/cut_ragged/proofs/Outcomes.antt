-- What a cut needs, and what it answers: 6, or all of it.
-- Assumes nothing.
use mathlib.Core.Path.{◌≡◌, refl, sym, ap, ◌∙◌}
use mathlib.Core.Bool.{Bool, true, false}
use Prim.Native.Nat.{ℕ, ◌+◌, ◌≤◌, ◌<◌}
use native.Mathlib.Omega.{arith}
use mathlib.Core.List.{List}
use lib.ListN.{length, drop, length-drop, length-map}
use Rattle.array.specs.Answer.{gives, refuses, unless, Outcome}
use Rattle.array.specs.Lists.{joined}
use Rattle.array.specs.Shape.{volume}
use Rattle.array.specs.Offsets.{offsets_of}
use Rattle.array.specs.Content.{RaggedContent}
use Rattle.array.specs.declared.answer.RaggedLengths.{RaggedLengths}
use Rattle.array.specs.Buffers.{ragged_lengths_of, RaggedEnough, ragged_enough_test, over, ragged_outcome}
use Rattle.array.specs.Outcome.{content_ragged}
use Rattle.array.specs.Places.{value_at, bytes_at}
use Rattle.array.proofs.Offsets.{length-ends}
use Rattle.array.proofs.Places.{bytes_long}
use Rattle.array.proofs.Rules.{ragged_enough_test_lem, ragged_enough_ok}
use Rattle.subset.specs.Cells.{cells_of}
use Rattle.subset.specs.declared.walk.Subset.{Subset}
use Rattle.subset.proofs.Rows.{asked_below, asked_count, asked_few}
use Rattle.cut_ragged.specs.declared.RaggedValues.{RaggedValues}
use Rattle.cut_ragged.specs.Source.{begins_in, values_in, Holds, put_ragged}

-- ---- what it needs

module _ (src : RaggedValues) (subset : Subset) (d : Holds src (volume subset.shape.now)) where
  pub need_values : length (joined (values_in src (cells_of subset))) ≡ bytes_at (begins_in src) (cells_of subset)
  need_values =
      bytes_long d.rises (drop src.base src.bytes.now) (omega (arith, length-drop src.base src.bytes.now, d.data_room)) (cells_of subset) (asked_below subset.asked)

  pub need_offsets : length (offsets_of (values_in src (cells_of subset))) ≡ subset.count + 1
  need_offsets =
      omega (arith, length-ends 0 (values_in src (cells_of subset)), length-map (cells_of subset) (value_at (begins_in src) (drop src.base src.bytes.now)), asked_count subset.asked)

-- ---- what it answers

-- nothing is stored
abbrev pub refused : ℕ → RaggedContent → Outcome RaggedLengths RaggedContent
refused number old = record { answer = refuses number; buffers = old }

module _ (c old : RaggedContent) where
  by_test : {b : Bool} → ragged_enough_test c (ragged_lengths_of old) ≡ b → ragged_outcome (unless b 6 (gives c)) old ≡ put_ragged c old
  by_test e = ap (λ (x : Bool). ragged_outcome (unless x 6 (gives c)) old) (sym e)

  not_enough : (RaggedEnough c (ragged_lengths_of old) → ⊥) → refused 6 old ≡ put_ragged c old
  not_enough f = go (ragged_enough_test c (ragged_lengths_of old)) refl
    where
      go : (b : Bool) → ragged_enough_test c (ragged_lengths_of old) ≡ b → refused 6 old ≡ put_ragged c old
      go true e = absurd (f (ragged_enough_ok c (ragged_lengths_of old) e))
      go false e = by_test e

  pub no_values : {v : ℕ} → length c.values ≡ v → length old.values < v → refused 6 old ≡ put_ragged c old
  no_values e h = not_enough (λ r. omega (arith, r.for_values))

  pub no_offsets : {o : ℕ} → length c.offsets ≡ o → length old.offsets < o → refused 6 old ≡ put_ragged c old
  no_offsets e h = not_enough (λ r. omega (arith, r.for_offsets))

  pub all_put : {v o : ℕ} → length c.values ≡ v → length c.offsets ≡ o → v ≤ length old.values → o ≤ length old.offsets
      → {values offsets : List ℕ} → values ≡ over c.values old.values → offsets ≡ over c.offsets old.offsets
      → ◌≡◌ {A = Outcome RaggedLengths RaggedContent} (record { answer = gives (record { values = v; offsets = o }); buffers = content_ragged values offsets }) (put_ragged c old)
  all_put ev eo hv ho rv ro =
      (λ i. record { answer = gives (record { values = sym ev i; offsets = sym eo i }); buffers = content_ragged (rv i) (ro i) })
      ∙ by_test (ragged_enough_test_lem c (ragged_lengths_of old) (record { for_values = omega arith; for_offsets = omega arith }))

pub ruleset cut_laws = (asked_few, need_values, need_offsets, no_values, no_offsets)
