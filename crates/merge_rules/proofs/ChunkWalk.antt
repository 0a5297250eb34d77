-- The checking walk over all chunks of a list: what holds at the head of the loop, a turn of it, and its ends.
-- Assumes nothing.
use mathlib.Core.Path.{◌≡◌, refl, sym, ap, ap₂, ◌∙◌}
use mathlib.Core.Logic.{◌≢◌}
use Prim.Native.Nat.{ℕ, ◌+◌, ◌-◌, ◌*◌, ◌≤◌}
use native.Mathlib.Omega.{arith}
use mathlib.Core.Bool.{Bool, true, false, ◌&&◌}
use mathlib.Core.List.{List, [], ◌∷◌}
use lib.ListN.{length, take, drop, length-drop}
use lib.Dec.{eqb}
use lib.Seq.{drop-drop, take_all}
use borrow.Author.Tests.{eq-eqb, ne_eqb, eqb-true, eqb-false}
use Rattle.array.specs.Answer.{refuses}
use Rattle.array.specs.Content.{Content, array_test}
use Rattle.array.specs.Kind.{Kind}
use Rattle.array.specs.Subset.{Subset, pairs}
use Rattle.array.proofs.LayoutLaws.{content_path}
use Rattle.subset.specs.Walk.{SubsetAsked}
use Rattle.subset.proofs.Rows.{asked_volume}
use Rattle.chunks.specs.Chunks.{first_chunk, later_chunks}
use Rattle.merge_rules.specs.Chunks.{takes, chunk_answer, chunks_test}
use Rattle.merge_rules.proofs.OneChunk.{Fitting, chunk_fits, chunk_bad}

-- what is left after so many masks, values and offsets, and as a call is lent it
abbrev pub left : Content → ℕ → ℕ → ℕ → Content
left c p v o = record { masks = drop p c.masks; values = drop v c.values; offsets = drop o c.offsets }

abbrev pub lent : Content → ℕ → ℕ → ℕ → Content
lent c p v o = record {
  masks = take (length c.masks - p) (drop p c.masks);
  values = take (length c.values - v) (drop v c.values);
  offsets = take (length c.offsets - o) (drop o c.offsets);
}

rest_part : (o : ℕ) (os : List ℕ) → take (length os - o) (drop o os) ≡ drop o os
rest_part o os = take_all (length os - o) (drop o os) (omega (arith, length-drop o os))

pub lent-left : (c : Content) (p v o : ℕ) → lent c p v o ≡ left c p v o
lent-left c p v o = content_path (rest_part p c.masks) (rest_part v c.values) (rest_part o c.offsets)

-- the chunks before those of `rest` keep the rules; the masks, values and offsets of the others begin at p, v and o
pub record Walked (k : Kind) (bs : List Subset) (c : Content) (rest : List Subset) (p v o : ℕ) : Type 0 where
  pub masks : p ≤ length c.masks
  pub values : v ≤ length c.values
  pub offsets : o ≤ length c.offsets
  pub same : chunks_test k bs c ≡ chunks_test k rest (left c p v o)

pub walked_begins : (k : Kind) (bs : List Subset) (c : Content) → Walked k bs c bs 0 0 0
walked_begins k bs c = record { masks = omega arith; values = omega arith; offsets = omega arith; same = refl }

module _ {k : Kind} {bs : List Subset} {c : Content} {rest : List Subset} {p v o : ℕ} (w : Walked k bs c rest p v o) where
  abbrev whole : Bool
  whole = chunks_test k bs c

  abbrev here : Content
  here = left c p v o

  -- ---- all chunks are done

  module _ (h : rest ≡ []) where
    done : {x y z : Bool} → eqb (length here.masks) 0 ≡ x → eqb (length here.values) 0 ≡ y → eqb (length here.offsets) 0 ≡ z → whole ≡ x && y && z
    done e₁ e₂ e₃ =
        w.same ∙ ap (λ (bs : List Subset). chunks_test k bs here) h
        ∙ ap₂ (λ (a b : Bool). a && b) (ap₂ (λ (a b : Bool). a && b) e₁ e₂) e₃

    none : {n : ℕ} (xs : List ℕ) → n ≡ length xs → eqb (length (drop n xs)) 0 ≡ true
    none {n} xs e = eq-eqb (length (drop n xs)) 0 (omega (arith, length-drop n xs))

    some : (n : ℕ) (xs : List ℕ) → n ≤ length xs → n ≢ length xs → eqb (length (drop n xs)) 0 ≡ false
    some n xs l e = ne_eqb (length (drop n xs)) 0 (λ z. e (omega (arith, z, length-drop n xs)))

    pub masks_left : p ≢ length c.masks → false ≡ whole
    masks_left e = sym (done {y = eqb (length here.values) 0} {z = eqb (length here.offsets) 0} (some p c.masks w.masks e) refl refl)

    module _ (ep : p ≡ length c.masks) where
      pub values_left_lem : v ≢ length c.values → false ≡ whole
      values_left_lem e = sym (done {z = eqb (length here.offsets) 0} (none c.masks ep) (some v c.values w.values e) refl)

      pub by_offsets : v ≡ length c.values → eqb o (length c.offsets) ≡ whole
      by_offsets ev = go (eqb o (length c.offsets)) refl
        where
          go : (b : Bool) → eqb o (length c.offsets) ≡ b → b ≡ whole
          go true t = sym (done (none c.masks ep) (none c.values ev) (none c.offsets (eqb-true o (length c.offsets) t)))
          go false t = sym (done (none c.masks ep) (none c.values ev) (some o c.offsets w.offsets (eqb-false o (length c.offsets) t)))

  -- ---- the first of the chunks that are left

  module _ {sh starts lens : List ℕ} {later : List Subset} (s : rest ≡ pairs starts lens ∷ later) {m : ℕ} (a : SubsetAsked sh starts lens m) where
    turn : {t : Bool} → array_test k m (first_chunk k m here) ≡ t → whole ≡ t && chunks_test k later (later_chunks k m here)
    turn et =
        w.same ∙ ap (λ (bs : List Subset). chunks_test k bs here) s
        ∙ ap (λ (n : ℕ). array_test k n (first_chunk k n here) && chunks_test k later (later_chunks k n here)) (asked_volume a)
        ∙ ap (λ (x : Bool). x && chunks_test k later (later_chunks k m here)) et

    pub walked_bad : refuses 4 ≡ chunk_answer k m (lent c p v o) → false ≡ whole
    walked_bad r = sym (turn (chunk_bad k m here (r ∙ ap (chunk_answer k m) (lent-left c p v o))))

    module _ {taken numbers : ℕ} (r : takes taken numbers ≡ chunk_answer k m (lent c p v o)) where
      fitting : Fitting k m here taken numbers
      fitting = chunk_fits k m here (r ∙ ap (chunk_answer k m) (lent-left c p v o))

      next : later_chunks k m here ≡ left c (p + k.depth * m) (v + taken) (o + numbers)
      next =
          let z = fitting.size in
          content_path (drop-drop (k.depth * m) p c.masks)
          (ap (λ (n : ℕ). drop n (drop v c.values)) (sym z.is_taken) ∙ drop-drop taken v c.values)
          (ap (λ (n : ℕ). drop n (drop o c.offsets)) (sym z.is_numbers) ∙ drop-drop numbers o c.offsets)

      pub walked_more : Walked k bs c later (p + k.depth * m) (v + taken) (o + numbers)
      walked_more = record {
        masks = omega (arith, fitting.held.masks, length-drop p c.masks, w.masks);
        values = omega (arith, fitting.held.values, fitting.size.is_taken, length-drop v c.values, w.values);
        offsets = omega (arith, fitting.held.offsets, fitting.size.is_numbers, length-drop o c.offsets, w.offsets);
        same = turn fitting.test ∙ ap (chunks_test k later) next;
      }
