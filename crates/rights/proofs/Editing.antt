-- A guest's edit is the setting of a cell that the plane shows, changes no cell that it hides, and tells only how full a table is (specs/Laws, Edits).
-- Assumes nothing.
use mathlib.Core.Path.{◌≡◌, refl, sym, ap, ◌∙◌, subst}
use mathlib.Core.Logic.{◌⊎◌, inl, inr}
use mathlib.Core.Bool.{Bool, true, false, ◌&&◌, false≢true}
use mathlib.Core.List.{List}
use Prim.Native.Nat.{ℕ, ◌<◌}
use lib.ListN.{length}
use lib.Dec.{leb, ltb, eqb}
use borrow.Author.Tests.{ne_eqb}
use Rattle.array.specs.Answer.{Answer, gives, refuses, unless, map_answer}
use Rattle.array.specs.Lists.{pick}
use Rattle.array.specs.Kind.{Kind}
use Rattle.array.specs.Cells.{Value}
use Rattle.array.proofs.Answers.{passed}
use Rattle.array.proofs.Rules.{strict_bytes_test_lem}
use Rattle.table.specs.Table.{Table, cell_of, table_kind_test, count_test, table_test, store_test}
use Rattle.table.specs.Setting.{setting_test, setting_of, sum_after}
use Rattle.table.specs.Calls.{in_place, set_answer, cell_set}
use Rattle.table.specs.Laws.{Working}
use Rattle.table.proofs.Rules.{table_test_lem, store_test_lem}
use Rattle.table.proofs.Setting.{sets}
use Rattle.table.proofs.Previewing.{accepted}
use Rattle.rights.specs.Rights.{rights_test, permits, masked_test}
use Rattle.rights.specs.Calls.{edit_answer, guest_edit}
use Rattle.rights.specs.Laws.{Edits}
use Rattle.rights.proofs.Rules.{masked_test_lem}

module _ (k : Kind) (n : ℕ) (rights : List ℕ) (t : Table) (c : ℕ) (ms : List ℕ) (v : Value) where
  -- ---- of a cell that is shown it is the setting

  pub edit_sets : masked_test k ≡ true → rights_test n rights ≡ true → permits rights c ≡ true → edit_answer k n rights t c ms v ≡ set_answer k n t c ms v
  unfolding edit_answer set_answer
  edit_sets some ok shown = rw (some, ok, shown) refl

  -- ---- an edit that was made was one of a cell that is shown

  pub edited : {u : Table} → edit_answer k n rights t c ms v ≡ gives u → (permits rights c ≡ true) × (set_answer k n t c ms v ≡ gives u)
  unfolding edit_answer
  edited e =
      let (kind, e2) = passed (table_kind_test k) 1 _ e in
      let (count, e17) = passed (count_test n) 2 _ e2 in
      let (some, e4) = passed (masked_test k) 17 _ e17 in
      let (ok, e4') = passed (rights_test n rights) 4 _ e4 in
      let (rules, e5) = passed (table_test k.depth n t && setting_test k.depth ms) 4 _ e4' in
      let (small, e15) = passed (store_test t) 5 _ e5 in
      let (low, e18) = passed (ltb c n) 15 _ e15 in
      let (shown, e16) = passed (permits rights c) 18 _ e18 in
      (shown, sym (edit_sets some ok shown) ∙ e)

  -- ---- no cell that is hidden changes

  edit_leaves : (j : ℕ) → j < n → permits rights j ≡ false → (a : Answer Table) → edit_answer k n rights t c ms v ≡ a
      → cell_of k.depth n (in_place a t) j ≡ cell_of k.depth n t j
  unfolding cell_set
  edit_leaves j h hidden (refuses m) e = refl
  edit_leaves j h hidden (gives u) e =
      let (shown, made) = edited e in
      let was = accepted k n t c ms v made in
      let law = sets k n t c ms v was.working was.setting was.low was.fits in
      let other : eqb j c ≡ false = ne_eqb j c (λ q. false≢true (sym hidden ∙ ap (permits rights) q ∙ shown)) in
      ap (λ (a : Answer Table). cell_of k.depth n (in_place a t) j) (sym made)
      ∙ law.cells j h
      ∙ ap (λ (b : Bool). pick b (setting_of k.depth ms v) (cell_of k.depth n t j)) other

-- ---- what it tells of a table that keeps the rules

-- two answers that are the same, or of which one is 16
abbrev Alike : Answer (Unit {0}) → Answer (Unit {0}) → Type 0
Alike a b = (a ≡ b) ⊎ (a ≡ refuses 16) ⊎ (b ≡ refuses 16)

alike_behind : (t : Bool) (k : ℕ) {a b : Answer (Unit {0})} → Alike a b → Alike (unless t k a) (unless t k b)
alike_behind true k p = p
alike_behind false k p = inl refl

alike_full : (s t : Bool) → Alike (unless s 16 (gives tt)) (unless t 16 (gives tt))
alike_full true true = inl refl
alike_full false t = inr (inl refl)
alike_full true false = inr (inr refl)

module _ (k : Kind) (n : ℕ) (rights : List ℕ) (c : ℕ) (ms : List ℕ) (v : Value) where
  -- the answer as far as it goes by the table: whether the bytes fit
  abbrev told_by_lem : Bool → Answer (Unit {0})
  told_by_lem fits =
      unless (table_kind_test k) 1 (unless (count_test n) 2 (unless (masked_test k) 17 (unless (rights_test n rights) 4 (unless (setting_test k.depth ms) 4
      (unless (ltb c n) 15 (unless (permits rights c) 18 (unless fits 16 (gives tt))))))))

  map-unless : {A : Type 0} (t : Bool) (m : ℕ) (a : Answer A) → map_answer {B = Unit {0}} (λ u. tt) (unless t m a) ≡ unless t m (map_answer (λ u. tt) a)
  map-unless true m a = refl
  map-unless false m a = refl

  abbrev fits : Table → Bool
  fits t = leb (sum_after k.depth c (setting_of k.depth ms v) t) (length t.store)

  told : (t : Table) → Working k n t → (guest_edit k n rights t c ms v).answer ≡ told_by_lem (fits t)
  unfolding guest_edit edit_answer
  told t w =
      rw (table_test_lem k.depth n t w.sound, store_test_lem t w.small)
      (map-unless (table_kind_test k) 1 _ ∙ ap (unless (table_kind_test k) 1)
      (map-unless (count_test n) 2 _ ∙ ap (unless (count_test n) 2)
      (map-unless (masked_test k) 17 _ ∙ ap (unless (masked_test k) 17)
      (map-unless (rights_test n rights) 4 _ ∙ ap (unless (rights_test n rights) 4)
      (map-unless (setting_test k.depth ms) 4 _ ∙ ap (unless (setting_test k.depth ms) 4)
      (map-unless (ltb c n) 15 _ ∙ ap (unless (ltb c n) 15)
      (map-unless (permits rights c) 18 _ ∙ ap (unless (permits rights c) 18)
      (map-unless (fits t) 16 _))))))))

  alike_told : (s t : Bool) → Alike (told_by_lem s) (told_by_lem t)
  alike_told s t =
      alike_behind (table_kind_test k) 1 (alike_behind (count_test n) 2 (alike_behind (masked_test k) 17 (alike_behind (rights_test n rights) 4
      (alike_behind (setting_test k.depth ms) 4 (alike_behind (ltb c n) 15 (alike_behind (permits rights c) 18 (alike_full s t)))))))

  edit_tells : (t t' : Table) → Working k n t → Working k n t' → Alike (guest_edit k n rights t c ms v).answer (guest_edit k n rights t' c ms v).answer
  edit_tells t t' w w' =
      subst (λ (a : Answer (Unit {0})). Alike a (guest_edit k n rights t' c ms v).answer) (sym (told t w))
      (subst (Alike (told_by_lem (fits t))) (sym (told t' w')) (alike_told (fits t) (fits t')))

pub edits : Edits
unfolding guest_edit cell_set
edits k n rights t c ms v = record {
  sets = λ some ok shown.
      ap (λ (a : Answer Table). record { answer = map_answer (λ u. tt) a; buffers = in_place a t })
      (edit_sets k n rights t c ms v (masked_test_lem k some) (strict_bytes_test_lem n rights ok) shown);
  leaves = λ j h hidden. edit_leaves k n rights t c ms v j h hidden (edit_answer k n rights t c ms v) refl;
  tells = λ t' w w'. edit_tells k n rights c ms v t t' w w';
}
