-- A guest's edit behind its own four tests: of a hidden cell what its preview is refused by before 16, else 18; of any other cell the setting.
-- Assumes nothing.
use mathlib.Core.Path.{◌≡◌, refl, sym, ap, ◌∙◌}
use mathlib.Core.Bool.{Bool, true, false, not, ◌&&◌, false≢true}
use mathlib.Core.List.{List}
use Prim.Native.Nat.{ℕ}
use lib.ListN.{length}
use lib.Dec.{leb, ltb}
use Rattle.array.specs.Answer.{Answer, gives, refuses, unless, map_answer, Outcome}
use Rattle.array.specs.Kind.{Kind}
use Rattle.array.specs.Cells.{Value}
use Rattle.array.proofs.Rules.{left_of_lem, right_of, strict_bytes_ok}
use Rattle.table.specs.Table.{Table, table_kind_test, count_test, table_test, store_test}
use Rattle.table.specs.declared.lent.Setting.{Setting}
use Rattle.table.specs.Setting.{setting_test, setting_of, settled, sum_after}
use Rattle.table.specs.Calls.{looked_at, in_place, set_answer, cell_set, previewed}
use Rattle.table_kind.specs.Shape.{shape_answer}
use Rattle.table_kind.proofs.Forms.{shape_refused}
use Rattle.rights.specs.Rights.{rights_test, permits, masked_test}
use Rattle.rights.specs.Calls.{edit_answer, guest_edit}
use Rattle.rights.proofs.Editing.{edit_sets}
use Rattle.guest_edit.specs.Hidden.{hidden_number}

module _ (k : Kind) (n : ℕ) (rights : List ℕ) (t : Table) (u : Setting) where
  abbrev c : ℕ
  c = u.cell

  abbrev ms : List ℕ
  ms = u.masks.now

  abbrev v : Value
  v = u.value.now

  -- what an edit leaves behind, by its answer
  abbrev left : Answer Table → Outcome (Unit {0}) Table
  left a = record { answer = map_answer (λ u. tt) a; buffers = in_place a t }

  left_is : (a : Answer Table) → a ≡ edit_answer k n rights t c ms v → left a ≡ guest_edit k n rights t c ms v
  unfolding guest_edit
  left_is a e = ap left e

  pub unshaped : {m : ℕ} → shape_answer k n ≡ refuses m → left (refuses m) ≡ guest_edit k n rights t c ms v
  unfolding edit_answer
  unshaped {m} e = left_is (refuses m) (shape_refused k n e _)

  module _ (shaped : (table_kind_test k ≡ true) × (count_test n ≡ true)) where
    pub without_masks_lem : masked_test k ≡ false → left (refuses 17) ≡ guest_edit k n rights t c ms v
    unfolding edit_answer
    without_masks_lem e = left_is (refuses 17) (rw (shaped.0, shaped.1, e))

    module _ (some : masked_test k ≡ true) where
      pub no_plane : rights_test n rights ≡ false → left (refuses 4) ≡ guest_edit k n rights t c ms v
      unfolding edit_answer
      no_plane e = left_is (refuses 4) (rw (shaped.0, shaped.1, some, e))

      module _ (ok : rights_test n rights ≡ true) where
        -- the plane's length is the count
        pub of_count : {b : Bool} → b ≡ ltb c (length rights) && not (permits rights c) → b ≡ ltb c n && not (permits rights c)
        of_count e = e ∙ ap (λ (m : ℕ). ltb c m && not (permits rights c)) (strict_bytes_ok n rights ok).counted

        pub edit_hidden : {m : ℕ} → true ≡ ltb c n && not (permits rights c) → m ≡ hidden_number (previewed k n t c ms v)
            → left (refuses m) ≡ guest_edit k n rights t c ms v
        unfolding edit_answer previewed set_answer
        edit_hidden h e =
            ap (λ (m : ℕ). left (refuses m)) e
            ∙ left_is (refuses (hidden_number (previewed k n t c ms v)))
            (sym (rw (shaped.0, shaped.1, some, ok, left_of_lem (ltb c n) (not (permits rights c)) (sym h), flip (permits rights c) (right_of (ltb c n) (not (permits rights c)) (sym h)))
            (told (table_test k.depth n t && setting_test k.depth ms) (store_test t) (leb (sum_after k.depth c (setting_of k.depth ms v) t) (length t.store)))))
          where
            flip : (b : Bool) → not b ≡ true → b ≡ false
            flip true e = absurd (false≢true e)
            flip false e = refl

            told : (rules small fits : Bool)
                → ◌≡◌ {A = Answer Table} (unless rules 4 (unless small 5 (refuses 18)))
                (refuses (hidden_number (map_answer (looked_at n) (unless rules 4 (unless small 5 (unless fits 16 (gives (settled k.depth n c (setting_of k.depth ms v) t))))))))
            told true true true = refl
            told true true false = refl
            told true false fits = refl
            told false small fits = refl

        pub edit_shown : false ≡ ltb c n && not (permits rights c) → cell_set k n t c ms v ≡ guest_edit k n rights t c ms v
        unfolding cell_set edit_answer set_answer
        edit_shown h = left_is (set_answer k n t c ms v) (sym (go (ltb c n) (permits rights c) refl refl (sym h)))
          where
            go : (low shown : Bool) → ltb c n ≡ low → permits rights c ≡ shown → low && not shown ≡ false → edit_answer k n rights t c ms v ≡ set_answer k n t c ms v
            go true true l s e = edit_sets k n rights t c ms v some ok s
            go true false l s e = absurd (false≢true (sym e))
            go false s l q e = rw (some, ok, l) refl
