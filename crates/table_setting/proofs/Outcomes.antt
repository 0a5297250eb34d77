-- The answer of a setting, by where it ends: a refusal, each in its turn, or what a table that keeps its rules gives.
-- Assumes nothing.
use mathlib.Core.Path.{◌≡◌, sym, ap₂, ◌∙◌, subst}
use mathlib.Core.Bool.{true, false}
use mathlib.Core.List.{List}
use Prim.Native.Nat.{ℕ, ◌≤◌}
use native.Mathlib.Omega.{arith}
use lib.ListN.{length}
use lib.Dec.{leb, ltb}
use Rattle.array.specs.Answer.{gives, refuses, unless}
use Rattle.array.specs.Kind.{Kind}
use Rattle.array.specs.Meaning.{kind_of}
use Rattle.array.proofs.Rules.{both, strict_bytes_ok}
use Rattle.table.specs.Table.{Table, TableOk, table_test, store_test}
use Rattle.table.specs.Setting.{SettingOk, setting_test, setting_of, settled, sum_after}
use Rattle.table.specs.Calls.{set_answer}
use Rattle.table.proofs.Rules.{table_kind_ok, count_ok, table_test_lem}
use Rattle.table.specs.declared.lent.Setting.{Setting}
use Rattle.table_kind.specs.declared.TableShape.{TableShape}
use Rattle.table_kind.specs.Shape.{shape_answer}
use Rattle.table_kind.proofs.Forms.{shape_refused}
use Rattle.table_setting.specs.Settle.{Sound, setting_answer}

module _ (k : Kind) (n : ℕ) (t : Table) (u : Setting) where
  -- a kind or a count of which there are no tables
  pub unshaped : {m : ℕ} → shape_answer k n ≡ refuses m → refuses m ≡ set_answer k n t u.cell u.masks.now u.value.now
  unfolding set_answer
  unshaped e = shape_refused k n e _

module _ (s : TableShape) (t : Table) (u : Setting) where
  abbrev k : Kind
  k = kind_of s.kind

  abbrev ms : List ℕ
  ms = u.masks.now

  pub broken : table_test k.depth s.cells t ≡ false → refuses 4 ≡ set_answer k s.cells t u.cell ms u.value.now
  unfolding set_answer
  broken e = rw (s.sound, s.counted, e)

  module _ (ok : TableOk k.depth s.cells t) where
    pub bad_setting : setting_test k.depth ms ≡ false → refuses 4 ≡ set_answer k s.cells t u.cell ms u.value.now
    unfolding set_answer
    bad_setting e = rw (s.sound, s.counted, table_test_lem k.depth s.cells t ok, e)

    module _ (e : setting_test k.depth ms ≡ true) where
      setting : SettingOk k.depth ms
      setting = strict_bytes_ok k.depth ms e

      -- table and setting keep their rules
      pub sound : {room : ℕ} → s.cells ≤ room → Sound room t ms
      sound h =
          let table : TableOk (length ms) (length t.starts) t =
          subst (λ (d : ℕ). TableOk d (length t.starts) t) (sym setting.counted) (subst (λ (m : ℕ). TableOk k.depth m t) (sym ok.starts_fit) ok) in
          record {
            table = table;
            setting = subst (λ (d : ℕ). SettingOk d ms) (sym setting.counted) setting;
            few = omega (arith, ok.starts_fit, (count_ok s.cells s.counted).1);
            shallow = omega (arith, setting.counted, (table_kind_ok k s.sound).sound.shallow);
            order = omega (arith, ok.starts_fit);
          }

      pub answer_is : setting_answer u.cell ms u.value.now t ≡ set_answer k s.cells t u.cell ms u.value.now
      unfolding set_answer
      answer_is =
          ap₂ (λ (d m : ℕ). unless (store_test t) 5 (unless (ltb u.cell m) 15
          (unless (leb (sum_after d u.cell (setting_of d ms u.value.now) t) (length t.store)) 16 (gives (settled d m u.cell (setting_of d ms u.value.now) t)))))
          setting.counted ok.starts_fit
          ∙ rw (s.sound, s.counted, both (table_test_lem k.depth s.cells t ok) e)
