-- A preview is the setting made on a copy, and a look there: the law of previews.
-- Assumes nothing.
use mathlib.Core.Path.{◌≡◌, refl, ap, ◌∙◌}
use mathlib.Core.Bool.{◌&&◌}
use mathlib.Core.List.{List}
use Prim.Native.Nat.{ℕ, ◌≤◌, ◌<◌, min}
use native.Mathlib.Omega.{arith}
use lib.ListN.{length, length-take}
use lib.Dec.{leb, ltb}
use borrow.Author.Tests.{leb-true, ltb-true}
use Rattle.array.specs.Answer.{Answer, gives, refuses, map_answer}
use Rattle.array.specs.Kind.{Kind}
use Rattle.array.specs.Cells.{Value}
use Rattle.array.proofs.Answers.{passed, same_given}
use Rattle.array.proofs.Rules.{left_of_lem, right_of, strict_bytes_ok}
use Rattle.table.specs.Table.{Table, table_kind_test, count_test, table_test, store_test}
use Rattle.table.specs.Lying.{displaced}
use Rattle.table.specs.Setting.{SettingOk, setting_test, setting_of, sum_after}
use Rattle.table.specs.declared.answer.Preview.{Preview}
use Rattle.table.specs.Calls.{in_place, set_answer, cell_set, looked_at, previewed, cells_packed}
use Rattle.table.specs.Laws.{Working, Previews}
use Rattle.table.proofs.Rules.{table_kind_ok, count_ok, store_ok, table_ok}
use Rattle.table.proofs.Setting.{sets}
use Rattle.table.proofs.Packing.{packs}

-- ---- what a setting that is made was given

pub record Accepted (k : Kind) (n : ℕ) (t : Table) (c : ℕ) (ms : List ℕ) (v : Value) : Type 0 where
  pub working : Working k n t
  pub setting : SettingOk k.depth ms
  pub low : c < n
  pub fits : sum_after k.depth c (setting_of k.depth ms v) t ≤ length t.store

pub accepted : (k : Kind) (n : ℕ) (t : Table) (c : ℕ) (ms : List ℕ) (v : Value) {u : Table} → set_answer k n t c ms v ≡ gives u → Accepted k n t c ms v
unfolding set_answer
accepted k n t c ms v e =
    let (kind, e2) = passed (table_kind_test k) 1 _ e in
    let (count, e4) = passed (count_test n) 2 _ e2 in
    let (rules, e5) = passed (table_test k.depth n t && setting_test k.depth ms) 4 _ e4 in
    let (small, e15) = passed (store_test t) 5 _ e5 in
    let (low, e16) = passed (ltb c n) 15 _ e15 in
    let (fits, last) = passed (leb (sum_after k.depth c (setting_of k.depth ms v) t) (length t.store)) 16 _ e16 in
    record {
      working = record {
        kind = table_kind_ok k kind;
        count = count_ok n count;
        sound = table_ok k.depth n t (left_of_lem (table_test k.depth n t) (setting_test k.depth ms) rules);
        small = store_ok t small;
      };
      setting = strict_bytes_ok k.depth ms (right_of (table_test k.depth n t) (setting_test k.depth ms) rules);
      low = ltb-true c n low;
      fits = leb-true (sum_after k.depth c (setting_of k.depth ms v) t) (length t.store) fits;
    }

-- ---- the law, by the setting's answer

module _ (n : ℕ) (t : Table) where
  map_twice : (a : Answer Table) → map_answer {B = Unit {0}} (λ p. tt) (map_answer (looked_at n) a) ≡ map_answer (λ u. tt) a
  map_twice (gives u) = refl
  map_twice (refuses k) = refl

  looked : (a : Answer Table) → map_answer {B = Unit {0}} (λ u. tt) a ≡ gives tt → map_answer (looked_at n) a ≡ gives (looked_at n (in_place a t))
  looked (gives u) e = refl
  looked (refuses k) e = absurd (let never : ◌≡◌ {A = ℕ} 0 1 = cc in omega arith)

  -- a look that was given is one at the table after the setting
  seen : (a : Answer Table) {p : Preview} → map_answer (looked_at n) a ≡ gives p → (u : Table) × ((a ≡ gives u) × ((in_place a t ≡ u) × (looked_at n u ≡ p)))
  seen (gives u) e = (u, (refl, (refl, same_given e)))
  seen (refuses k) e = absurd (let never : ◌≡◌ {A = ℕ} 0 1 = cc in omega arith)

packing : (k : Kind) (n : ℕ) (t : Table) (c : ℕ) (ms : List ℕ) (v : Value) (p : Preview) (most : ℕ) → previewed k n t c ms v ≡ gives p → 1 ≤ most → most ≤ 256
    → (cells_packed k n (cell_set k n t c ms v).buffers most).answer ≡ gives (min most p.unpacked)
unfolding previewed cell_set
packing k n t c ms v p most e some few =
    let (u, (given, (there, look))) = seen n t (set_answer k n t c ms v) e in
    let a = accepted k n t c ms v given in
    let working = (sets k n t c ms v a.working a.setting a.low a.fits).working in
    let after = (cell_set k n t c ms v).buffers in
    (packs.once k n after most working some few).given
    ∙ ap gives (length-take most (displaced after n) ∙ ap (λ (w : Table). min most (length (displaced w n))) there ∙ ap (λ (q : Preview). min most q.unpacked) look)

pub previews : Previews
unfolding previewed cell_set
previews k n t c ms v = record {
  refusal = map_twice n t (set_answer k n t c ms v);
  looks = looked n t (set_answer k n t c ms v);
  packs = packing k n t c ms v;
}
