-- Each refusal of the calls on a working table exactly when it is due.
-- Assumes nothing.
use mathlib.Core.Path.{◌≡◌}
use mathlib.Core.Bool.{Bool, true, ◌&&◌}
use mathlib.Core.List.{List, ◌∷◌}
use Prim.Native.Nat.{ℕ}
use lib.ListN.{length}
use borrow.Author.Tests.{lt-ltb, ltb-true}
use Rattle.array.specs.Answer.{Answer, unless}
use Rattle.array.specs.Kind.{Kind}
use Rattle.array.specs.Cells.{Value}
use Rattle.array.specs.Content.{rest_form}
use Rattle.array.specs.Buffers.{lengths_of}
use Rattle.array.specs.Refusals.{Rule, InOrder, success}
use Rattle.array.proofs.Refusals.{stage, stage_le, stage_array, named}
use Rattle.array.proofs.Rules.{both, left_of_lem, right_of, enough_test_lem, enough_ok, strict_bytes_test_lem, strict_bytes_ok}
use Rattle.table.specs.Table.{Table}
use Rattle.table.specs.Lying.{moved_cells}
use Rattle.table.specs.Calls.{table_of, table_lengths, content_of, make_answer, made, read_answer, read_out, set_answer, cell_set, looked_at, previewed, pack_answer, cells_packed}
use Rattle.table.specs.Refusals.{set_rules, Refusals}
use Rattle.table.proofs.Rules.{table_kind_test_lem, table_kind_ok, most_test_lem, most_ok, count_test_lem, count_ok, store_test_lem, store_ok}
use Rattle.table.proofs.Rules.{table_test_lem, table_ok, table_enough_test_lem, table_enough_ok}

-- two tests with one number
pub stage_two : {A : Type 0} {P Q : Type 0} {a b : Bool} {rs : List Rule} {r : Answer A} (k : ℕ) → (P → a ≡ true) → (a ≡ true → P) → (Q → b ≡ true) → (b ≡ true → Q)
    → InOrder rs r → InOrder ((k, P × Q) ∷ rs) (unless (a && b) k r)
stage_two {a = a} {b = b} k test ok test' ok' h = stage k (λ p. both (test p.0) (test' p.1)) (λ e. (ok (left_of_lem a b e), ok' (right_of a b e))) h

-- of a setting, made or previewed
of_setting : (k : Kind) (n : ℕ) (t : Table) (c : ℕ) (ms : List ℕ) (v : Value) → InOrder (set_rules k n t c ms v) (set_answer k n t c ms v)
unfolding set_answer
of_setting k n t c ms v =
    stage 1 (table_kind_test_lem k) (table_kind_ok k)
    (stage 2 (count_test_lem n) (count_ok n)
    (stage_two 4 (table_test_lem k.depth n t) (table_ok k.depth n t) (strict_bytes_test_lem k.depth ms) (strict_bytes_ok k.depth ms)
    (stage 5 (store_test_lem t) (store_ok t)
    (stage 15 (lt-ltb c n) (ltb-true c n)
    (stage_le 16 _ _ success)))))

pub refusals : Refusals
unfolding made make_answer read_out read_answer cell_set previewed cells_packed pack_answer
refusals = record {
  make = λ k n c out. named table_lengths
      (stage 1 (table_kind_test_lem k) (table_kind_ok k)
      (stage 2 (count_test_lem n) (count_ok n)
      (stage_array k n c
      (stage 5 (store_test_lem out) (store_ok out)
      (stage 6 (table_enough_test_lem (table_of n (rest_form k n c)) (table_lengths out)) (table_enough_ok (table_of n (rest_form k n c)) (table_lengths out)) success)))));
  read = λ k n t out. named lengths_of
      (stage 1 (table_kind_test_lem k) (table_kind_ok k)
      (stage 2 (count_test_lem n) (count_ok n)
      (stage 4 (table_test_lem k.depth n t) (table_ok k.depth n t)
      (stage 5 (store_test_lem t) (store_ok t)
      (stage 6 (enough_test_lem (content_of k n t) (lengths_of out)) (enough_ok (content_of k n t) (lengths_of out)) success)))));
  set = λ k n t c ms v. named (λ u. tt) (of_setting k n t c ms v);
  preview = λ k n t c ms v. named (looked_at n) (of_setting k n t c ms v);
  pack = λ k n t most. named (λ u. length (moved_cells most n t))
      (stage_two 1 (table_kind_test_lem k) (table_kind_ok k) (most_test_lem most) (most_ok most)
      (stage 2 (count_test_lem n) (count_ok n)
      (stage 4 (table_test_lem k.depth n t) (table_ok k.depth n t)
      (stage 5 (store_test_lem t) (store_ok t) success))));
}
