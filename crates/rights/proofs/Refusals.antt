-- Each refusal of guests' calls exactly when it is due.
-- Assumes nothing.
use borrow.Author.Tests.{lt-ltb, ltb-true}
use Rattle.array.specs.Shape.{volume}
use Rattle.array.specs.Buffers.{lengths_of}
use Rattle.array.specs.Refusals.{success}
use Rattle.array.proofs.Refusals.{stage, stage_le, stage_array, named}
use Rattle.array.proofs.Rules.{kind_test_lem, kind_ok, shape_test_lem, shape_ok, strict_bytes_test_lem, strict_bytes_ok, enough_test_lem, enough_ok}
use Rattle.table.proofs.Rules.{table_kind_test_lem, table_kind_ok, count_test_lem, count_ok, store_test_lem, store_ok, table_test_lem, table_ok}
use Rattle.table.proofs.Refusals.{stage_two}
use Rattle.rights.specs.Rights.{guest_form}
use Rattle.rights.specs.Calls.{guest_answer, guest_read, edit_answer, guest_edit}
use Rattle.rights.specs.Refusals.{Refusals}
use Rattle.rights.proofs.Rules.{masked_test_lem, masked_ok}

pub refusals : Refusals
unfolding guest_read guest_answer guest_edit edit_answer
refusals = record {
  guest_read_call = λ k shape rights c out. named lengths_of
      (stage 1 (kind_test_lem k) (kind_ok k)
      (stage 2 (shape_test_lem shape) (shape_ok shape)
      (stage 17 (masked_test_lem k) (masked_ok k)
      (stage 4 (strict_bytes_test_lem (volume shape) rights) (strict_bytes_ok (volume shape) rights)
      (stage_array k (volume shape) c
      (stage 6 (enough_test_lem (guest_form k (volume shape) rights c) (lengths_of out)) (enough_ok (guest_form k (volume shape) rights c) (lengths_of out)) success))))));
  guest_edit_call = λ k n rights t c ms v. named (λ u. tt)
      (stage 1 (table_kind_test_lem k) (table_kind_ok k)
      (stage 2 (count_test_lem n) (count_ok n)
      (stage 17 (masked_test_lem k) (masked_ok k)
      (stage 4 (strict_bytes_test_lem n rights) (strict_bytes_ok n rights)
      (stage_two 4 (table_test_lem k.depth n t) (table_ok k.depth n t) (strict_bytes_test_lem k.depth ms) (strict_bytes_ok k.depth ms)
      (stage 5 (store_test_lem t) (store_ok t)
      (stage 15 (lt-ltb c n) (ltb-true c n)
      (stage 18 (λ p. p) (λ p. p)
      (stage_le 16 _ _ success)))))))));
}
