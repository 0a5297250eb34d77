-- Each refusal of the call exactly when it is due.
-- Assumes nothing.
use Rattle.array.specs.Buffers.{lengths_of}
use Rattle.array.specs.Refusals.{success}
use Rattle.array.proofs.Refusals.{stage, named}
use Rattle.array.proofs.Rules.{kind_test_lem, kind_ok, shape_test_lem, shape_ok, enough_test_lem, enough_ok}
use Rattle.load.specs.Load.{load_of}
use Rattle.load.specs.Calls.{generate_answer, generated}
use Rattle.load.specs.Refusals.{Refusals}

pub refusals : Refusals
unfolding generated generate_answer
refusals = record {
  generate = λ k shape s out. named lengths_of
      (stage 1 (kind_test_lem k) (kind_ok k)
      (stage 2 (shape_test_lem shape) (shape_ok shape)
      (stage 6 (enough_test_lem (load_of k shape s) (lengths_of out)) (enough_ok (load_of k shape s) (lengths_of out)) success)));
}
