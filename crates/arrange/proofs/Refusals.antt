-- Each refusal of the call exactly when it is due.
-- Assumes nothing.
use mathlib.Core.Path.{◌≡◌}
use mathlib.Core.Bool.{Bool, true, ◌&&◌}
use Prim.Native.Nat.{ℕ}
use lib.Dec.{leb}
use borrow.Author.Tests.{le-leb, leb-true, lt-ltb, ltb-true}
use Rattle.array.specs.Buffers.{lengths_of}
use Rattle.array.specs.Refusals.{success}
use Rattle.array.proofs.Refusals.{stage, named}
use Rattle.array.proofs.Rules.{both, left_of_lem, right_of, enough_test_lem, enough_ok}
use Rattle.arrange.specs.Arrangement.{arrangement_count, arrangement}
use Rattle.arrange.specs.Calls.{SmallOk, small_test, arrangement_answer, arranged}
use Rattle.arrange.specs.Refusals.{Refusals}

pub small_test_lem : (d n : ℕ) → SmallOk d n → small_test d n ≡ true
small_test_lem d n p = both (both (le-leb d 2 p.shallow) (le-leb 1 n p.some_cells)) (le-leb n 4 p.few_cells)

small_ok : (d n : ℕ) → small_test d n ≡ true → SmallOk d n
small_ok d n e =
    let a : Bool = leb d 2 in
    let b : Bool = leb 1 n in
    let c : Bool = leb n 4 in
    let e2 : a && b ≡ true = left_of_lem (a && b) c e in
    record {
      shallow = leb-true d 2 (left_of_lem a b e2);
      some_cells = leb-true 1 n (right_of a b e2);
      few_cells = leb-true n 4 (right_of (a && b) c e);
    }

pub refusals : Refusals
unfolding arranged arrangement_answer
refusals = record {
  arrange = λ d n k out. named lengths_of
      (stage 1 (small_test_lem d n) (small_ok d n)
      (stage 19 (lt-ltb k (arrangement_count d n)) (ltb-true k (arrangement_count d n))
      (stage 6 (enough_test_lem (arrangement d n k) (lengths_of out)) (enough_ok (arrangement d n k) (lengths_of out)) success)));
}
