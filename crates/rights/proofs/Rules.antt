-- The rule that a kind has masks, and its test.
-- Assumes nothing.
use mathlib.Core.Path.{◌≡◌}
use mathlib.Core.Bool.{true}
use Prim.Native.Nat.{◌<◌}
use borrow.Author.Tests.{lt-ltb, ltb-true}
use Rattle.array.specs.Kind.{Kind}
use Rattle.rights.specs.Rights.{masked_test}

pub masked_test_lem : (k : Kind) → 0 < k.depth → masked_test k ≡ true
masked_test_lem k h = lt-ltb 0 k.depth h

pub masked_ok : (k : Kind) → masked_test k ≡ true → 0 < k.depth
masked_ok k e = ltb-true 0 k.depth e
