-- Redundant by the law check_then in valid/proofs/CheckLaws.antt: the check of an array whose kind and shape are sound (refusals 4 and 5).
-- Assumes nothing.
use Rattle.std.specs.Prelude.{ℕ}
use Rattle.array.specs.Answer.{Answer, gives}
use Rattle.array.specs.Kind.{Kind}
use Rattle.array.specs.Content.{Content, unless_kept}

abbrev pub check_of : Kind → ℕ → Content → Answer (Unit {0})
check_of k n c = unless_kept k n c (gives tt)
