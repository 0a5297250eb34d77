-- Redundant by the law field_value in buffer/proofs/Fields.antt: a field of stored bytes, or the refusal (S7.4).
-- Assumes nothing.
use Rattle.std.specs.Prelude.{ℕ, ◌-◌, List, length, take, drop, leb}
use Rattle.array.specs.Answer.{Answer, gives, unless}
use Rattle.array.specs.Bytes.{unle}

-- the number in the w bytes at `at`, the lowest first; refusal e where the bytes do not reach so far
unfoldable pub field_at : ℕ → ℕ → List ℕ → ℕ → Answer ℕ
field_at w e s at = unless (leb w (length s - at)) e (gives (unle (take w (drop at s))))
