-- docs/SPEC.md, S1.11, S11.10: every mask byte that `decode` gives is 00 or 01.
-- So behind its check the third answer of the reading of a mask byte does not come.
-- Assumes nothing.
use Rattle.std.specs.Prelude.{◌≡◌, List, ℕ}
use Rattle.array.specs.Answer.{gives}
use Rattle.array.specs.Kind.{Kind}
use Rattle.array.specs.Content.{Content, MasksOk}
use Rattle.array.specs.declared.answer.Lengths.{Lengths}
use Rattle.codec.specs.Calls.{decode_answer}

abbrev pub ReadStrict : Type 0
ReadStrict = (k : Kind) (shape s : List ℕ) (room : Lengths) (c : Content) → decode_answer k shape s room ≡ gives c → MasksOk c
