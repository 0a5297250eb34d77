-- Redundant by the law edit_hidden in guest_edit/proofs/Hiding.antt: what refuses the setting of a hidden cell (S6.24), told by a preview of it.
-- Assumes nothing.
use Rattle.std.specs.Prelude.{ℕ, eqb}
use Rattle.array.specs.Answer.{Answer, gives, refuses}
use Rattle.array.specs.Lists.{pick}
use Rattle.table.specs.declared.answer.Preview.{Preview}

abbrev pub hidden_number : Answer Preview → ℕ
hidden_number (gives p) = 18
hidden_number (refuses k) = pick (eqb k 16) 18 k
