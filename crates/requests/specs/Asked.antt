-- Redundant: no promise of a call rests on it, only the gate's programs do. What requests ask for by numbers: the kind.
-- Assumes nothing.
use Rattle.std.specs.Prelude.{◌≡◌, false, Result, Ok, Err}
use Rattle.array.specs.declared.kind.Kind as declared
use Rattle.array.specs.declared.refusal.Refusal.{Refusal}
use Rattle.array.specs.Answer.{Answer, gives, refuses}
use Rattle.array.specs.Kind.{Kind, kind_test}
use Rattle.array.specs.Meaning.{kind_of, number_of}
use Rattle.valid.specs.Numbers.{told_kind}

-- the refusal e, or a kind that is out of range
abbrev pub Beyond : Result declared.Kind Refusal → Refusal → Type 0
Beyond (Err n) e = n ≡ e
Beyond (Ok k) e = kind_test (kind_of k) ≡ false

-- the kind that numbers say; else their refusal, or a kind that is out of range
abbrev pub Asked : Answer Kind → Result declared.Kind Refusal → Type 0
Asked (gives k) r = told_kind r ≡ gives k
Asked (refuses e) (Err n) = number_of n ≡ e
Asked (refuses e) (Ok k) = kind_test (kind_of k) ≡ false
