-- docs/SPEC.md, S6.10, S6.11: an answer, which is what was asked for or the number of a refusal, and what a call leaves behind.
-- Assumes nothing.
use Rattle.std.specs.Prelude.{ℕ, zero, suc, Bool, true, false}

pub data Answer (A : Type 0) : Type 0 where
  gives : A → Answer A
  refuses : ℕ → Answer A

-- go on with what was given; a refusal stays
abbrev pub and_then : {A B : Type 0} → Answer A → (A → Answer B) → Answer B
and_then (gives a) f = f a
and_then (refuses k) f = refuses k

-- the rest where the test holds, else the refusal k
abbrev pub unless : {A : Type 0} → Bool → ℕ → Answer A → Answer A
unless true k r = r
unless false k r = refuses k

-- the same answer, of what was given only f
abbrev pub map_answer : {A B : Type 0} → (A → B) → Answer A → Answer B
map_answer f a = and_then a (λ x. gives (f x))

-- the first of two is number 0, the second number 1; another number is refusal 1
abbrev pub one_of : {A : Type 0} → A → A → ℕ → Answer A
one_of a b zero = gives a
one_of a b (suc zero) = gives b
one_of a b (suc (suc n)) = refuses 1

-- What a call leaves behind: its answer, in which success names the lengths L that were written, and the lent buffers B.
pub record Outcome (L B : Type 0) : Type 0 where
  pub answer : Answer L
  pub buffers : B
