-- The call's stages: not small, and then what the states give or refuse.
use Rattle.std.proofs.Common.{◌≡◌, ℕ, Bool, true, false, ltb, sym, ap, ◌∙◌}
use Rattle.array.specs.Answer.{Answer, gives, unless, and_then}
use Rattle.array.specs.Content.{Content}
use Rattle.array.specs.Buffers.{lengths_of, enough_test, if_room, content_outcome, read_outcome}
use Rattle.array.proofs.Answers.{then_unless}
use Rattle.array.proofs.Putting.{refused}
use Rattle.arrange.specs.Arrangement.{arrangement, arrangement_count}
use Rattle.arrange.specs.Calls.{small_test, arrangement_answer, arranged}

module _ (d n k : ℕ) (out : Content) where
  abbrev stored : Content → Answer Content
  stored c = if_room (enough_test c (lengths_of out)) c

  abbrev counted : Answer Content → Answer Content
  counted a = unless (ltb k (arrangement_count d n)) 19 a

  pub not_small : small_test d n ≡ false → refused 1 out ≡ arranged d n k out
  unfolding arranged arrangement_answer
  not_small e = ap (λ (b : Bool). content_outcome (unless b 1 (counted (stored (arrangement d n k)))) out) (sym e)

  pub from_states : small_test d n ≡ true → {a : Answer Content} → a ≡ counted (gives (arrangement d n k)) → read_outcome out a ≡ arranged d n k out
  unfolding arranged arrangement_answer
  from_states e {a} s =
      ap (λ (x : Answer Content). content_outcome x out)
      (ap (λ (x : Answer Content). and_then x stored) s ∙ then_unless (ltb k (arrangement_count d n)) 19 (arrangement d n k) stored
      ∙ ap (λ (b : Bool). unless b 1 (counted (stored (arrangement d n k)))) (sym e))
