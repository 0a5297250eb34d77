-- What guest_read answers, one law for each way it ends: refusals 1 to 5, then 6 or what is seen.
-- Assumes nothing.
use mathlib.Core.Path.{◌≡◌, refl, sym, ap, ◌∙◌}
use mathlib.Core.Bool.{Bool, true, false}
use mathlib.Core.List.{List}
use Prim.Native.Nat.{ℕ}
use Rattle.std.specs.Prelude.{Result, Ok, Err}
use Rattle.array.specs.declared.refusal.Refusal.{Refusal}
use Rattle.array.specs.Meaning.{number_of, told}
use Rattle.array.specs.Answer.{Answer, gives, refuses, unless}
use Rattle.array.specs.Kind.{Kind, kind_test}
use Rattle.array.specs.Shape.{volume, shape_test}
use Rattle.array.specs.Content.{Content, unless_kept}
use Rattle.array.specs.Buffers.{lengths_of, enough_test, content_outcome, put_into}
use Rattle.array.proofs.Putting.{refused}
use Rattle.valid.specs.Check.{check_of}
use Rattle.valid.proofs.ShapeLaws.{Counted}
use Rattle.valid.proofs.CheckLaws.{check_refused, check_passed, check_valid}
use Rattle.rights.specs.Rights.{rights_test, masked_test, guest_form}
use Rattle.rights.specs.Calls.{guest_answer, guest_read}
use Rattle.guest_read.specs.Seen.{seen_content}
use Rattle.guest_read.proofs.Seen.{seen_is}

module _ (k : Kind) (shape rights : List ℕ) (c out : Content) where
  -- what is said once the plane has passed
  abbrev behind : ℕ → Answer Content
  behind n = unless_kept k n c (unless (enough_test (guest_form k n rights c) (lengths_of out)) 6 (gives (guest_form k n rights c)))

  answered : {n : ℕ} → n ≡ volume shape → {a b d e : Bool} → kind_test k ≡ a → shape_test shape ≡ b → masked_test k ≡ d → rights_test n rights ≡ e
      → guest_read k shape rights c out ≡ content_outcome (unless a 1 (unless b 2 (unless d 17 (unless e 4 (behind n))))) out
  unfolding guest_read guest_answer
  answered is {a} {b} {d} {e} p q r s =
      let s' : rights_test (volume shape) rights ≡ e = ap (λ (m : ℕ). rights_test m rights) (sym is) ∙ s in
      rw (p, q, r, s') (ap (λ (m : ℕ). content_outcome (unless a 1 (unless b 2 (unless d 17 (unless e 4 (behind m))))) out) (sym is))

  pub no_kind : kind_test k ≡ false → refused 1 out ≡ guest_read k shape rights c out
  no_kind p = sym (answered refl {b = shape_test shape} {d = masked_test k} {e = rights_test (volume shape) rights} p refl refl refl)

  module _ (p : kind_test k ≡ true) where
    pub no_shape : shape_test shape ≡ false → refused 2 out ≡ guest_read k shape rights c out
    no_shape q = sym (answered refl {d = masked_test k} {e = rights_test (volume shape) rights} p q refl refl)

    module _ {n : ℕ} (q : Counted shape n) where
      pub without_masks_lem : masked_test k ≡ false → refused 17 out ≡ guest_read k shape rights c out
      without_masks_lem r = sym (answered q.is {e = rights_test n rights} p q.passes r refl)

      module _ (r : masked_test k ≡ true) where
        pub no_plane : rights_test n rights ≡ false → refused 4 out ≡ guest_read k shape rights c out
        no_plane s = sym (answered q.is p q.passes r s)

        module _ (s : rights_test n rights ≡ true) where
          past : {a : Answer Content} → behind n ≡ a → content_outcome a out ≡ guest_read k shape rights c out
          past f = sym (answered q.is p q.passes r s ∙ ap (λ (a : Answer Content). content_outcome a out) f)

          abbrev rest : Answer Content
          rest = unless (enough_test (guest_form k n rights c) (lengths_of out)) 6 (gives (guest_form k n rights c))

          module _ {x : Result (Unit {0}) Refusal} (e : told x ≡ check_of k n c) where
            pub not_kept : (why : Refusal) → x ≡ Err why → refused (number_of why) out ≡ guest_read k shape rights c out
            not_kept why f = past {a = refuses (number_of why)} (check_refused k n c x e rest why f)

            pub kept : x ≡ Ok tt → put_into (seen_content k.form k.depth n rights c) out ≡ guest_read k shape rights c out
            kept f = ap (λ (y : Content). put_into y out) (seen_is rights (check_valid k n c x e f).array.fits) ∙ past (check_passed k n c x e f rest)
