-- Reading under two planes is reading under what both show (specs/Laws, Twice).
-- Assumes nothing.
use mathlib.Core.Path.{◌≡◌, refl, sym, ap, ap₂, ◌∙◌}
use Prim.Native.Nat.{ℕ, suc, ◌<◌}
use native.Mathlib.Omega.{arith}
use mathlib.Core.Bool.{Bool, true, false, ◌&&◌}
use mathlib.Core.List.{List, [], ◌∷◌}
use lib.ListN.{length}
use Rattle.array.specs.Answer.{Outcome}
use Rattle.array.specs.Lists.{pick, All}
use Rattle.array.specs.Kind.{Kind}
use Rattle.array.specs.Cells.{Strict, set_test}
use Rattle.array.specs.Shape.{volume}
use Rattle.array.specs.Content.{Content, Valid, layout, cells_of}
use Rattle.array.specs.declared.answer.Lengths.{Lengths}
use Rattle.array.specs.Buffers.{put_into, taken}
use Rattle.rights.specs.Rights.{RightsOk, guest_form}
use Rattle.rights.specs.Calls.{guest_read}
use Rattle.rights.proofs.Seeing.{shows}
use Rattle.chunks.specs.ReadThenCut.{next_call}
use Rattle.rights_laws.specs.Planes.{both}
use Rattle.rights_laws.specs.Laws.{Seen, read_then_read, Twice}
use Rattle.rights_laws.proofs.Seen.{veiled, veiled_twice, veiled_again, form_is, form_cells, read_puts, next_put}

length-both : (rs ss : List ℕ) → length rs ≡ length ss → length (both rs ss) ≡ length ss
length-both [] ss e = e
length-both (r ∷ rs) [] e = absurd (omega arith)
length-both (r ∷ rs) (s ∷ ss) e = ap suc (length-both rs ss (omega arith))

both_strict : (rs ss : List ℕ) → All Strict (both rs ss)
both_strict [] ss = tt
both_strict (r ∷ rs) [] = tt
both_strict (r ∷ rs) (s ∷ ss) = (one (set_test r && set_test s), both_strict rs ss)
  where
    one : (b : Bool) → Strict (pick b 1 0)
    one true = omega arith
    one false = omega arith

both_ok : {n : ℕ} {rs ss : List ℕ} → RightsOk n rs → RightsOk n ss → RightsOk n (both rs ss)
both_ok {n} {rs} {ss} p q = record { counted = length-both rs ss (p.counted ∙ sym q.counted) ∙ q.counted; strict = both_strict rs ss }

both_turned : (rs ss : List ℕ) → both rs ss ≡ both ss rs
both_turned [] [] = refl
both_turned [] (s ∷ ss) = refl
both_turned (r ∷ rs) [] = refl
both_turned (r ∷ rs) (s ∷ ss) = ap₂ (λ (x : ℕ) (l : List ℕ). x ∷ l) (one (set_test r) (set_test s)) (both_turned rs ss)
  where
    one : (a b : Bool) → ◌≡◌ {A = ℕ} (pick (a && b) 1 0) (pick (b && a) 1 0)
    one true true = refl
    one true false = refl
    one false true = refl
    one false false = refl

module _ {k : Kind} {shape : List ℕ} {c : Content} (v : Valid k shape c) (some : 0 < k.depth) where
  abbrev n : ℕ
  n = volume shape

  -- what is seen of what was seen
  form_twice : {r s : List ℕ} → RightsOk n r → RightsOk n s → guest_form k n s (guest_form k n r c) ≡ guest_form k n (both r s) c
  form_twice {r} {s} p q =
      let w : Valid k shape (guest_form k n r c) = (shows k shape r c v some p).valid in
      form_is w.content w.small some s q.counted
      ∙ ap (layout k.form k.depth) (ap (veiled k s) (form_cells v.content v.small some r p.counted) ∙ veiled_twice k r s (cells_of k n c))
      ∙ sym (form_is v.content v.small some (both r s) (both_ok p q).counted)

  read_both : {r s : List ℕ} → RightsOk n r → RightsOk n s → (seen out : Content) → Seen k shape r c seen
      → read_then_read k shape r s c seen out ≡ guest_read k shape (both r s) c out
  read_both {r} {s} p q seen out e =
      let w : Valid k shape (guest_form k n r c) = (shows k shape r c v some p).valid in
      ap (λ (o : Outcome Lengths Content). next_call (taken o) (λ x. guest_read k shape s x out) out) (read_puts v some p seen)
      ∙ next_put seen e (λ x. guest_read k shape s x out) out ∙ read_puts w some q out ∙ ap (λ (x : Content). put_into x out) (form_twice p q)
      ∙ sym (read_puts v some (both_ok p q) out)

  form_again : {r : List ℕ} → RightsOk n r → guest_form k n (both r r) c ≡ guest_form k n r c
  form_again {r} p =
      form_is v.content v.small some (both r r) (both_ok p p).counted ∙ ap (layout k.form k.depth) (veiled_again k r (cells_of k n c))
      ∙ sym (form_is v.content v.small some r p.counted)

pub twice : Twice
twice k shape r s c v some p q = record {
  first = read_both v some p q;
  second = λ seen out e. read_both v some q p seen out e ∙ ap (λ (x : List ℕ). guest_read k shape x c out) (both_turned s r);
  again = λ seen out e.
      read_both v some p p seen out e ∙ read_puts v some (both_ok p p) out ∙ ap (λ (x : Content). put_into x out) (form_again v some p)
      ∙ sym (read_puts v some p out);
}
