-- A guest learns nothing of the cells that its plane hides (specs/Laws, Conceals).
-- Assumes nothing.
use mathlib.Core.Path.{◌≡◌, refl, sym, ap, ◌∙◌}
use mathlib.Core.Bool.{Bool, true, false}
use mathlib.Core.List.{List}
use Prim.Native.Nat.{ℕ, ◌<◌}
use native.Mathlib.Omega.{arith}
use lib.ListN.{length}
use Rattle.array.specs.Lists.{pick}
use Rattle.array.specs.Kind.{Kind, kind_test, null_of}
use Rattle.array.specs.Cells.{rest}
use Rattle.array.specs.Shape.{volume, shape_test}
use Rattle.array.specs.Content.{Content, Valid, layout, null_cell}
use Rattle.array.specs.Buffers.{lengths_of, enough_test, content_outcome, if_room}
use Rattle.array.specs.Places.{cell_at}
use Rattle.array.proofs.Answers.{unless_same}
use Rattle.array.proofs.Lists.{map-from}
use Rattle.array.proofs.Resting.{rest_cell}
use Rattle.array.proofs.Rules.{strict_bytes_ok, rest_passes}
use Rattle.rights.specs.Rights.{permits, masked_test, rights_test, guest_form}
use Rattle.rights.specs.Calls.{guest_answer, guest_read}
use Rattle.rights.specs.Laws.{AgreeWhere, Conceals}
use Rattle.rights.proofs.Rules.{masked_ok}
use Rattle.rights.proofs.Seeing.{seen, guest_laid}

module _ (k : Kind) (shape rights : List ℕ) (c c' : Content) (v : Valid k shape c) (v' : Valid k shape c') (agree : AgreeWhere k (volume shape) rights c c') where
  abbrev n : ℕ
  n = volume shape

  -- what is seen of two such arrays is the same
  same_form : 0 < k.depth → length rights ≡ n → guest_form k n rights c ≡ guest_form k n rights c'
  same_form some counted =
      guest_laid k n rights c some counted v.content.fits
      ∙ ap (layout k.form k.depth) (map-from (seen k n rights c some counted) (seen k n rights c' some counted) 0 n (λ j h. cell j (omega arith) (permits rights j) refl))
      ∙ sym (guest_laid k n rights c' some counted v'.content.fits)
    where
      cell : (j : ℕ) → j < n → (b : Bool) → permits rights j ≡ b
          → pick b (rest (null_of k.form) k.depth (cell_at k n c j)) (null_cell k) ≡ pick b (rest (null_of k.form) k.depth (cell_at k n c' j)) (null_cell k)
      cell j h true e = sym (rest_cell v.content v.small j h) ∙ agree j h e ∙ rest_cell v'.content v'.small j h
      cell j h false e = refl

pub conceals : Conceals
unfolding guest_read guest_answer
conceals k shape rights c c' out v v' agree =
    ap (λ a. content_outcome a out)
    (unless_same (kind_test k) 1 (λ e1. unless_same (shape_test shape) 2 (λ e2. unless_same (masked_test k) 17 (λ e17. unless_same (rights_test (volume shape) rights) 4 (λ e4.
    rest_passes k (volume shape) c v.content v.small
    (ap (λ (x : Content). if_room (enough_test x (lengths_of out)) x) (same_form k shape rights c c' v v' agree (masked_ok k e17) (strict_bytes_ok (volume shape) rights e4).counted)
    ∙ sym (rest_passes k (volume shape) c' v'.content v'.small refl)))))))
