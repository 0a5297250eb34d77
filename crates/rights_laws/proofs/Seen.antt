-- What a guest sees, by the list of cells: each cell beside its byte of the plane, in rest form where that is 01, else a null.
-- Assumes nothing.
use mathlib.Core.Path.{◌≡◌, refl, sym, ap, ap₂, ◌∙◌}
use Prim.Native.Nat.{ℕ, ◌≤◌, ◌<◌}
use native.Mathlib.Omega.{arith}
use mathlib.Core.Bool.{Bool, true, false, ◌&&◌}
use mathlib.Core.List.{List, [], ◌∷◌, map}
use lib.ListN.{length, get_or}
use Rattle.array.specs.Answer.{Answer, gives, and_then, Outcome}
use Rattle.array.specs.Limits.{most_bytes}
use Rattle.array.specs.Lists.{from, pick}
use Rattle.array.specs.Kind.{Kind, null_of}
use Rattle.array.specs.Cells.{Cell, set_test, rest}
use Rattle.array.specs.Shape.{volume}
use Rattle.array.specs.Content.{Content, ArrayOk, Valid, layout, pair_up, cells_of, null_cell}
use Rattle.array.specs.declared.answer.Lengths.{Lengths}
use Rattle.array.specs.Buffers.{lengths_of, Enough, enough_test, if_room, content_outcome, put_into, Taken, taken, whole}
use Rattle.array.specs.Places.{cell_at}
use Rattle.array.proofs.Answers.{pass}
use Rattle.array.proofs.Lists.{map-map, map-from}
use Rattle.array.proofs.Numbered.{cells_are}
use Rattle.array.proofs.Resting.{rest_ok, rest_cell}
use Rattle.array.proofs.RestLaws.{rest_blank, rest_again}
use Rattle.array.proofs.Rules.{enough_test_lem}
use Rattle.array.proofs.Taken.{taken_content}
use Rattle.rights.specs.Rights.{RightsOk, hidden_by, guest_form}
use Rattle.rights.specs.Calls.{guest_read}
use Rattle.rights.proofs.Cleared.{hidden_ok}
use Rattle.rights.proofs.Seeing.{seen, seen_cell, guest_laid, read_any}
use Rattle.chunks.specs.ReadThenCut.{next_call}
use Rattle.rights_laws.specs.Planes.{both}
use Rattle.rights_laws.proofs.Pairs.{pairs_are}

module _ (k : Kind) where
  abbrev pub veil : ℕ × Cell k.depth → Cell k.depth
  veil p = pick (set_test p.0) (rest (null_of k.form) k.depth p.1) (null_cell k)

  abbrev pub veiled : List ℕ → List (Cell k.depth) → List (Cell k.depth)
  veiled rights cs = map veil (pair_up rights cs)

  -- ---- under two planes

  twice_one : (a b : Bool) (x : Cell k.depth)
      → pick b (rest (null_of k.form) k.depth (pick a (rest (null_of k.form) k.depth x) (null_cell k))) (null_cell k)
      ≡ pick (set_test (pick (a && b) 1 0)) (rest (null_of k.form) k.depth x) (null_cell k)
  twice_one true true x = rest_again (null_of k.form) k.depth x
  twice_one true false x = refl
  twice_one false true x = rest_blank (null_of k.form) k.depth
  twice_one false false x = refl

  pub veiled_twice : (rs ss : List ℕ) (xs : List (Cell k.depth)) → veiled ss (veiled rs xs) ≡ veiled (both rs ss) xs
  veiled_twice [] [] xs = refl
  veiled_twice [] (s ∷ ss) xs = refl
  veiled_twice (r ∷ rs) [] xs = refl
  veiled_twice (r ∷ rs) (s ∷ ss) [] = refl
  veiled_twice (r ∷ rs) (s ∷ ss) (x ∷ xs) = ap₂ (λ (y : Cell k.depth) (l : List (Cell k.depth)). y ∷ l) (twice_one (set_test r) (set_test s) x) (veiled_twice rs ss xs)

  same_one : (a : Bool) (x y : Cell k.depth) → pick (set_test (pick (a && a) 1 0)) x y ≡ pick a x y
  same_one true x y = refl
  same_one false x y = refl

  pub veiled_again : (rs : List ℕ) (xs : List (Cell k.depth)) → veiled (both rs rs) xs ≡ veiled rs xs
  veiled_again [] xs = refl
  veiled_again (r ∷ rs) [] = refl
  veiled_again (r ∷ rs) (x ∷ xs) =
      ap₂ (λ (y : Cell k.depth) (l : List (Cell k.depth)). y ∷ l) (same_one (set_test r) (rest (null_of k.form) k.depth x) (null_cell k)) (veiled_again rs xs)

-- ---- of an array

module _ {k : Kind} {n : ℕ} {c : Content} (ok : ArrayOk k n c) (small : length c.values ≤ most_bytes) (some : 0 < k.depth) (rights : List ℕ) (counted : length rights ≡ n) where
  beside : veiled k rights (cells_of k n c) ≡ map (seen k n rights c some counted) (from 0 n)
  beside =
      ap (map (veil k)) (pairs_are (null_cell k) rights (cell_at k n c) n counted (cells_are ok.fits))
      ∙ map-map (λ j. (get_or rights j 0, cell_at k n c j)) (veil k) (from 0 n)

  pub form_is : guest_form k n rights c ≡ layout k.form k.depth (veiled k rights (cells_of k n c))
  form_is = guest_laid k n rights c some counted ok.fits ∙ ap (layout k.form k.depth) (sym beside)

  pub form_cells : cells_of k n (guest_form k n rights c) ≡ veiled k rights (cells_of k n c)
  form_cells =
      let hidden : ArrayOk k n (hidden_by rights c) = hidden_ok rights ok in
      cells_are (rest_ok hidden small).fits
      ∙ map-from (cell_at k n (guest_form k n rights c)) (seen k n rights c some counted) 0 n
      (λ j h. rest_cell hidden small j (omega arith) ∙ seen_cell k n rights c some counted j (omega arith))
      ∙ sym beside

-- ---- the call, on a valid array: refused by nothing but 6

pub read_puts : {k : Kind} {shape rights : List ℕ} {c : Content} → Valid k shape c → 0 < k.depth → RightsOk (volume shape) rights → (out : Content)
    → guest_read k shape rights c out ≡ put_into (guest_form k (volume shape) rights c) out
unfolding guest_read
read_puts v some ok out = ap (λ a. content_outcome a out) (read_any v some ok (lengths_of out))

-- what is taken from outputs that are long enough, and goes on to the next call
pub put_taken : {x : Content} (seen : Content) → Enough x (lengths_of seen) → taken (put_into x seen) ≡ gives (whole x)
put_taken {x} seen e =
    taken_content (if_room (enough_test x (lengths_of seen)) x) seen
    ∙ ap (λ (a : Answer Content). and_then a (λ y. gives (whole y))) (pass 6 (enough_test_lem x (lengths_of seen) e) refl)

pub next_put : {x : Content} (seen : Content) → Enough x (lengths_of seen) → (call : Content → Outcome Lengths Content) (out : Content)
    → next_call (taken (put_into x seen)) call out ≡ call x
next_put seen e call out = ap (λ (a : Answer Taken). next_call a call out) (put_taken seen e)
