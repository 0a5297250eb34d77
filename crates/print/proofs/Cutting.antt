-- Text that is cut off where its room is full.
use mathlib.Core.Path.{◌≡◌, refl, sym, ap, ◌∙◌}
use mathlib.Core.List.{List, [], ◌∷◌, ◌++◌, append_assoc, append-nil}
use Prim.Native.Nat.{ℕ, zero, suc}
use lib.ListN.{take}
use Rattle.std.specs.Prelude.{Option, None, Some, IfSome, Result, Ok, Err, OnOk}
use Rattle.std.specs.List.{FoldsTo, concat}
use Rattle.std.specs.Fmt.{WritesText}
use Rattle.std.specs.declared.fmt.Error.{Error}

module _ (room : ℕ) where
  -- a text cut off twice, the second time with more behind it
  cut_twice : (n : ℕ) (s t : List ℕ) → take n (take n s ++ t) ≡ take n (s ++ t)
  cut_twice zero s t = refl
  cut_twice (suc n) [] t = refl
  cut_twice (suc n) (x ∷ s) t = ap (λ l. x ∷ l) (cut_twice n s t)

  same_cut : (n : ℕ) (s : List ℕ) → take n (take n s) ≡ take n s
  same_cut zero s = refl
  same_cut (suc n) [] = refl
  same_cut (suc n) (x ∷ s) = ap (λ l. x ∷ l) (same_cut n s)

  nothing_cut : (n : ℕ) → ◌≡◌ {A = List ℕ} [] (take n [])
  nothing_cut zero = refl
  nothing_cut (suc n) = refl

  -- what one piece makes of a text
  abbrev Takes : List ℕ → List ℕ → List ℕ → Type 0
  Takes s piece t = t ≡ take room (s ++ piece)

  pieces_cut : (s : List ℕ) (pieces : List (List ℕ)) (t : List ℕ) → s ≡ take room s → FoldsTo Takes s pieces t → t ≡ take room (s ++ concat pieces)
  pieces_cut s [] t within same = sym same ∙ within ∙ ap (take room) (sym (append-nil s))
  pieces_cut s (x ∷ pieces) t within calls =
      let one = calls.1 in
      let still : calls.0 ≡ take room calls.0 = one ∙ sym (same_cut room (s ++ x)) ∙ ap (take room) (sym one) in
      pieces_cut calls.0 pieces t still calls.2
      ∙ ap (λ l. take room (l ++ concat pieces)) one
      ∙ cut_twice room (s ++ x) (concat pieces)
      ∙ ap (take room) (append_assoc s x (concat pieces))

  text_cut : (o : Option (List ℕ)) (t : List ℕ) → WritesText Takes [] o t → IfSome o (λ text. t ≡ take room text)
  text_cut None t wrote = tt
  text_cut (Some text) t wrote = pieces_cut [] wrote.parts t (nothing_cut room) wrote.calls ∙ ap (take room) wrote.whole

  -- a text written piece by piece where nothing stood
  pub shown_cut : (r : Result (Unit {0}) Error) (o : Option (List ℕ)) (t : List ℕ) → OnOk r (WritesText Takes [] o t) → OnOk r (IfSome o (λ text. t ≡ take room text))
  shown_cut (Ok x) o t wrote = text_cut o t wrote
  shown_cut (Err e) o t wrote = tt
