-- Chunks that are read: what each gave, and that a chunk written anew reads as it did.
-- Assumes nothing.
use mathlib.Core.Path.{◌≡◌, refl, sym, ap, ◌∙◌}
use mathlib.Core.Logic.{inr}
use Prim.Native.Nat.{ℕ, suc, ◌^◌, ◌<◌, ◌≤◌}
use native.Mathlib.Omega.{arith}
use mathlib.Core.List.{List, [], ◌∷◌, ◌++◌}
use lib.ListN.{length, get_or}
use Rattle.array.specs.Answer.{Answer, gives, and_then}
use Rattle.array.specs.Limits.{most_bytes, most_cells}
use Rattle.array.specs.Shape.{volume}
use Rattle.array.specs.Subset.{Subset, lengths}
use Rattle.array.specs.Cells.{Value}
use Rattle.array.proofs.Answers.{went_on, same_given}
use Rattle.array.proofs.Lists.{All-of}
use Rattle.array.proofs.Sizes.{OfSize}
use Rattle.codec.specs.Values.{put_values, get_values}
use Rattle.codec.proofs.Carried.{below_carried}
use Rattle.codec.proofs.Values.{back_values, length-put_values}
use Rattle.codec.proofs.Older.{OlderRead, older_read}
use Rattle.migrate.specs.Live.{Stored, older, newer, new_form, read_stored, read_chunks}

-- the cells of subset i
abbrev pub cells_at : List Subset → ℕ → ℕ
cells_at bs i = volume (lengths (get_or bs i []))

abbrev onward : List Subset → List Stored → List Value → Answer (List (List Value))
onward bs cs vs = and_then (read_chunks bs cs) (λ vss. gives (vs ∷ vss))

-- a chunk in another form that reads alike
pub read_swap : (bs : List Subset) (xs : List Stored) (c e : Stored) (ys : List Stored) → read_stored c (cells_at bs (length xs)) ≡ read_stored e (cells_at bs (length xs))
    → read_chunks bs (xs ++ c ∷ ys) ≡ read_chunks bs (xs ++ e ∷ ys)
unfolding read_chunks
read_swap [] [] c e ys q = refl
read_swap [] (x ∷ xs) c e ys q = refl
read_swap (b ∷ bs) [] c e ys q = ap (λ (a : Answer (List Value)). and_then a (onward bs ys)) q
read_swap (b ∷ bs) (x ∷ xs) c e ys q =
    ap (λ (r : Answer (List (List Value))). and_then (read_stored x (volume (lengths b))) (λ vs. and_then r (λ vss. gives (vs ∷ vss)))) (read_swap bs xs c e ys q)

-- what a chunk gave
pub read_at : (bs : List Subset) (xs : List Stored) (c : Stored) (ys : List Stored) (vss : List (List Value)) → length xs < length bs
    → read_chunks bs (xs ++ c ∷ ys) ≡ gives vss → read_stored c (cells_at bs (length xs)) ≡ gives (get_or vss (length xs) [])
unfolding read_chunks
read_at [] xs c ys vss h e = absurd (omega arith)
read_at (b ∷ bs) [] c ys vss h e =
    let g = went_on (read_stored c (volume (lengths b))) (onward bs ys) e in
    let k = went_on (read_chunks bs ys) (λ us. gives (g.0 ∷ us)) g.1.1 in
    g.1.0 ∙ ap (λ (us : List (List Value)). gives (get_or us 0 [])) (same_given k.1.1)
read_at (b ∷ bs) (x ∷ xs) c ys vss h e =
    let g = went_on (read_stored x (volume (lengths b))) (onward bs (xs ++ c ∷ ys)) e in
    let k = went_on (read_chunks bs (xs ++ c ∷ ys)) (λ us. gives (g.0 ∷ us)) g.1.1 in
    read_at bs xs c ys k.0 (omega arith) k.1.0 ∙ ap (λ (us : List (List Value)). gives (get_or us (suc (length xs)) [])) (same_given k.1.1)

-- as many as there are subsets
pub read_count : (bs : List Subset) (cs : List Stored) (vss : List (List Value)) → length cs ≡ length bs → read_chunks bs cs ≡ gives vss → length vss ≡ length bs
unfolding read_chunks
read_count [] cs vss l e = ap length (sym (same_given e))
read_count (b ∷ bs) [] vss l e = absurd (omega arith)
read_count (b ∷ bs) (c ∷ cs) vss l e =
    let g = went_on (read_stored c (volume (lengths b))) (onward bs cs) e in
    let k = went_on (read_chunks bs cs) (λ us. gives (g.0 ∷ us)) g.1.1 in
    ap length (sym (same_given k.1.1)) ∙ ap suc (read_count bs cs k.0 (omega arith) k.1.0)

-- an old chunk that is read, written anew, is read alike
pub moved_alike : (n : ℕ) → n ≤ most_cells → (s : List ℕ) (vs : List Value) → read_stored (older s) n ≡ gives vs
    → read_stored (older s) n ≡ read_stored (newer (put_values new_form vs)) n
unfolding read_stored most_cells most_bytes
moved_alike n few s vs e =
    let r : OlderRead n vs = older_read n s e in
    let below : most_bytes < 256 ^ 8 = omega arith in
    let fits : length (put_values new_form vs) < 256 ^ 8 = omega (arith, length-put_values new_form (inr refl) vs, r.counted, r.small) in
    e ∙ sym (ap (get_values new_form (put_values new_form vs)) (sym r.counted) ∙ back_values new_form vs (All-of (OfSize new_form) (λ v. tt) vs, r.small, below_carried new_form vs most_bytes below r.small) fits)
