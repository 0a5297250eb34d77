-- Good cells that are gathered stay good: as many as there are, of the form's size, with few value bytes in all.
-- Assumes nothing.
use mathlib.Core.Path.{◌≡◌, sym, ap, ◌∙◌}
use Prim.Native.Nat.{ℕ, ◌<◌, ◌≤◌}
use native.Mathlib.Omega.{arith}
use mathlib.Core.List.{List, map}
use lib.ListN.{length, get_or, length-map}
use Rattle.array.specs.Lists.{from, joined, All, count}
use Rattle.array.specs.Kind.{Kind, Form, null_of}
use Rattle.array.specs.Cells.{Cell, leaf}
use Rattle.array.specs.Content.{leaves, null_cell}
use Rattle.array.proofs.Lists.{All-image, All-get_or, All-of}
use Rattle.array.proofs.Sums.{sum_of, sum_of_map, sum_once}
use Rattle.array.proofs.Sizes.{OfSize, null_sized}
use Rattle.array.proofs.LayoutLaws.{Good, bytes_sum, All-leaves}
use Rattle.array.proofs.RestLaws.{leaf_blank, StrictCell, strict_blank}
use Rattle.chunks.specs.Gather.{gather}
use Rattle.chunks.proofs.Gather.{gather_all}

-- cells at places of which each stands at most once in the list
pub good_gather : (k : Kind) (n : ℕ) (cs : List (Cell k.depth)) → Good k n cs → (js : List ℕ) → All (λ j. j < n) js → ((i : ℕ) → i < n → count i js ≤ 1)
    → Good k (length js) (gather (null_cell k) cs js)
good_gather k n cs g js below once =
    let d : ℕ = k.depth in
    let f : Form = k.form in
    let nc : Cell d = null_cell k in
    let h : ℕ → ℕ = λ i. length (leaf d (get_or cs i nc)) in
    let whole : length (joined (leaves d cs)) ≡ sum_of h (from 0 n) =
    ap (λ (xs : List (Cell d)). length (joined (leaves d xs))) (sym (gather_all nc cs)) ∙ bytes_sum d (gather nc cs (from 0 (length cs)))
    ∙ sum_of_map (λ i. get_or cs i nc) (λ (c : Cell d). length (leaf d c)) (from 0 (length cs)) ∙ ap (λ (m : ℕ). sum_of h (from 0 m)) g.counted in
    record {
      counted = length-map js (λ i. get_or cs i nc);
      sized = All-image (OfSize f) (leaf d) (gather nc cs js)
          (All-image (λ (c : Cell d). OfSize f (leaf d c)) (λ i. get_or cs i nc) js
          (All-of (λ i. OfSize f (leaf d (get_or cs i nc)))
          (All-get_or (λ (c : Cell d). OfSize f (leaf d c)) nc (leaf_blank (null_of f) (OfSize f) d (null_sized f)) cs (All-leaves (OfSize f) d cs g.sized)) js));
      small = omega (arith, g.small, whole, bytes_sum d (gather nc cs js), sum_of_map (λ i. get_or cs i nc) (λ (c : Cell d). length (leaf d c)) js, sum_once h n js below once);
      strict = All-image (StrictCell d) (λ i. get_or cs i nc) js (All-of (λ i. StrictCell d (get_or cs i nc)) (All-get_or (StrictCell d) nc (strict_blank (null_of f) d) cs g.strict) js);
    }
