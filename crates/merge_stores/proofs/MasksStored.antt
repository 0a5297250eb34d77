-- Storing level after level: what holds at the head of the loop, and a turn of it.
-- Assumes nothing.
use mathlib.Core.Path.{◌≡◌, refl, sym, ap, ap₂, ◌∙◌}
use Prim.Native.Nat.{ℕ, zero, suc, ◌+◌, ◌*◌, ◌<◌, ◌≤◌}
use native.Mathlib.Nat.{zero-mul, suc-mul, mul-one, mul-le-mul_right}
use native.Mathlib.Numerals.{add-one}
use native.Mathlib.Omega.{arith}
use mathlib.Core.List.{List, [], ◌++◌, map, append-nil}
use lib.ListN.{length, take, drop, length-append, length-map}
use lib.Seq.{drop-drop, take_at, drop_at}
use Rattle.array.specs.Lists.{All, joined, from}
use Rattle.array.specs.Shape.{volume}
use Rattle.array.specs.Subset.{Subset, cells_of_all, SubsetOk}
use Rattle.array.specs.Places.{fixed_at}
use Rattle.array.proofs.Geometry.{from-append}
use Rattle.array.proofs.Lists.{map-append, joined-append, length_from_lem}
use Rattle.array.proofs.SubsetLaws.{all_below}
use Rattle.chunks.specs.Gather.{put_back}
use Rattle.merge_stores.specs.Scatter.{scatter, places}
use Rattle.merge_stores.specs.Store.{parts, cells_total, masks_merged, MasksAsked, PartsAsked}
use Rattle.merge_stores.proofs.Levels.{level_block, length-parts, length_all}
use Rattle.merge_stores.proofs.Scattering.{length-scatter}

pub record Stored (sh : List ℕ) (bs : List Subset) (d src : List ℕ) (depth cells : ℕ) (o : List ℕ) (l : ℕ) : Type 0 where
  pub within : l ≤ depth
  pub long : length o ≡ length d
  pub done : o ≡ masks_merged sh bs depth src l ++ drop (l * cells) d

module _ {sh : List ℕ} {bs : List Subset} {d src : List ℕ} {depth cells : ℕ} (q : MasksAsked sh bs d src depth cells) where
  abbrev js : List ℕ
  js = cells_of_all sh bs

  abbrev level : ℕ → List ℕ
  level l = put_back 0 (volume sh) (cells_of_all sh bs) (parts l depth 1 bs src)

  long_level : (l : ℕ) → length (level l) ≡ cells
  long_level l = length-map (from 0 (volume sh)) _ ∙ length_from_lem 0 (volume sh) ∙ sym q.counted

  long_levels : (a l : ℕ) → length (joined (map level (from a l))) ≡ l * cells
  long_levels a zero = sym (zero-mul cells)
  long_levels a (suc l) = length-append (level a) (joined (map level (from (suc a) l))) ∙ ap₂ (λ (x y : ℕ). x + y) (long_level a) (long_levels (suc a) l) ∙ omega (arith, suc-mul l cells)

  pub masks_begin : Stored sh bs d src depth cells d 0
  masks_begin = record { within = omega arith; long = refl; done = ap (λ (k : ℕ). drop k d) (sym (zero-mul cells)) }

  module _ {o : List ℕ} {l : ℕ} (c : Stored sh bs d src depth cells o l) where
    pub masks_end : depth ≤ l → o ≡ masks_merged sh bs depth src depth ++ drop (depth * cells) d
    masks_end h = let e : l ≡ depth = omega (arith, c.within) in c.done ∙ ap (λ (k : ℕ). masks_merged sh bs depth src k ++ drop (k * cells) d) e

    module _ (h : l < depth) where
      pub level_room : l * cells + cells ≤ length d
      level_room = omega (arith, suc-mul l cells, mul-le-mul_right {m = suc l} {n = depth} cells h, q.room)

      pub masks_asked : PartsAsked sh bs o (l * cells) 1 src l depth
      masks_asked = record {
        narrow = omega arith;
        inner = omega arith;
        room = omega (arith, level_room, mul-one (volume sh), q.counted, c.long);
        enough = q.enough;
      }

      pub masks_more : All (SubsetOk sh) bs → {o' : List ℕ} → o' ≡ scatter o (places (fixed_at (l * cells) 1) (cells_of_all sh bs)) (parts l depth 1 bs src)
          → Stored sh bs d src depth cells o' (l + 1)
      masks_more ok p =
          let f : List ℕ = joined (map level (from 0 l)) in
          let lf : length f ≡ l * cells = long_levels 0 l in
          let lx : length js ≡ length (parts l depth 1 bs src) =
          length_all sh bs ok ∙ sym (length-parts l depth 1 (omega arith) bs src q.enough ∙ mul-one (cells_total bs)) in
          let e : l * cells + volume sh ≡ (l + 1) * cells = omega (arith, suc-mul l cells, q.counted, ap (λ (k : ℕ). k * cells) (add-one l)) in
          let more : masks_merged sh bs depth src (l + 1) ≡ f ++ level l =
          ap (λ (r : List ℕ). joined (map level r)) (from-append 0 l 1 (0 + l) (l + 1) refl refl) ∙ ap joined (map-append level (from 0 l) (from (0 + l) 1))
          ∙ joined-append (map level (from 0 l)) (map level (from (0 + l) 1)) ∙ ap (λ (k : ℕ). f ++ (level k ++ [])) (native.Mathlib.Nat.zero-add l)
          ∙ ap (λ (r : List ℕ). f ++ r) (append-nil (level l)) in
          let rest : drop (l * cells + volume sh) o ≡ drop ((l + 1) * cells) d =
          sym (drop-drop (volume sh) (l * cells) o) ∙ ap (drop (volume sh)) (ap (drop (l * cells)) c.done ∙ drop_at f (drop (l * cells) d) (l * cells) lf)
          ∙ drop-drop (volume sh) (l * cells) d ∙ ap (λ (k : ℕ). drop k d) e in
          record {
            within = omega arith;
            long = ap length p ∙ length-scatter o (places (fixed_at (l * cells) 1) js) (parts l depth 1 bs src) ∙ c.long;
            done = p ∙ level_block (l * cells) (volume sh) o js (parts l depth 1 bs src) (omega (arith, level_room, q.counted, c.long)) lx (all_below sh bs ok) q.once
                ∙ ap₂ (λ (x y : List ℕ). x ++ level l ++ y) (ap (take (l * cells)) c.done ∙ take_at f (drop (l * cells) d) (l * cells) lf) rest
                ∙ ap (λ (r : List ℕ). r ++ drop ((l + 1) * cells) d) (sym more);
          }
