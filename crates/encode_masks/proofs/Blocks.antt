-- Stored masks block by block: mask bytes of cells that a level counts are gathered, and put into stored bytes by the laws of a mask form.
-- Assumes nothing.
use mathlib.Core.Path.{◌≡◌, refl, sym, ap, ap₂, ◌∙◌, subst}
use Prim.Native.Nat.{ℕ, ◌+◌, ◌-◌, ◌%◌, ◌<◌, ◌≤◌, min}
use native.Mathlib.Numerals.{add-one}
use native.Mathlib.Omega.{arith}
use mathlib.Core.Bool.{Bool, true, false}
use mathlib.Core.List.{List, [], ◌∷◌, ◌++◌, map, append-nil}
use lib.ListN.{length, take, drop, set, length-map, length-set, length-drop, take-append-drop}
use lib.Seq.{length-take-le, take_at, take-add, drop-drop, take-set-le, drop-set-lt, take-suc-set}
use lib.Dec.{leb}
use borrow.Author.Tests.{leb-true, leb-false}
use Rattle.array.specs.Lists.{pick}
use Rattle.array.specs.Buffers.{over_at}
use Rattle.array.specs.Kind.{Masks}
use Rattle.array.specs.Places.{mask_at, masks_at, shown_at}
use Rattle.array.proofs.Lists.{map-append}
use Rattle.array.proofs.Laying.{Laying, laying_begins, laying_same, laying_ends, laying_part, laying_is}
use Rattle.codec.specs.Mask.{mask_form}
use Rattle.codec.proofs.Frames.{MaskLaws}
use Rattle.codec.proofs.Masks.{mask_laws}
use Rattle.live_cells.specs.Live.{live_one, live_at, live_from, live_mask, Gathered}
use Rattle.live_cells.proofs.Runs.{passing_start}
use Rattle.live_cells.proofs.LiveMarks.{passing_next, live_end}
use Rattle.encode_cells.proofs.Packing.{none_left}

-- ---- gathering: each byte is stored, and only that of a cell that is counted is gone past

-- of the cells from `start` on that level l counts, the mask bytes of the first `done` lie in the block, and those from i on are left
pub record Picking (n : ℕ) (masks : List ℕ) (l : ℕ) (block₀ : List ℕ) (start m : ℕ) (block : List ℕ) (i done : ℕ) : Type 0 where
  pub room : m ≤ length block₀
  pub enough : m ≤ length (live_from n masks l start)
  pub within : done ≤ m
  pub same : length block ≡ length block₀
  pub taken : take done block ≡ masks_at n masks l (take done (live_from n masks l start))
  pub kept : drop m block ≡ drop m block₀
  pub left : live_from n masks l i ≡ drop done (live_from n masks l start)

module _ {n : ℕ} {masks : List ℕ} {l : ℕ} {block₀ : List ℕ} {start m : ℕ} {block : List ℕ} {i done : ℕ} (p : Picking n masks l block₀ start m block i done) where
  -- a cell that is counted is still left
  module _ (h : done < m) where
    pub picking_cell : i < n
    picking_cell = go (leb n i) refl
      where
        go : (b : Bool) → leb n i ≡ b → i < n
        go true e =
            absurd (omega (arith, live_end n masks l i (leb-true n i e), ap length p.left, length-drop done (live_from n masks l start), p.enough))
        go false e = leb-false n i e

    pub picking_more : {block' : List ℕ} → block' ≡ set block done (mask_at n masks l i) → {done' : ℕ} → done' ≡ done + live_one n masks l i
        → Picking n masks l block₀ start m block' (i + 1) done'
    picking_more {block'} eb {done'} ed = go (shown_at n masks l i) refl
      where
        cells : List ℕ
        cells = live_from n masks l start

        rest : List ℕ
        rest = live_from n masks l (i + 1)

        v : ℕ
        v = mask_at n masks l i

        g : ℕ → ℕ
        g = mask_at n masks l

        next : (b : Bool) → shown_at n masks l i ≡ b → drop done cells ≡ pick b (i ∷ rest) rest
        next b e = sym p.left ∙ passing_next (shown_at n masks l) i n picking_cell ∙ ap (λ (c : Bool). pick c (i ∷ rest) rest) e

        go : (b : Bool) → shown_at n masks l i ≡ b → Picking n masks l block₀ start m block' (i + 1) done'
        go true e =
            let e1 : done' ≡ done + 1 = ed ∙ ap (λ (c : Bool). done + pick c 1 0) e in
            record {
              room = p.room;
              enough = p.enough;
              within = omega arith;
              same = ap length eb ∙ length-set block done v ∙ p.same;
              taken =
                  ap₂ take (e1 ∙ add-one done) eb
                  ∙ take-suc-set block done v (omega (arith, p.room, p.same))
                  ∙ ap (λ (x : List ℕ). x ++ (v ∷ [])) p.taken
                  ∙ sym (map-append g (take done cells) (i ∷ []))
                  ∙ ap (map g) (sym (ap (λ (k : ℕ). take k cells) e1 ∙ take-add done 1 cells ∙ ap (λ (x : List ℕ). take done cells ++ take 1 x) (next true e)));
              kept = ap (drop m) eb ∙ drop-set-lt m block done v h ∙ p.kept;
              left = sym (ap (λ (k : ℕ). drop k cells) e1 ∙ sym (drop-drop 1 done cells) ∙ ap (drop 1) (next true e));
            }
        go false e =
            let e1 : done' ≡ done = ed ∙ ap (λ (c : Bool). done + pick c 1 0) e ∙ omega arith in
            record {
              room = p.room;
              enough = p.enough;
              within = omega arith;
              same = ap length eb ∙ length-set block done v ∙ p.same;
              taken = ap₂ take e1 eb ∙ take-set-le done block done v (omega arith) ∙ p.taken ∙ ap (λ (k : ℕ). map g (take k cells)) (sym e1);
              kept = ap (drop m) eb ∙ drop-set-lt m block done v h ∙ p.kept;
              left = sym (ap (λ (k : ℕ). drop k cells) e1 ∙ next false e);
            }

-- the block that was gathered
module _ {n : ℕ} {masks : List ℕ} {l : ℕ} {block : List ℕ} {i m : ℕ} {block' : List ℕ} {r : ℕ} (q : Gathered n masks l block i m block' r)
    (h : m ≤ length (live_from n masks l i)) where
  gathered_long : length (masks_at n masks l (take m (live_from n masks l i))) ≡ m
  gathered_long = length-map (take m (live_from n masks l i)) (mask_at n masks l) ∙ length-take-le m (live_from n masks l i) h

  gathered_first : take m block' ≡ masks_at n masks l (take m (live_from n masks l i))
  gathered_first =
      let f : List ℕ = masks_at n masks l (take m (live_from n masks l i)) in
      ap (take m) q.bytes ∙ take_at f (drop (length f) block) m gathered_long

  gathered_split : masks_at n masks l (live_from n masks l i) ≡ masks_at n masks l (take m (live_from n masks l i)) ++ masks_at n masks l (live_from n masks l r)
  gathered_split =
      ap (map (mask_at n masks l)) (sym (take-append-drop m (live_from n masks l i)) ∙ ap (λ (x : List ℕ). take m (live_from n masks l i) ++ x) (sym q.behind))
      ∙ map-append (mask_at n masks l) (take m (live_from n masks l i)) (live_from n masks l r)

-- ---- a mask form

module _ (x : Masks) where
  laws : MaskLaws (mask_form x)
  laws = mask_laws x

  size_none : (mask_form x).size 0 ≡ 0
  size_none = omega (arith, laws.size_le 0)

  put_none : (mask_form x).put [] ≡ []
  put_none = none_left ((mask_form x).put []) (laws.length_put [] ∙ size_none)

  pub live_mask_long : (n : ℕ) (masks : List ℕ) (l : ℕ) → length (live_mask x n masks l) ≡ (mask_form x).size (length (live_at n masks l))
  live_mask_long n masks l =
      laws.length_put (masks_at n masks l (live_at n masks l)) ∙ ap (mask_form x).size (length-map (live_at n masks l) (mask_at n masks l))

  -- parts end to end: the first fills whole bytes, or is the last
  put-parts : (ms ns : List ℕ) → (1 ≤ length ns → length ms % 8 ≡ 0) → (mask_form x).put (ms ++ ns) ≡ (mask_form x).put ms ++ (mask_form x).put ns
  put-parts ms [] h =
      ap (mask_form x).put (append-nil ms) ∙ sym (append-nil ((mask_form x).put ms)) ∙ ap (λ (r : List ℕ). (mask_form x).put ms ++ r) (sym put_none)
  put-parts ms (m ∷ ns) h = laws.put_append ms (m ∷ ns) (h (omega arith))

-- the stored mask of the first `done` cells lies at `to` in what was d, and the cells from i on are left
pub record Blocks (x : Masks) (n : ℕ) (masks : List ℕ) (l : ℕ) (d : List ℕ) (to : ℕ) (out : List ℕ) (i done : ℕ) : Type 0 where
  pub laid : Laying (live_mask x n masks l) d to out ((mask_form x).size done) ((mask_form x).put (masks_at n masks l (live_from n masks l i)))
  pub counted : done + length (live_from n masks l i) ≡ length (live_at n masks l)
  pub whole : 1 ≤ length (live_from n masks l i) → done % 8 ≡ 0

module _ {x : Masks} {n : ℕ} {masks : List ℕ} {l : ℕ} {d : List ℕ} {to : ℕ} where
  pub blocks_begin : {count : ℕ} → count ≡ length (live_at n masks l) → to + (mask_form x).size count ≤ length d → Blocks x n masks l d to d 0 0
  blocks_begin ec h =
      let mask : List ℕ = live_mask x n masks l in
      let start : live_from n masks l 0 ≡ live_at n masks l = passing_start (shown_at n masks l) n in
      let room : to + length mask ≤ length d = omega (arith, live_mask_long x n masks l, ap (mask_form x).size ec) in
      record {
        laid = subst (λ (k : ℕ). Laying mask d to d k ((mask_form x).put (masks_at n masks l (live_from n masks l 0)))) (sym (size_none x))
            (laying_is (laying_begins mask d to room) (ap (λ (is : List ℕ). (mask_form x).put (masks_at n masks l is)) (sym start)));
        counted = omega (arith, ap length start);
        whole = λ e. refl;
      }

module _ {x : Masks} {n : ℕ} {masks : List ℕ} {l : ℕ} {d : List ℕ} {to : ℕ} {out : List ℕ} {i done : ℕ} (p : Blocks x n masks l d to out i done) where
  abbrev left : List ℕ
  left = (mask_form x).put (masks_at n masks l (live_from n masks l i))

  pub blocks_same : length out ≡ length d
  blocks_same = laying_same (live_mask x n masks l) d to out ((mask_form x).size done) left p.laid

  pub blocks_end : length (live_at n masks l) ≤ done → out ≡ over_at to (live_mask x n masks l) d
  blocks_end h =
      let e : live_from n masks l i ≡ [] = none_left (live_from n masks l i) (omega (arith, p.counted)) in
      laying_ends (live_mask x n masks l) d to out ((mask_form x).size done)
      (laying_is p.laid (ap (λ (is : List ℕ). (mask_form x).put (masks_at n masks l is)) e ∙ put_none x))

  -- a block of the next m cells: it fills whole bytes, or is the last
  module _ {m : ℕ} (some : 1 ≤ m) (fit : done + m ≤ length (live_at n masks l)) (eights : done + m < length (live_at n masks l) → m % 8 ≡ 0) where
    pub block_fits : m ≤ length (live_from n masks l i)
    block_fits = omega (arith, p.counted)

    module _ {block block' : List ℕ} {r : ℕ} (q : Gathered n masks l block i m block' r) where
      abbrev part : List ℕ
      part = (mask_form x).put (masks_at n masks l (take m (live_from n masks l i)))

      part_long : length part ≡ (mask_form x).size m
      part_long = (laws x).length_put (masks_at n masks l (take m (live_from n masks l i))) ∙ ap (mask_form x).size (gathered_long q block_fits)

      rest_long : m + length (live_from n masks l r) ≡ length (live_from n masks l i)
      rest_long = omega (arith, ap length q.behind, length-drop m (live_from n masks l i), block_fits)

      size_more : (mask_form x).size (done + m) ≡ (mask_form x).size done + (mask_form x).size m
      size_more = (laws x).size_append done m (p.whole (omega (arith, block_fits)))

      next : left ≡ part ++ (mask_form x).put (masks_at n masks l (live_from n masks l r))
      next =
          ap (mask_form x).put (gathered_split q block_fits)
          ∙ put-parts x (masks_at n masks l (take m (live_from n masks l i))) (masks_at n masks l (live_from n masks l r))
          (λ h. ap (λ (k : ℕ). k % 8) (gathered_long q block_fits) ∙ eights (omega (arith, length-map (live_from n masks l r) (mask_at n masks l), rest_long, p.counted)))

      pub blocks_more : {at : ℕ} → at ≡ (mask_form x).size done → {out' : List ℕ} → out' ≡ over_at (to + at) ((mask_form x).put (take m block')) out
          → Blocks x n masks l d to out' r (done + m)
      blocks_more {at} ea {out'} eo = record {
        laid = laying_part (live_mask x n masks l) d to out ((mask_form x).size done) part ((mask_form x).put (masks_at n masks l (live_from n masks l r)))
            (laying_is p.laid next) out'
            (eo ∙ ap₂ (λ (k : ℕ) (s : List ℕ). over_at (to + k) ((mask_form x).put s) out) ea (gathered_first q block_fits))
            ((mask_form x).size (done + m)) (size_more ∙ ap (λ (k : ℕ). (mask_form x).size done + k) (sym part_long));
        counted = omega (arith, p.counted, rest_long);
        whole = λ h. omega (arith, eights (omega (arith, p.counted, rest_long)), p.whole (omega (arith, block_fits)));
      }

-- ---- the next block: as many cells as are left, and at most k, which fill whole bytes

module _ {all count done m k : ℕ} (ec : count ≡ all) (h : done < count) (e : m ≡ min (count - done) k) (some : 1 ≤ k) (eights : k % 8 ≡ 0) where
  next_some : 1 ≤ m
  next_some = omega arith

  next_fits : done + m ≤ all
  next_fits = omega arith

  next_eights : done + m < all → m % 8 ≡ 0
  next_eights q = omega arith

  next_done : done + m ≡ min (done + k) count
  next_done = omega arith

pub blocks_at : {x : Masks} {n : ℕ} {masks : List ℕ} {l : ℕ} {d : List ℕ} {to : ℕ} {out : List ℕ} {i j k : ℕ} → j ≡ k → Blocks x n masks l d to out i j → Blocks x n masks l d to out i k
blocks_at {x} {n} {masks} {l} {d} {to} {out} {i} e p = subst (λ (j : ℕ). Blocks x n masks l d to out i j) e p

module _ {x : Masks} {n : ℕ} {masks : List ℕ} {l : ℕ} {d : List ℕ} {to : ℕ} {out : List ℕ} {i done count m k : ℕ}
    (p : Blocks x n masks l d to out i (min done count)) (ec : count ≡ length (live_at n masks l)) (h : done < count) (e : m ≡ min (count - done) k)
    (some : 1 ≤ k) (eights : k % 8 ≡ 0) where
  now : Blocks x n masks l d to out i done
  now = blocks_at (omega (arith, h)) p

  pub next_block : {block block' : List ℕ} {r : ℕ} → Gathered n masks l block i m block' r
      → {at : ℕ} → at ≡ (mask_form x).size done → {out' : List ℕ} → out' ≡ over_at (to + at) ((mask_form x).put (take m block')) out
      → Blocks x n masks l d to out' r (min (done + k) count)
  next_block q ea eo =
      blocks_at (next_done ec h e some eights)
      (blocks_more now (next_some ec h e some eights) (next_fits ec h e some eights) (next_eights ec h e some eights) q ea eo)
