-- Parts of one list: what is still to be read of a copy towards its front is as it was, and which cell is next.
-- Assumes nothing.
use mathlib.Core.Path.{◌≡◌, sym, ap, ◌∙◌}
use mathlib.Core.List.{List, ◌∷◌, ◌++◌}
use Prim.Native.Nat.{ℕ, suc, ◌+◌, ◌-◌, ◌≤◌, ◌<◌}
use native.Mathlib.Omega.{arith}
use lib.ListN.{length, take, drop, get_or, length-append, length-drop}
use lib.Seq.{drop-cons, drop-drop, take-add, length-take-le, drop-append-add}
use Rattle.array.specs.Buffers.{over_at}
use Rattle.array.proofs.Laying.{laying_part, laying_is}
use Rattle.buffer.proofs.Copying.{Copying}
use Rattle.table.specs.Table.{Table, start_of, length_of}
use Rattle.table.specs.Walk.{InOrder}
use Rattle.table.proofs.Walk.{Moving, next_below, next_room, next_fits}

module _ {d : List ℕ} {to from n : ℕ} {out : List ℕ} {i : ℕ} (c : Copying d to d from n out i) (down : to ≤ from) where
  still : drop (from + i) out ≡ drop (from + i) d
  still =
      ap (drop (from + i)) c.laid.here ∙ ap (λ (j : ℕ). drop j (front ++ drop (length front) d)) split
      ∙ drop-append-add front (drop (length front) d) (from + i - length front) ∙ drop-drop (from + i - length front) (length front) d
      ∙ ap (λ (j : ℕ). drop j d) (sym split)
    where
      front : List ℕ
      front = take to d ++ take i (take n (drop from d))

      want : length (take n (drop from d)) ≡ n
      want = length-take-le n (drop from d) (omega (arith, c.source, length-drop from d))

      long : length front ≡ to + i
      long =
          omega (
            arith,
            length-append (take to d) (take i (take n (drop from d))),
            length-take-le to d (omega (arith, c.source)),
            length-take-le i (take n (drop from d)) (omega (arith, want, c.within)),
          )

      split : from + i ≡ length front + (from + i - length front)
      split = omega (arith, long)

  -- the next k are copied
  pub part_moved : (k : ℕ) → i + k ≤ n → {out' : List ℕ} → out' ≡ over_at (to + i) (take k (drop (from + i) out)) out → Copying d to d from n out' (i + k)
  part_moved k h {out'} e = record {
    source = c.source;
    within = h;
    laid =
        laying_part (take n (drop from d)) d to out i part (take (n - (i + k)) (drop (from + (i + k)) d))
        (laying_is c.laid (ap (λ (m : ℕ). take m (drop (from + i) d)) both ∙ take-add k (n - (i + k)) (drop (from + i) d)
        ∙ ap (λ (l : List ℕ). part ++ take (n - (i + k)) l) (drop-drop k (from + i) d ∙ ap (λ (j : ℕ). drop j d) behind)))
        out' (e ∙ ap (λ (l : List ℕ). over_at (to + i) (take k l) out) still) (i + k) (omega (arith, length-take-le k (drop (from + i) d) (omega (arith, c.source, length-drop (from + i) d))));
  }
    where
      part : List ℕ
      part = take k (drop (from + i) d)

      both : n - i ≡ k + (n - (i + k))
      both = omega arith

      behind : from + i + k ≡ from + (i + k)
      behind = omega arith

-- ---- the next of the cells as they lie

module _ {most n : ℕ} {t : Table} {js : List ℕ} {u : Table} {i to moved : ℕ} (o : InOrder n t js) (m : Moving most n t js u i to moved) (h : i < length js) where
  pub next : drop i js ≡ get_or js i 0 ∷ drop (suc i) js
  next = drop-cons js i 0 h

  pub cell_below : get_or js i 0 < n
  cell_below = next_below o m next

  pub cell_room : (to ≤ start_of u (get_or js i 0)) × (start_of u (get_or js i 0) + length_of t (get_or js i 0) ≤ length u.store)
  cell_room = (next_room o m next, next_fits o m next)
