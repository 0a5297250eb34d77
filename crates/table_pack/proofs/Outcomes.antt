-- What a packing call leaves behind, by where it ends: a refusal, each in its turn, or the packed table.
-- Assumes nothing.
use mathlib.Core.Path.{◌≡◌, sym, ap, ap₂, ◌∙◌, subst}
use mathlib.Core.Bool.{true, false, ◌&&◌}
use mathlib.Core.List.{List, []}
use Prim.Native.Nat.{ℕ}
use lib.ListN.{length}
use Rattle.std.proofs.Math.Bool.{and-true, and-false}
use Rattle.array.specs.Answer.{Answer, gives, refuses, map_answer, Outcome}
use Rattle.array.specs.Kind.{Kind}
use Rattle.array.specs.Meaning.{kind_of}
use Rattle.array.proofs.Rules.{both}
use Rattle.table.specs.Table.{Table, start_of, length_of, filled, TableOk, table_kind_test, table_test, store_test}
use Rattle.table.specs.Lying.{lying_by, moved_cells, packed}
use Rattle.table.specs.Calls.{most_test, in_place, pack_answer, cells_packed}
use Rattle.table.specs.Meaning.{table_by}
use Rattle.table.specs.Walk.{InOrder, Moved}
use Rattle.table.proofs.Rules.{table_test_lem}
use Rattle.table.proofs.Walk.{in_order}
use Rattle.table_kind.specs.declared.TableShape.{TableShape}
use Rattle.table_kind.specs.Shape.{shape_answer}
use Rattle.table_kind.proofs.Forms.{shape_refused}

-- a refusal keeps the table; else it is packed
abbrev refusing : ℕ → Table → Outcome ℕ Table
refusing k t = record { answer = refuses k; buffers = t }

abbrev packing : ℕ → Table → Outcome ℕ Table
packing r t = record { answer = gives r; buffers = t }

module _ (k : Kind) (n most : ℕ) (t : Table) where
  pub no_most : most_test most ≡ false → refusing 1 t ≡ cells_packed k n t most
  unfolding cells_packed pack_answer
  no_most e = rw (e, and-false (table_kind_test k))

  pub unshaped : most_test most ≡ true → {m : ℕ} → shape_answer k n ≡ refuses m → refusing m t ≡ cells_packed k n t most
  unfolding cells_packed pack_answer
  unshaped a e =
      rw (a, and-true (table_kind_test k)) (ap (λ (r : Answer Table). record { answer = map_answer (λ u. length (moved_cells most n t)) r; buffers = in_place r t }) (shape_refused k n e _))

module _ (s : TableShape) (most : ℕ) (a : most_test most ≡ true) (t : Table) where
  abbrev k : Kind
  k = kind_of s.kind

  abbrev n : ℕ
  n = s.cells

  first : table_kind_test k && most_test most ≡ true
  first = both s.sound a

  pub broken : table_test k.depth n t ≡ false → refusing 4 t ≡ cells_packed k n t most
  unfolding cells_packed pack_answer
  broken e = rw (first, s.counted, e)

  module _ (ok : TableOk k.depth n t) where
    pub too_long : store_test t ≡ false → refusing 5 t ≡ cells_packed k n t most
    unfolding cells_packed pack_answer
    too_long e = rw (first, s.counted, table_test_lem k.depth n t ok, e)

    packs : store_test t ≡ true → packing (length (moved_cells most n t)) (packed most n t) ≡ cells_packed k n t most
    unfolding cells_packed pack_answer
    packs e = rw (first, s.counted, table_test_lem k.depth n t ok, e)

    -- the cells were moved
    pub packs_moved : {s' b' : List ℕ} {r : ℕ} → store_test t ≡ true → Moved most (length t.starts) t.starts t.lengths t.store r s' b'
        → packing r (table_by t.masks s' t.lengths b') ≡ cells_packed k n t most
    packs_moved {s'} {b'} {r} e m =
        let q : Moved most n t.starts t.lengths t.store r s' b' = subst (λ (c : ℕ). Moved most c t.starts t.lengths t.store r s' b') ok.starts_fit m in
        ap₂ packing q.counted (q.table t.masks) ∙ packs e

-- the cells of a table that keeps the rules may be walked
pub may_walk : {d n : ℕ} {t : Table} {js : List ℕ} → TableOk d n t → js ≡ lying_by (start_of t) (length_of t) (filled t n)
    → InOrder (length t.starts) (table_by [] t.starts t.lengths t.store) js
may_walk {d} {n} {t} {js} ok e =
    let w : InOrder n t js = in_order ok e in
    subst (λ (c : ℕ). InOrder c (table_by [] t.starts t.lengths t.store) js) (sym ok.starts_fit) (record { lying = w.lying; follow = w.follow; ends = w.ends })
