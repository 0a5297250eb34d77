-- The stages of the call: what it leaves behind where the kind, the count, the table or its store is refused, and that else its cells decide.
-- Assumes nothing.
use mathlib.Core.Path.{◌≡◌, refl, sym, ap, ◌∙◌}
use mathlib.Core.Bool.{true, false}
use mathlib.Core.List.{List, map}
use Prim.Native.Nat.{ℕ, ◌*◌, ◌≤◌}
use native.Mathlib.Nat.{zero-mul, zero-add}
use lib.ListN.{length, drop}
use Rattle.array.specs.Lists.{from}
use Rattle.array.specs.Answer.{Answer, refuses}
use Rattle.array.specs.Meaning.{kind_of}
use Rattle.array.specs.Offsets.{offsets_of}
use Rattle.array.specs.Kind.{Kind, Form, fixed, ragged}
use Rattle.array.specs.Cells.{Value}
use Rattle.array.specs.Content.{Content, layout, offsets_for}
use Rattle.array.specs.Places.{mask_at}
use Rattle.array.specs.Buffers.{put_into, content_outcome}
use Rattle.array.proofs.Inverse.{planes_whole}
use Rattle.array.proofs.LayoutLaws.{content_path}
use Rattle.array.proofs.Numbered.{laid_is}
use Rattle.array.proofs.Putting.{refused}
use Rattle.codec.specs.Interleaved.{IsRagged}
use Rattle.table.specs.Table.{Table, most_store, start_of, length_of, bytes_of, cell_of, Placed, TableOk, table_test, store_test}
use Rattle.table.specs.Calls.{read_answer, read_out}
use Rattle.table.proofs.Each.{below_all}
use Rattle.table.proofs.Order.{sum_fits}
use Rattle.table.proofs.Rules.{table_kind_ok, table_test_lem}
use Rattle.table_kind.specs.declared.TableShape.{TableShape}
use Rattle.table_kind.specs.Shape.{shape_answer}
use Rattle.table_kind.proofs.Forms.{shape_refused}
use Rattle.table_read.specs.Read.{values_of, read_by, ReadAsked}

-- ---- a sound table: its cells lie in the store, and read out it is its masks as they are and its values end to end

ragged_offsets : (f : Form) → IsRagged f → (vs : List Value) → offsets_for f vs ≡ offsets_of vs
ragged_offsets (fixed k o) r vs = absurd r
ragged_offsets (ragged w p) r vs = refl

module _ {d n : ℕ} {t : Table} (ok : TableOk d n t) where
  pub read_is : (f : Form) → IsRagged f → layout f d (map (cell_of d n t) (from 0 n)) ≡ read_by n t
  read_is f r =
      laid_is f d (cell_of d n t) (mask_at n t.masks) (bytes_of t) (λ j. refl) (from 0 n)
      ∙ content_path
      (planes_whole n t.masks d 0 (ok.masks_fit ∙ ap (λ (m : ℕ). m * n) (sym (zero-add d))) ∙ ap (λ (m : ℕ). drop m t.masks) (zero-mul n))
      refl (ragged_offsets f r (values_of n t))

  pub reads_well : length t.store ≤ most_store → ReadAsked n t
  reads_well h = record {
    cells = record { starts_fit = ok.starts_fit; lengths_fit = ok.lengths_fit; placed = λ j h. (below_all (λ i. Placed (length t.store) (start_of t i) (length_of t i)) n ok.placed j h).0 };
    total = sum_fits t n ok.placed ok.apart ok.lengths_fit;
    small = h;
  }

-- ---- the stages

module _ (k : Kind) (n : ℕ) (t : Table) (out : Content) where
  pub unshaped : {m : ℕ} → shape_answer k n ≡ refuses m → refused m out ≡ read_out k n t out
  unfolding read_out read_answer
  unshaped e = ap (λ (a : Answer Content). content_outcome a out) (shape_refused k n e _)

module _ (s : TableShape) (t : Table) (out : Content) where
  abbrev k : Kind
  k = kind_of s.kind

  pub by_table : table_test k.depth s.cells t ≡ false → refused 4 out ≡ read_out k s.cells t out
  unfolding read_out read_answer
  by_table e = rw (s.sound, s.counted, e)

  module _ (ok : TableOk k.depth s.cells t) where
    pub by_store : store_test t ≡ false → refused 5 out ≡ read_out k s.cells t out
    unfolding read_out read_answer
    by_store e = rw (s.sound, s.counted, table_test_lem k.depth s.cells t ok, e)

    pub by_cells : store_test t ≡ true → read_out k s.cells t out ≡ put_into (read_by s.cells t) out
    unfolding read_out read_answer
    by_cells e =
        rw (s.sound, s.counted, table_test_lem k.depth s.cells t ok, e)
        (ap (λ (c : Content). put_into c out) (read_is ok k.form (table_kind_ok k s.sound).is_ragged))
