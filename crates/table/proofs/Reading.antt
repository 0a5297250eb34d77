-- A working table read out (specs/Laws, Reads): nothing is refused, and what is read is a valid array in rest form.
-- Assumes nothing.
use mathlib.Core.Path.{◌≡◌, refl, ap, ◌∙◌}
use Prim.Native.Nat.{ℕ}
use native.Mathlib.Omega.{arith}
use mathlib.Core.List.{List, [], map}
use lib.ListN.{length, length-map}
use Rattle.array.specs.Answer.{Answer}
use Rattle.array.specs.Limits.{most_bytes}
use Rattle.array.specs.Lists.{from, joined}
use Rattle.array.specs.Kind.{Kind, Form, fixed, ragged, null_of}
use Rattle.array.specs.Cells.{Value, Cell, leaf, rest}
use Rattle.array.specs.Content.{Content, leaves}
use Rattle.array.specs.Buffers.{lengths_of, content_outcome}
use Rattle.array.specs.Places.{mask_at, sum}
use Rattle.array.proofs.Answers.{pass}
use Rattle.array.proofs.Lists.{length_from_lem, map-from, map-map, All-of, All-image}
use Rattle.array.proofs.LayoutLaws.{Good, good_layout}
use Rattle.array.proofs.RestLaws.{StrictCell, leaf_by}
use Rattle.array.proofs.Resting.{laid_rests}
use Rattle.array.proofs.Rules.{enough_test_lem}
use Rattle.array.proofs.Sizes.{OfSize, SizedAs}
use Rattle.array.proofs.Sums.{length-joined-map}
use Rattle.codec.specs.Interleaved.{IsRagged}
use Rattle.table.specs.Table.{Table, length_of, bytes_of, cell_of, TableOk, most_store}
use Rattle.table.specs.Calls.{content_of, read_answer, read_out}
use Rattle.table.specs.Laws.{Working, ReadLaw, Reads}
use Rattle.table.proofs.Rules.{table_kind_test_lem, count_test_lem, table_test_lem, store_test_lem}
use Rattle.table.proofs.Order.{sum_fits}
use Rattle.table.proofs.Each.{all_below, bytes_long, cell_rests, cell_strict, lengths_are}

-- any list of ragged values has the form's size
pub ragged_sized : (f : Form) → IsRagged f → (vs : List Value) → SizedAs f vs
ragged_sized (fixed k o) r vs = absurd r
ragged_sized (ragged w p) r vs = All-of (OfSize (ragged w p)) (λ v. tt) vs

ragged_null : (f : Form) → IsRagged f → (d : ℕ) (x : Cell d) → rest [] d x ≡ x → rest (null_of f) d x ≡ x
ragged_null (fixed k o) r d x e = absurd r
ragged_null (ragged w p) r d x e = e

-- the cells' bytes, all of them
pub bytes_total : {d n : ℕ} {t : Table} → TableOk d n t → length (joined (leaves d (map (cell_of d n t) (from 0 n)))) ≡ sum t.lengths
bytes_total {d} {n} {t} ok =
    ap (λ (vs : List Value). length (joined vs)) (map-map (cell_of d n t) (leaf d) (from 0 n))
    ∙ length-joined-map (λ j. leaf d (cell_of d n t j)) (from 0 n)
    ∙ ap sum (map-from (λ j. length (leaf d (cell_of d n t j))) (length_of t) 0 n
    (λ j h. ap length (leaf_by (λ l. mask_at n t.masks l j) (bytes_of t j) d 0) ∙ bytes_long ok j (omega arith)))
    ∙ ap sum (lengths_are ok)

module _ {k : Kind} {n : ℕ} {t : Table} (w : Working k n t) where
  abbrev cells : List (Cell k.depth)
  cells = map (cell_of k.depth n t) (from 0 n)

  pub good : Good k n cells
  unfolding most_bytes most_store
  good = record {
    counted = length-map (from 0 n) (cell_of k.depth n t) ∙ length_from_lem 0 n;
    sized = ragged_sized k.form w.kind.is_ragged (leaves k.depth cells);
    small = omega (arith, bytes_total w.sound, sum_fits t n w.sound.placed w.sound.apart w.sound.lengths_fit, w.small);
    strict = All-image (StrictCell k.depth) (cell_of k.depth n t) (from 0 n) (all_below (λ j. StrictCell k.depth (cell_of k.depth n t j)) n (λ j h. cell_strict w.sound j));
  }

  read_law : ReadLaw k n t
  unfolding read_out read_answer
  read_law = record {
    given = λ into e. ap (λ (a : Answer Content). content_outcome a into)
        (pass 1 (table_kind_test_lem k w.kind) (pass 2 (count_test_lem n w.count) (pass 4 (table_test_lem k.depth n t w.sound) (pass 5 (store_test_lem t w.small)
        (pass 6 (enough_test_lem (content_of k n t) (lengths_of into) e) refl)))));
    rests = laid_rests good (All-image (λ x. rest (null_of k.form) k.depth x ≡ x) (cell_of k.depth n t) (from 0 n)
        (all_below (λ j. rest (null_of k.form) k.depth (cell_of k.depth n t j) ≡ cell_of k.depth n t j) n
        (λ j h. ragged_null k.form w.kind.is_ragged k.depth (cell_of k.depth n t j) (cell_rests w.sound j h))));
    valid = good_layout k n cells good;
  }

pub reads : Reads
reads k n t w = read_law w
