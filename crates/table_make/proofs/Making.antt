-- What make_table answers, one law for each way it ends: refusals 1 to 5, then 6 or the table.
-- Assumes nothing.
use mathlib.Core.Path.{◌≡◌, refl, sym, ap, ◌∙◌}
use Prim.Native.Nat.{ℕ, ◌*◌, ◌≤◌, ◌<◌}
use native.Mathlib.Omega.{arith}
use mathlib.Core.Bool.{Bool, true, false}
use mathlib.Core.List.{List}
use lib.ListN.{length}
use lib.Dec.{leb}
use borrow.Author.Tests.{leb-true}
use Rattle.std.specs.Prelude.{Result, Ok, Err}
use Rattle.array.specs.declared.refusal.Refusal.{Refusal}
use Rattle.array.specs.Meaning.{number_of, told}
use Rattle.array.specs.Answer.{Answer, gives, refuses, unless, Outcome}
use Rattle.array.specs.Limits.{most_cells, most_depth}
use Rattle.array.specs.Kind.{Kind, Form, fixed, ragged}
use Rattle.array.specs.Content.{Content, ValuesOk, rest_form, unless_kept}
use Rattle.array.specs.Buffers.{over, if_room}
use Rattle.array.proofs.Rules.{right_of}
use Rattle.valid.specs.Check.{check_of}
use Rattle.valid.proofs.CheckLaws.{KeepsRules, check_refused, check_passed, check_valid}
use Rattle.codec.specs.Interleaved.{IsRagged}
use Rattle.array.specs.Places.{shown_at}
use Rattle.encode_data.specs.Offsets.{Offsets}
use Rattle.encode_data.specs.Values.{live_bytes}
use Rattle.encode_data.specs.declared.LiveValues.{LiveValues}
use Rattle.encode_data.proofs.Spans.{values_long}
use Rattle.encode_data.proofs.Summing.{bytes_le}
use Rattle.table.specs.Table.{Table, TableKind, table_kind_test, count_test, store_test}
use Rattle.table.specs.declared.answer.TableLengths.{TableLengths}
use Rattle.table.specs.Calls.{table_lengths, TableEnough, table_enough_test, table_of, make_answer, made}
use Rattle.table.specs.Meaning.{table_by}
use Rattle.table.proofs.Rules.{table_kind_ok, table_enough_test_lem, table_enough_ok}
use Rattle.rest_masks.specs.Rested.{rest_mask}
use Rattle.table_make.specs.Rested.{size_at, start_at, rest_table, rest_of, Held, table_outcome, put_table}
use Rattle.rest_masks.proofs.Numbering.{length_numbered}
use Rattle.rest_masks.proofs.Descending.{length_planes}
use Rattle.table_make.proofs.Rested.{table_path, rested_is}

-- nothing is stored
abbrev pub refused_table : ℕ → Table → Outcome TableLengths Table
refused_table number out = record { answer = refuses number; buffers = out }

module _ (t out : Table) where
  pub not_enough : (TableEnough t (table_lengths out) → ⊥) → refused_table 6 out ≡ put_table t out
  not_enough f = go (table_enough_test t (table_lengths out)) refl
    where
      go : (b : Bool) → table_enough_test t (table_lengths out) ≡ b → refused_table 6 out ≡ put_table t out
      go true e = absurd (f (table_enough_ok t (table_lengths out) e))
      go false e = ap (λ (b : Bool). table_outcome (unless b 6 (gives t)) out) (sym e)

  pub put : {r : TableLengths} {after : Table} → TableEnough t (table_lengths out) → r ≡ table_lengths t → after ≡ (table_outcome (gives t) out).buffers
      → ◌≡◌ {A = Outcome TableLengths Table} (record { answer = gives r; buffers = after }) (put_table t out)
  put enough er ea =
      (λ i. record { answer = gives (er i); buffers = ea i })
      ∙ ap (λ (b : Bool). table_outcome (unless b 6 (gives t)) out) (sym (table_enough_test_lem t (table_lengths out) enough))

-- ---- an array that keeps its rules

pub held_offsets : {d n : ℕ} {c : Content} → Held d n c → Offsets n c.offsets
held_offsets h = record { counted = h.counted; rising = h.rising }

-- how many bytes its store has, and that it has no more than the values
pub store_long : (v : LiveValues) {m : ℕ} → m ≡ live_bytes v.places → m ≡ length (rest_of v).store
store_long v e = let l = v.places.live.level in e ∙ sym (values_long l.masks.now l.depth v.places.rising v.values.now v.whole)

pub store_most : (v : LiveValues) → length (rest_of v).store ≤ length v.values.now
store_most v =
    let l = v.places.live.level in
    omega (arith, v.whole, values_long l.masks.now l.depth v.places.rising v.values.now v.whole, bytes_le v.places.rising (shown_at l.cells l.masks.now l.depth))

-- which output is too short for its table, or that all was stored
module _ (d n : ℕ) (c : Content) (out : Table) where
  pub without_masks_lem : length out.masks < d * n → refused_table 6 out ≡ put_table (rest_table d n c) out
  without_masks_lem h = not_enough (rest_table d n c) out (λ r. omega (arith, r.for_masks, length_planes (rest_mask n c.masks) n d 0))

  pub no_starts : length out.starts < n → refused_table 6 out ≡ put_table (rest_table d n c) out
  no_starts h = not_enough (rest_table d n c) out (λ r. omega (arith, r.for_starts, length_numbered (start_at n c.masks d c.offsets) n))

  pub no_lengths : length out.lengths < n → refused_table 6 out ≡ put_table (rest_table d n c) out
  no_lengths h = not_enough (rest_table d n c) out (λ r. omega (arith, r.for_lengths, length_numbered (size_at n c.masks d c.offsets) n))

  pub no_store : length out.store < length (rest_table d n c).store → refused_table 6 out ≡ put_table (rest_table d n c) out
  no_store h = not_enough (rest_table d n c) out (λ r. omega (arith, r.for_store))

  pub all_stored : d * n ≤ length out.masks → n ≤ length out.starts → n ≤ length out.lengths → length (rest_table d n c).store ≤ length out.store
      → {bytes : ℕ} {ms ss ls bs : List ℕ} → bytes ≡ length (rest_table d n c).store → ms ≡ over (rest_table d n c).masks out.masks
      → ss ≡ over (rest_table d n c).starts out.starts → ls ≡ over (rest_table d n c).lengths out.lengths → bs ≡ over (rest_table d n c).store out.store
      → ◌≡◌ {A = Outcome TableLengths Table} (record { answer = gives (record { masks = d * n; starts = n; lengths = n; store = bytes }); buffers = table_by ms ss ls bs })
      (put_table (rest_table d n c) out)
  all_stored hm hs hl hb e em es el eb =
      let lm : length (rest_table d n c).masks ≡ d * n = length_planes (rest_mask n c.masks) n d 0 in
      let ls : length (rest_table d n c).starts ≡ n = length_numbered (start_at n c.masks d c.offsets) n in
      let ll : length (rest_table d n c).lengths ≡ n = length_numbered (size_at n c.masks d c.offsets) n in
      put (rest_table d n c) out (record { for_masks = omega arith; for_starts = omega arith; for_lengths = omega arith; for_store = hb })
      (λ i. record { masks = sym lm i; starts = sym ls i; lengths = sym ll i; store = e i }) (table_path em es el eb)

ragged_held : (f : Form) → IsRagged f → {d n : ℕ} {c : Content} → d ≤ most_depth → n ≤ most_cells → length c.masks ≡ d * n → ValuesOk f n c → Held d n c
ragged_held (fixed k o) r a b m v = absurd r
ragged_held (ragged w p) r a b m v = record { shallow = a; few = b; masks_fit = m; counted = v.0; rising = v.1; ended = v.2 }

-- ---- refusals 1 to 5, and then the rest

-- what is said once the array has passed
abbrev behind : Kind → ℕ → Content → Table → Answer Table
behind k n c out = unless (store_test out) 5 (if_room (table_enough_test (table_of n (rest_form k n c)) (table_lengths out)) (table_of n (rest_form k n c)))

module _ (k : Kind) (n : ℕ) (c : Content) (out : Table) where
  pub make_kind : table_kind_test k ≡ false → refused_table 1 out ≡ made k n c out
  unfolding made make_answer
  make_kind e = rw e

  module _ (p : table_kind_test k ≡ true) where
    pub make_count : count_test n ≡ false → refused_table 2 out ≡ made k n c out
    unfolding made make_answer
    make_count e = rw (p, e)

    module _ (q : count_test n ≡ true) where
      past : {a : Answer Table} → unless_kept k n c (behind k n c out) ≡ a → table_outcome a out ≡ made k n c out
      unfolding made make_answer
      past e = sym (rw (p, q) (ap (λ (a : Answer Table). table_outcome a out) e))

      module _ {r : Result (Unit {0}) Refusal} (f : told r ≡ check_of k n c) where
        pub make_array : {why : Refusal} → r ≡ Err why → refused_table (number_of why) out ≡ made k n c out
        make_array {why} e = past (check_refused k n c r f (behind k n c out) why e)

        module _ (e : r ≡ Ok tt) where
          pub make_held : Held k.depth n c
          make_held =
              let h : KeepsRules k n c = check_valid k n c r f e in
              let t : TableKind k = table_kind_ok k p in
              ragged_held k.form t.is_ragged t.sound.shallow (leb-true n most_cells (right_of (leb 1 n) (leb n most_cells) q)) h.array.fits.masks_fit h.array.fits.values_fit

          pub make_store : store_test out ≡ false → refused_table 5 out ≡ made k n c out
          make_store h = past {a = refuses 5} (check_passed k n c r f e (behind k n c out) ∙ rw h)

          pub make_rest : store_test out ≡ true → put_table (rest_table k.depth n c) out ≡ made k n c out
          make_rest h =
              ap (λ (t : Table). put_table t out) (rested_is (check_valid k n c r f e).array.fits (table_kind_ok k p).is_ragged)
              ∙ past {a = if_room (table_enough_test (table_of n (rest_form k n c)) (table_lengths out)) (table_of n (rest_form k n c))} (check_passed k n c r f e (behind k n c out) ∙ rw h)
