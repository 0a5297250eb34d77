-- Whether the index carries what is written, by the number of value bytes.
-- Assumes nothing.
use mathlib.Core.Path.{◌≡◌, refl, sym, ap, ◌∙◌}
use mathlib.Core.Logic.{inl, inr}
use Prim.Native.Nat.{ℕ, ◌^◌, ◌≤◌}
use native.Mathlib.Omega.{arith}
use mathlib.Core.Bool.{Bool, true, false}
use mathlib.Core.List.{List, map}
use lib.ListN.{length}
use lib.Dec.{leb, ltb}
use borrow.Author.Tests.{le-leb, lt-leb, ltb-true, ltb-false}
use Rattle.array.specs.declared.kind.ByteOrder.{ByteOrder}
use Rattle.array.specs.declared.kind.IndexWidth.{IndexWidth}
use Rattle.array.specs.declared.kind.IndexWidth.TheVariants.{Four, Eight}
use Rattle.array.specs.declared.kind.IndexPlace.{IndexPlace}
use Rattle.array.specs.declared.kind.Kind as declared
use Rattle.array.specs.declared.kind.Values.{Values}
use Rattle.array.specs.declared.kind.Values.TheVariants.{Fixed, Ragged}
use Rattle.array.specs.Limits.{most_bytes}
use Rattle.array.specs.Lists.{joined}
use Rattle.array.specs.Kind.{Form, fixed, ragged, FormOk}
use Rattle.array.specs.Cells.{Value}
use Rattle.array.specs.Content.{Content, ValuesOk}
use Rattle.array.specs.Places.{value_in, bytes_at, offset_at}
use Rattle.array.specs.Meaning.{form_of, kind_of, width_of, place_of}
use Rattle.codec.specs.Carried.{carried_test}
use Rattle.codec.specs.Interleaved.{IsRagged}
use Rattle.codec.specs.Calls.{values_left}
use Rattle.codec.proofs.Carried.{Below, below_carried, carried_test_lem, carried_sum}
use Rattle.codec.proofs.Lengths.{bytes_left}
use Rattle.live_cells.specs.Live.{live_at}
use Rattle.encode_data.specs.Offsets.{Offsets}
use Rattle.encode_data.proofs.Spans.{values_long}
use Rattle.encode_values.specs.Ready.{Encodable}
use Rattle.encode.proofs.Walk.{left_by}

-- the bytes that are left, by the offsets
left_long : (f : Form) → IsRagged f → (n : ℕ) (c : Content) (l : ℕ) → ValuesOk f n c
    → length (joined (map (value_in f c) (live_at n c.masks l))) ≡ bytes_at (offset_at c.offsets) (live_at n c.masks l)
left_long (fixed k o) r n c l p = absurd r
left_long (ragged w q) r n c l p = values_long {n = n} {os = c.offsets} c.masks l (record { counted = p.0; rising = p.1 }) c.values p.2

offsets_in : (f : Form) → IsRagged f → (n : ℕ) (c : Content) → ValuesOk f n c → Offsets n c.offsets
offsets_in (fixed k o) r n c p = absurd r
offsets_in (ragged w q) r n c p = record { counted = p.0; rising = p.1 }

-- what fewer bytes than this carry, each width carries
narrow_below : (f : Form) → FormOk f → (n : ℕ) → n ≤ 4294967295 → Below f n
narrow_below (fixed k o) ok n h = tt
narrow_below (ragged w p) (inl e) n h = rw e (omega (arith, h))
narrow_below (ragged w p) (inr e) n h = rw e (omega (arith, h))

leb_narrow : (m : ℕ) → leb m 4294967295 ≡ ltb m (256 ^ 4)
leb_narrow m = go (ltb m (256 ^ 4)) refl
  where
    go : (b : Bool) → ltb m (256 ^ 4) ≡ b → leb m 4294967295 ≡ b
    go true e = le-leb m 4294967295 (omega (arith, ltb-true m (256 ^ 4) e))
    go false e = lt-leb m 4294967295 (omega (arith, ltb-false m (256 ^ 4) e))

module _ (k : declared.Kind) {n : ℕ} {c : Content} (h : Encodable (kind_of k) n c) where
  abbrev left : List Value
  left = values_left (kind_of k) n c

  no_more : length (joined left) ≤ length c.values
  no_more = bytes_left (kind_of k) n c h.content

  pub ragged_offsets : IsRagged (form_of k.values) → Offsets n c.offsets
  ragged_offsets r = offsets_in (form_of k.values) r n c h.content.values_fit

  pub left_bytes : IsRagged (form_of k.values) → length (joined left) ≡ bytes_at (offset_at c.offsets) (live_at n c.masks k.depth)
  left_bytes r = ap (λ (vs : List Value). length (joined vs)) (left_by h.content) ∙ left_long (form_of k.values) r n c k.depth h.content.values_fit

  pub few_carried : length c.values ≤ 4294967295 → true ≡ carried_test (form_of k.values) left
  few_carried l =
      sym (carried_test_lem (form_of k.values) left
      (below_carried (form_of k.values) left (length c.values) (narrow_below (form_of k.values) h.kind.sound (length c.values) l) no_more))

  pub fixed_carried : {s : ℕ} {o : ByteOrder} → k.values ≡ Fixed s o → true ≡ carried_test (form_of k.values) left
  fixed_carried e = ap (λ (v : Values). carried_test (form_of v) left) (sym e)

  pub wide_carried : {w : IndexWidth} {p : IndexPlace} → k.values ≡ Ragged w p → w ≡ Eight → true ≡ carried_test (form_of k.values) left
  unfolding most_bytes
  wide_carried {w} {p} e q =
      sym (carried_test_lem (ragged 8 (place_of p)) left (below_carried (ragged 8 (place_of p)) left (length c.values) (omega (arith, h.small)) no_more))
      ∙ ap (λ (x : IndexWidth). carried_test (ragged (width_of x) (place_of p)) left) (sym q)
      ∙ ap (λ (v : Values). carried_test (form_of v) left) (sym e)

  pub narrow_carried : {w : IndexWidth} {p : IndexPlace} → k.values ≡ Ragged w p → w ≡ Four → {bytes : ℕ} → bytes ≡ length (joined left)
      → leb bytes 4294967295 ≡ carried_test (form_of k.values) left
  narrow_carried {w} {p} e q {bytes} b =
      ap (λ (m : ℕ). leb m 4294967295) b
      ∙ leb_narrow (length (joined left))
      ∙ sym (carried_sum 4 (place_of p) left)
      ∙ ap (λ (x : IndexWidth). carried_test (ragged (width_of x) (place_of p)) left) (sym q)
      ∙ ap (λ (v : Values). carried_test (form_of v) left) (sym e)
