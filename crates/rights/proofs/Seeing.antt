-- What a guest sees, cell by cell: the cells that the plane shows, in rest form, and nulls elsewhere (specs/Laws, Shows).
-- Assumes nothing.
use mathlib.Core.Path.{◌≡◌, refl, sym, ap, ap₂, ◌∙◌}
use mathlib.Core.Bool.{Bool, true, false}
use mathlib.Core.List.{List, map}
use Prim.Native.Nat.{ℕ, zero, suc, ◌≤◌, ◌<◌}
use native.Mathlib.Omega.{arith}
use lib.ListN.{length}
use Rattle.array.specs.Answer.{gives}
use Rattle.array.specs.Limits.{most_bytes}
use Rattle.array.specs.Lists.{from, pick}
use Rattle.array.specs.Kind.{Kind, Form, fixed, ragged, null_of}
use Rattle.array.specs.Cells.{Value, Cell, blank, rest}
use Rattle.array.specs.Shape.{volume}
use Rattle.array.specs.Content.{Content, ContentOk, ArrayOk, Valid, layout, null_cell}
use Rattle.array.specs.declared.answer.Lengths.{Lengths}
use Rattle.array.specs.Buffers.{lengths_of, Enough, enough_test, if_room, content_outcome}
use Rattle.array.specs.Places.{mask_at, value_in, cell_by, cell_at}
use Rattle.array.proofs.Answers.{pass}
use Rattle.array.proofs.Lists.{map-map, map-from}
use Rattle.array.proofs.Numbered.{cells_are}
use Rattle.array.proofs.Resting.{rest_ok, rest_small, rest_cell, rest_rests}
use Rattle.array.proofs.Rules.{kind_test_lem, shape_test_lem, strict_bytes_test_lem, rest_passes, enough_test_lem}
use Rattle.rights.specs.Rights.{RightsOk, permits, hidden_by, guest_form}
use Rattle.rights.specs.Calls.{guest_answer, guest_read}
use Rattle.rights.specs.Laws.{Shows}
use Rattle.rights.proofs.Rules.{masked_test_lem}
use Rattle.rights.proofs.Cleared.{outermost_at, inner_at, hidden_fits, hidden_ok}

-- ---- one cell

same_masks : (m m' : ℕ → ℕ) (v : Value) (d l : ℕ) → ((i : ℕ) → l ≤ i → m i ≡ m' i) → cell_by m v d l ≡ cell_by m' v d l
same_masks m m' v zero l e = refl
same_masks m m' v (suc d) l e = ap₂ (λ (x : ℕ) (r : Cell d). (x, r)) (e l (omega arith)) (same_masks m m' v d (suc l) (λ i h. e i (omega arith)))

-- the rest form of a cell whose outermost mask byte is cleared or not
veiled : (z : Value) (m m' : ℕ → ℕ) (v : Value) (b : Bool) (d : ℕ) → 0 < d → m' 0 ≡ pick b (m 0) 0 → ((l : ℕ) → m' (suc l) ≡ m (suc l))
    → rest z d (cell_by m' v d 0) ≡ pick b (rest z d (cell_by m v d 0)) (blank z d)
veiled z m m' v b zero some outermost inner = absurd (omega arith)
veiled z m m' v b (suc d) some outermost inner =
    ap₂ (λ (x : ℕ) (r : Cell d). rest z (suc d) (x, r)) outermost (same_masks m' m v d 1 later) ∙ one b
  where
    later : (i : ℕ) → 1 ≤ i → m' i ≡ m i
    later zero h = absurd (omega arith)
    later (suc i) h = inner i

    one : (b : Bool) → rest z (suc d) (pick b (m 0) 0, cell_by m v d 1) ≡ pick b (rest z (suc d) (m 0, cell_by m v d 1)) (zero, blank z d)
    one true = refl
    one false = refl

module _ (k : Kind) (n : ℕ) (rights : List ℕ) (c : Content) (some : 0 < k.depth) (counted : length rights ≡ n) where
  abbrev z : Value
  z = null_of k.form

  -- cell j as the guest sees it
  abbrev pub seen : ℕ → Cell k.depth
  seen j = pick (permits rights j) (rest z k.depth (cell_at k n c j)) (null_cell k)

  pub seen_cell : (j : ℕ) → j < n → rest z k.depth (cell_at k n (hidden_by rights c) j) ≡ seen j
  seen_cell j h =
      ap (λ (v : Value). rest z k.depth (cell_by (λ l. mask_at n (hidden_by rights c).masks l j) v k.depth 0)) (same_value k.form)
      ∙ veiled z (λ l. mask_at n c.masks l j) (λ l. mask_at n (hidden_by rights c).masks l j) (value_in k.form c j) (permits rights j) k.depth some
      (outermost_at n rights c.masks counted j h) (λ l. inner_at n rights c.masks counted l j)
    where
      same_value : (f : Form) → value_in f (hidden_by rights c) j ≡ value_in f c j
      same_value (fixed s o) = refl
      same_value (ragged w p) = refl

  pub guest_laid : ContentOk k n c → guest_form k n rights c ≡ layout k.form k.depth (map seen (from 0 n))
  guest_laid ok =
      ap (λ (cs : List (Cell k.depth)). layout k.form k.depth (map (rest z k.depth) cs)) (cells_are (hidden_fits rights ok))
      ∙ ap (layout k.form k.depth)
      (map-map (cell_at k n (hidden_by rights c)) (rest z k.depth) (from 0 n)
      ∙ map-from (λ j. rest z k.depth (cell_at k n (hidden_by rights c) j)) seen 0 n (λ j h. seen_cell j (omega arith)))

-- ---- the law

-- a valid array and a good plane are refused by nothing but 6
pub read_any : {k : Kind} {shape rights : List ℕ} {c : Content} → Valid k shape c → 0 < k.depth → RightsOk (volume shape) rights → (room : Lengths)
    → guest_answer k shape rights c room ≡ if_room (enough_test (guest_form k (volume shape) rights c) room) (guest_form k (volume shape) rights c)
unfolding guest_answer
read_any {k} {shape} {rights} {c} v some ok room =
    pass 1 (kind_test_lem k v.kind) (pass 2 (shape_test_lem shape v.shaped) (pass 17 (masked_test_lem k some) (pass 4 (strict_bytes_test_lem (volume shape) rights ok)
    (rest_passes k (volume shape) c v.content v.small refl))))

given : {k : Kind} {shape rights : List ℕ} {c : Content} → Valid k shape c → 0 < k.depth → RightsOk (volume shape) rights → (out : Content)
    → Enough (guest_form k (volume shape) rights c) (lengths_of out)
    → guest_read k shape rights c out ≡ content_outcome (gives (guest_form k (volume shape) rights c)) out
unfolding guest_read
given {k} {shape} {rights} {c} v some ok out room =
    ap (λ a. content_outcome a out) (read_any v some ok (lengths_of out) ∙ pass 6 (enough_test_lem (guest_form k (volume shape) rights c) (lengths_of out) room) refl)

pub shows : Shows
shows k shape rights c v some ok =
    let n : ℕ = volume shape in
    let hidden : ArrayOk k n (hidden_by rights c) = hidden_ok rights v.content in
    let small : length (hidden_by rights c).values ≤ most_bytes = v.small in
    record {
      given = given v some ok;
      cells = λ j h.
          rest_cell hidden small j h ∙ seen_cell k n rights c some ok.counted j h
          ∙ ap (λ (x : Cell k.depth). pick (permits rights j) x (null_cell k)) (sym (rest_cell v.content v.small j h));
      rests = rest_rests hidden small;
      valid = record { kind = v.kind; shaped = v.shaped; content = rest_ok hidden small; small = rest_small hidden small };
    }
