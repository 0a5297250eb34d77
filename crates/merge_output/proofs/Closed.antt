-- The stores of a merge whose checks passed: what each asks, and that the outputs come out as the definition says, for fixed and for
-- ragged values.
-- Assumes nothing.
use mathlib.Core.Path.{◌≡◌, refl, sym, ap, ap₂, ◌∙◌, subst}
use Prim.Native.Nat.{ℕ, ◌+◌, ◌*◌, ◌<◌, ◌≤◌}
use native.Mathlib.Omega.{arith}
use mathlib.Core.List.{List, [], ◌++◌}
use lib.ListN.{length, drop}
use Rattle.array.specs.Answer.{Answer, gives, refuses, and_then, unless, Outcome}
use Rattle.array.specs.Lists.{All}
use Rattle.array.specs.Kind.{Kind, Masks, Form, fixed, ragged, Order, Place, null_of}
use Rattle.array.specs.Shape.{volume}
use Rattle.array.specs.Subset.{Subset, SubsetOk, cells_of_all}
use Rattle.array.specs.Cells.{Cell, blank}
use Rattle.array.specs.Content.{Content}
use Rattle.array.specs.declared.answer.Lengths.{Lengths}
use Rattle.array.specs.Buffers.{lengths_of, enough_test, over, content_outcome}
use Rattle.array.specs.Outcome.{content_array}
use Rattle.array.specs.Places.{fixed_at, offset_at}
use Rattle.chunks.specs.Chunks.{merge_of}
use Rattle.merge_stores.specs.Scatter.{scatter, places}
use Rattle.merge_stores.specs.Store.{parts, masks_merged, MasksAsked, PartsAsked}
use Rattle.merge_stores.specs.Ragged.{offsets_merged, RaggedMergeAsked}
use Rattle.merge_stores.proofs.Closing.{masks_close, fixed_close, offsets_close, values_close}
use Rattle.merge_stores.proofs.FirstChunk.{Chunked}
use Rattle.merge_stores.proofs.RaggedAsks.{ragged_asked}
use Rattle.merge_output.specs.Stores.{store_answer, MergeAsked}
use Rattle.merge_output.proofs.Totals.{found, masks_total, values_total}
use Rattle.merge_output.proofs.Lengths.{merged_masks, merged_bytes, fixed_bytes, ragged_offsets}
use Rattle.merge_output.proofs.Written.{short_masks, short_values, short_offsets, written}

-- a result with what lies beyond it is that result over the output
over_is : {s t : List ℕ} (old : List ℕ) {n : ℕ} → s ≡ t → length s ≡ n → t ++ drop n old ≡ over s old
over_is old e l = ap₂ (λ (x : List ℕ) (k : ℕ). x ++ drop k old) (sym e) (sym l)

-- what the stores are to leave behind
abbrev pub left : Kind → List ℕ → List Subset → Content → Content → Outcome Lengths Content
left k sh bs c old = content_outcome (store_answer k sh bs c (lengths_of old)) old

module _ {k : Kind} {sh : List ℕ} {bs : List Subset} {c : Content} {n : ℕ} (ok : All (SubsetOk sh) bs) (q : MergeAsked k sh bs c n) where
  abbrev cells : List (Cell k.depth)
  cells = (found k bs c q.checked.kept).0

  are : Chunked k bs c cells
  are = (found k bs c q.checked.kept).1

  abbrev merged : Content
  merged = merge_of k sh bs cells

  mask_bytes : length merged.masks ≡ k.depth * n
  mask_bytes = merged_masks sh ok q.once are ∙ ap (λ (n : ℕ). k.depth * n) (sym q.checked.counted)

  value_bytes : length merged.values ≡ length c.values
  value_bytes = merged_bytes sh ok q.once are

  module _ (old : Content) where
    left_is : content_outcome (unless (enough_test merged (lengths_of old)) 6 (gives merged)) old ≡ left k sh bs c old
    unfolding store_answer
    left_is =
        ap (λ (a : Answer (List (Cell k.depth))). content_outcome (and_then a (λ cs. unless (enough_test (merge_of k sh bs cs) (lengths_of old)) 6 (gives (merge_of k sh bs cs)))) old) (sym are.are)

    pub without_masks_lem : length old.masks < k.depth * n → record { answer = refuses 6; buffers = old } ≡ left k sh bs c old
    without_masks_lem h = short_masks merged old (length merged.offsets) mask_bytes value_bytes refl h ∙ left_is

    pub no_values : length old.values < length c.values → record { answer = refuses 6; buffers = old } ≡ left k sh bs c old
    no_values h = short_values merged old (length merged.offsets) mask_bytes value_bytes refl h ∙ left_is

    pub masks_asked : k.depth * n ≤ length old.masks → MasksAsked sh bs old.masks c.masks k.depth (n)
    masks_asked h = record {
      once = q.once;
      counted = q.checked.counted;
      room = h;
      enough = masks_total bs are;
    }

    masks_done : masks_merged sh bs k.depth c.masks k.depth ++ drop (k.depth * n) old.masks ≡ over merged.masks old.masks
    masks_done =
        over_is old.masks (masks_close (null_of k.form) sh are) mask_bytes

-- ---- values of one width

module _ {x : Masks} {d s : ℕ} {r : Order} {sh : List ℕ} {bs : List Subset} {c : Content} {n : ℕ} (ok : All (SubsetOk sh) bs)
    (q : MergeAsked (record { depth = d; masks = x; form = fixed s r }) sh bs c n) (old : Content) where
  width : length c.values ≡ volume sh * s
  width = fixed_bytes x s d r sh ok q.once (are ok q)

  parts_now : length c.values ≤ length old.values → PartsAsked sh bs old.values 0 s c.values 0 s
  parts_now h = record {
    narrow = q.checked.kind.sound.1;
    inner = omega arith;
    room = omega (arith, width);
    enough = values_total x s d r bs (are ok q);
  }

  fixed_now : d * n ≤ length old.masks → length c.values ≤ length old.values → {ms vs : List ℕ}
      → ms ≡ masks_merged sh bs d c.masks d ++ drop (d * n) old.masks
      → vs ≡ scatter old.values (places (fixed_at 0 s) (cells_of_all sh bs)) (parts 0 s s bs c.values)
      → record { answer = gives (record { masks = d * n; values = length c.values; offsets = 0 }); buffers = content_array ms vs old.offsets }
      ≡ left (record { depth = d; masks = x; form = fixed s r }) sh bs c old
  fixed_now hm hv {ms} {vs} em ev =
      let m : Content = merged ok q in
      written m old 0 (mask_bytes ok q) (value_bytes ok q) refl hm hv (omega arith) {os = old.offsets}
      (em ∙ masks_done ok q old)
      (ev ∙ fixed_close x s d r (null_of (fixed s r)) sh ok q.once (are ok q) old.values (omega (arith, width))
      ∙ over_is {s = m.values} {t = m.values} old.values refl (value_bytes ok q ∙ width))
      refl
      ∙ left_is ok q old

-- ---- ragged values

module _ {x : Masks} {w d : ℕ} {p : Place} {sh : List ℕ} {bs : List Subset} {c : Content} {n : ℕ} (ok : All (SubsetOk sh) bs)
    (q : MergeAsked (record { depth = d; masks = x; form = ragged w p }) sh bs c n) (old : Content) where
  offset_count_lem : length (merged ok q).offsets ≡ n + 1
  offset_count_lem = ragged_offsets d (volume sh) (blank [] d) (cells_of_all sh bs) (cells ok q) ∙ ap (λ (n : ℕ). n + 1) (sym q.checked.counted)

  short_now : length old.offsets ≤ n → record { answer = refuses 6; buffers = old } ≡ left (record { depth = d; masks = x; form = ragged w p }) sh bs c old
  short_now h = short_offsets (merged ok q) old (n + 1) (mask_bytes ok q) (value_bytes ok q) offset_count_lem (omega arith) ∙ left_is ok q old

  ragged_now : length c.values ≤ length old.values → n < length old.offsets
      → RaggedMergeAsked sh bs old.values old.offsets c.values c.offsets (n)
  ragged_now hv ho =
      ragged_asked x w d p q.once (are ok q) old.values old.offsets q.checked.counted ho q.checked.small hv

  stored_now : d * n ≤ length old.masks → length c.values ≤ length old.values → n < length old.offsets → {ms vs os : List ℕ}
      → ms ≡ masks_merged sh bs d c.masks d ++ drop (d * n) old.masks
      → os ≡ offsets_merged sh bs c.offsets ++ drop (n + 1) old.offsets
      → vs ≡ scatter old.values (places (offset_at os) (cells_of_all sh bs)) c.values
      → record { answer = gives (record { masks = d * n; values = length c.values; offsets = n + 1 }); buffers = content_array ms vs os }
      ≡ left (record { depth = d; masks = x; form = ragged w p }) sh bs c old
  stored_now hm hv ho {ms} {vs} {os} em eo ev =
      let m : Content = merged ok q in
      written m old (n + 1) (mask_bytes ok q) (value_bytes ok q) offset_count_lem hm hv (omega arith) (em ∙ masks_done ok q old)
      (ev ∙ ap (λ (y : List ℕ). scatter old.values (places (offset_at y) (cells_of_all sh bs)) c.values) eo
      ∙ values_close x w d p sh ok q.once (are ok q) (drop (n + 1) old.offsets) old.values hv
      ∙ over_is {s = m.values} {t = m.values} old.values refl (value_bytes ok q))
      (eo ∙ over_is old.offsets (sym (offsets_close x w d p sh ok q.once (are ok q))) offset_count_lem)
      ∙ left_is ok q old

-- ---- of the form that was found

module _ {k : Kind} {sh : List ℕ} {bs : List Subset} {c : Content} {n : ℕ} (ok : All (SubsetOk sh) bs) (q : MergeAsked k sh bs c n) (old : Content) where
  abbrev formed : Form → Kind
  formed f = record { depth = k.depth; masks = k.masks; form = f }

  as_form : {f : Form} → k.form ≡ f → MergeAsked (formed f) sh bs c n
  as_form e = subst (λ (f : Form). MergeAsked (formed f) sh bs c n) e q

  back : {f : Form} → k.form ≡ f → left (formed f) sh bs c old ≡ left k sh bs c old
  back e = ap (λ (f : Form). left (formed f) sh bs c old) (sym e)

  module _ {s : ℕ} {r : Order} (e : k.form ≡ fixed s r) where
    pub parts_asked : length c.values ≤ length old.values → PartsAsked sh bs old.values 0 s c.values 0 s
    parts_asked = parts_now ok (as_form e) old

    pub fixed_stored : k.depth * n ≤ length old.masks → length c.values ≤ length old.values → {ms vs : List ℕ}
        → ms ≡ masks_merged sh bs k.depth c.masks k.depth ++ drop (k.depth * n) old.masks
        → vs ≡ scatter old.values (places (fixed_at 0 s) (cells_of_all sh bs)) (parts 0 s s bs c.values)
        → record { answer = gives (record { masks = k.depth * n; values = length c.values; offsets = 0 }); buffers = content_array ms vs old.offsets } ≡ left k sh bs c old
    fixed_stored hm hv {ms} {vs} em ev = fixed_now ok (as_form e) old hm hv em ev ∙ back e

  module _ {w : ℕ} {p : Place} (e : k.form ≡ ragged w p) where
    pub no_offsets : length old.offsets ≤ n → record { answer = refuses 6; buffers = old } ≡ left k sh bs c old
    no_offsets h = short_now ok (as_form e) old h ∙ back e

    pub ragged_merge_asked : length c.values ≤ length old.values → n < length old.offsets
        → RaggedMergeAsked sh bs old.values old.offsets c.values c.offsets (n)
    ragged_merge_asked = ragged_now ok (as_form e) old

    pub ragged_stored : k.depth * n ≤ length old.masks → length c.values ≤ length old.values → n < length old.offsets → {ms vs os : List ℕ}
        → ms ≡ masks_merged sh bs k.depth c.masks k.depth ++ drop (k.depth * n) old.masks
        → os ≡ offsets_merged sh bs c.offsets ++ drop (n + 1) old.offsets
        → vs ≡ scatter old.values (places (offset_at os) (cells_of_all sh bs)) c.values
        → record { answer = gives (record { masks = k.depth * n; values = length c.values; offsets = n + 1 }); buffers = content_array ms vs os } ≡ left k sh bs c old
    ragged_stored hm hv ho {ms} {vs} {os} em eo ev = stored_now ok (as_form e) old hm hv ho em eo ev ∙ back e
