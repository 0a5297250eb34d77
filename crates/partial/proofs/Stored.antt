-- Stored ragged values whose index was found: the offsets, read where they are stored, are those that the reader gives, and the cut of what
-- the reader gives has the values between them.
-- Assumes nothing.
use mathlib.Core.Path.{◌≡◌, refl, sym, ap, ap₂, ◌∙◌, subst}
use Prim.Native.Nat.{ℕ, zero, suc, ◌+◌, ◌-◌, ◌*◌, ◌≤◌, ◌<◌}
use native.Mathlib.Nat.{zero-mul, suc-mul}
use native.Mathlib.Omega.{arith}
use mathlib.Core.List.{List, [], ◌∷◌}
use lib.ListN.{length, take, drop, get_or, length-drop, length-map}
use lib.Seq.{drop-drop, length-take-le}
use Rattle.array.specs.Answer.{gives, unless}
use Rattle.array.specs.Lists.{pieces, All}
use Rattle.array.specs.Bytes.{unle}
use Rattle.array.specs.Kind.{byte_kind, Place, ragged}
use Rattle.array.specs.Shape.{volume}
use Rattle.array.specs.Subset.{SubsetOk, subset_of, cells_in}
use Rattle.array.specs.Cells.{Value}
use Rattle.array.specs.Offsets.{last, Rising}
use Rattle.array.specs.Content.{Content, RaggedContent, unmasked, ValuesOk, size_test, end_to_end}
use Rattle.array.specs.declared.kind.IndexWidth.{IndexWidth}
use Rattle.array.specs.Meaning.{width_of}
use Rattle.array.specs.Places.{offset_at, Rises, values_at}
use Rattle.array.proofs.Lists.{length-pieces, take_within}
use Rattle.array.proofs.Offsets.{last_at}
use Rattle.array.proofs.SubsetLaws.{cells_in_below}
use Rattle.codec.specs.Ragged.{get_ragged}
use Rattle.stored_index.specs.declared.Index.{Index}
use Rattle.stored_index.specs.Index.{offsets_in, found_in, ragged_at, ends_in, IndexWithin}
use Rattle.stored_index.proofs.CheckedIndex.{IndexFound, index_found}
use Rattle.chunks.specs.Calls.{ragged_cut}
use Rattle.array.proofs.Places.{run_below, begins_rise}
use Rattle.chunks.proofs.CutPlaces.{cut_is}
use Rattle.cut_ragged.specs.Source.{stored_at, source_at, There}
use Rattle.partial.specs.Stored.{source_of, stored_values, StoredAsked}

-- ---- offset j of an index

source_is : (width : IndexWidth) (index : ℕ) (os s : List ℕ) → source_at (source_of width) index os s ≡ stored_at (width_of width) s index
source_is IndexWidth.Four index os s = refl
source_is IndexWidth.Eight index os s = refl

source_there : (width : IndexWidth) (index : ℕ) (os s : List ℕ) (j : ℕ) → index + (width_of width + j * width_of width) ≤ length s → There (source_of width) index os s j
source_there IndexWidth.Four index os s j h = h
source_there IndexWidth.Eight index os s j h = h

offset_in : (w m : ℕ) (q : List ℕ) (j : ℕ) → j < m → get_or (offsets_in w m q) j 0 ≡ unle (take w (drop (j * w) q))
offset_in w zero q j h = absurd (omega arith)
offset_in w (suc m) q zero h = ap (λ (k : ℕ). unle (take w (drop k q))) (sym (zero-mul w))
offset_in w (suc m) q (suc j) h =
    let e : w + j * w ≡ suc j * w = omega (arith, suc-mul j w) in
    offset_in w m (drop w q) j (omega arith) ∙ ap (λ (l : List ℕ). unle (take w l)) (drop-drop (j * w) w q ∙ ap (λ (k : ℕ). drop k q) e)

-- it is the one that the reader gives
pub stored_is : (w n : ℕ) (s : List ℕ) (index j : ℕ) → j ≤ n → offset_at (offsets_in w (suc n) (drop index s)) j ≡ stored_at w s index j
unfolding stored_at
stored_is w n s index j h =
    offset_in w (suc n) (drop index s) j (omega arith) ∙ ap (λ (l : List ℕ). unle (take w l)) (drop-drop (j * w) index s)

-- ---- values whose index was found, by where they lie

abbrev pub read_at : ℕ → List ℕ → ℕ → ℕ → ℕ → RaggedContent
read_at w s n index source = record { values = take (stored_at w s index n) (drop source s); offsets = offsets_in w (suc n) (drop index s) }

pub record Read (width : IndexWidth) (p : Place) (s : List ℕ) (n : ℕ) (i : Index) : Type 0 where
  pub stored : StoredAsked width s i n
  pub gave : get_ragged (width_of width) p s n ≡ unless (size_test i.last) 5 (gives (read_at (width_of width) s n i.index i.from))
  pub keeps : ValuesOk (ragged (width_of width) p) n (unmasked (read_at (width_of width) s n i.index i.from))

module _ (width : IndexWidth) (p : Place) (s : List ℕ) (i : Index) where
  abbrev w : ℕ
  w = width_of width

  abbrev cells : ℕ
  cells = i.cells

  abbrev os : List ℕ
  os = offsets_in w (suc cells) (drop i.index s)

  many : length os ≡ suc cells
  many = length-map (pieces w (suc cells) (drop i.index s)) unle ∙ length-pieces w (suc cells) (drop i.index s)

  last_stored : last os ≡ stored_at w s i.index cells
  last_stored = last_at os cells many ∙ stored_is w cells s i.index cells (omega arith)

  by_places : IndexWithin w s i → os ≡ 0 ∷ ends_in w s i → get_ragged w p s cells ≡ unless (size_test i.last) 5 (gives (ragged_at w s i)) → Read width p s cells i
  by_places h os-are g =
      let e : i.last ≡ stored_at w s i.index cells = h.last_is ∙ ap last (sym os-are) ∙ last_stored in
      let at_source : source_at (source_of width) i.index [] s ≡ stored_at w s i.index = source_is width i.index [] s in
      let up : Rising os = subst Rising (sym os-are) (refl, h.rising) in
      let ok : ValuesOk (ragged w p) cells (unmasked (read_at w s cells i.index i.from)) =
      (many, up, last_stored ∙ sym (length-take-le (stored_at w s i.index cells) (drop i.from s) (omega (arith, length-drop i.from s, h.data_room)))) in
      record {
        stored = record {
          there = source_there width i.index [] s cells h.index_room;
          rises = subst (λ (off : ℕ → ℕ). Rises off cells) (sym at_source) (λ j l.
              omega (
                arith,
                begins_rise (ragged w p) cells (unmasked (read_at w s cells i.index i.from)) ok j l,
                stored_is w cells s i.index j (omega arith),
                stored_is w cells s i.index (suc j) (omega arith),
              ));
          data_room = omega (arith, h.data_room, ap (λ (off : ℕ → ℕ). off cells) at_source);
        };
        gave = g ∙ ap (λ (l : ℕ). unless (size_test i.last) 5 (gives (record { values = take l (drop i.from s); offsets = os }))) e;
        keeps = ok;
      }

-- the check's answer says where they lie
pub read_found : (width : IndexWidth) (p : Place) (s : List ℕ) (n : ℕ) (i : Index) → found_in (width_of width) p s 0 n ≡ gives i → Read width p s n i
read_found width p s n i h =
    let c : IndexFound (width_of width) p s 0 n i = index_found (width_of width) p s 0 n i (omega arith) h in
    subst (λ (m : ℕ). Read width p s m i) c.cells_are (by_places width p s i c.within c.offsets_are (ap (get_ragged (width_of width) p s) c.cells_are ∙ c.gave))

-- ---- the cut

-- the values between offsets that are the same
pub values_same : (off : ℕ → ℕ) {to : ℕ → ℕ} {n : ℕ} (q : List ℕ) → Rises to n → ((j : ℕ) → j ≤ n → off j ≡ to j) → (js : List ℕ) → All (λ j. j < n) js
    → values_at off (take (to n) q) js ≡ values_at to q js
values_same off q r e [] a = refl
values_same off {to} {n} q r e (j ∷ js) a =
    let h : j < n = a.0 in
    let up : to j ≤ to (suc j) = r j h in
    let top : to (suc j) ≤ to n = let i : j + 1 ≡ suc j = omega arith in omega (arith, run_below r j 1 (omega arith), ap to i) in
    ap₂ (λ (x : Value) (xs : List Value). x ∷ xs)
    (ap₂ (λ (x y : ℕ). take (x - y) (drop y (take (to n) q))) (e (suc j) (omega arith)) (e j (omega arith)) ∙ take_within (to j) (to (suc j) - to j) (to n) q (omega arith))
    (values_same off q r e js a.1)

pub read_cut : {width : IndexWidth} {p : Place} {s : List ℕ} {i : Index} (shape ns : List ℕ) → Read width p s (volume shape) i → SubsetOk shape (subset_of (length shape) ns)
    → ragged_cut (width_of width) p shape ns (read_at (width_of width) s (volume shape) i.index i.from) ≡ end_to_end (stored_values width s i (cells_in shape (subset_of (length shape) ns)))
read_cut {width} {p} {s} {i} shape ns r ok =
    let n : ℕ = volume shape in
    let at_source : source_at (source_of width) i.index [] s ≡ stored_at (width_of width) s i.index = source_is width i.index [] s in
    let x : RaggedContent = read_at (width_of width) s n i.index i.from in
    ap (λ (c : Content). record { values = c.values; offsets = c.offsets })
    (cut_is {k = byte_kind 0 (ragged (width_of width) p)} shape {c = unmasked x} (record { masks_fit = sym (zero-mul n); values_fit = r.keeps }) (subset_of (length shape) ns) ok)
    ∙ ap end_to_end
    (values_same (offset_at x.offsets) (drop i.from s) (subst (λ (off : ℕ → ℕ). Rises off n) at_source r.stored.rises) (stored_is (width_of width) n s i.index)
    (cells_in shape (subset_of (length shape) ns))
    (cells_in_below shape (subset_of (length shape) ns) ok))
    ∙ ap (λ (off : ℕ → ℕ). end_to_end (values_at off (drop i.from s) (cells_in shape (subset_of (length shape) ns)))) (sym at_source)
