-- A live table means what it meant, by the calls that users know (specs/Meaning).
-- Assumes nothing.
use Rattle.std.proofs.Common.{◌≡◌, ℕ, suc, ◌+◌, ◌-◌, ◌<◌, ◌≤◌, Bool, true, false, ◌&&◌, List, [], ◌∷◌, ◌++◌, map, length, get_or, drop, leb, ltb}
use Rattle.std.proofs.Common.{refl, sym, ap, ap₂, ◌∙◌, subst, inr, arith, lit≤, le_trans, length-take-le, get_or-drop, length-drop, take, drop-cons, take-append-drop}
use Rattle.std.proofs.Common.{le-leb, ltb-true, ltb-false}
use Rattle.std.proofs.lemmas.List.{get_or-map, get_or_append_left, get_or-append_right, length-map}
use lib.Dec.{leb-zero}
use Rattle.array.specs.Answer.{Answer, gives, refuses, and_then, unless, map_answer}
use Rattle.array.specs.Limits.{most_bytes, most_cells}
use Rattle.array.specs.Lists.{joined, pick}
use Rattle.array.specs.Kind.{Kind, KindOk, Masks, Place, at_start, ragged}
use Rattle.array.specs.Shape.{volume, ShapeOk}
use Rattle.array.specs.Subset.{Subset, lengths, FullOk, cells_of_all}
use Rattle.array.specs.Cells.{Value}
use Rattle.array.specs.Content.{Content, RaggedContent, end_to_end, unmasked, layout, leaves, cells_of, array_test, size_test}
use Rattle.array.specs.declared.answer.RaggedLengths.{RaggedLengths}
use Rattle.array.specs.Buffers.{lengths_of, ragged_lengths_of, Enough, enough_test, ragged_enough_test, if_room, ragged_outcome, content_outcome, Taken, taken, whole, put_into}
use Rattle.array.proofs.Answers.{pass, went_on, same_given}
use Rattle.array.proofs.Lists.{All-at, All-of, map_id}
use Rattle.array.proofs.Offsets.{length-ends}
use Rattle.array.proofs.Rules.{kind_test_lem, shape_test_lem, many_test_lem, array_test_lem, enough_test_lem}
use Rattle.array.proofs.Sizes.{OfSize}
use Rattle.array.proofs.SubsetLaws.{subset_shape, volume-le, all_below}
use Rattle.array.proofs.LayoutLaws.{Good, cells_layout, good_layout}
use Rattle.array.proofs.RestLaws.{StrictCell}
use Rattle.array.proofs.Taken.{taken_content}
use Rattle.codec.specs.Mask.{mask_form}
use Rattle.codec.specs.Ragged.{get_ragged}
use Rattle.codec.specs.Values.{get_values}
use Rattle.codec.specs.Interleaved.{interleaved_values}
use Rattle.codec.specs.Older.{flat_kind}
use Rattle.codec.specs.Calls.{decode_answer, decoded, interleaved_answer, interleaved_decoded}
use Rattle.codec.proofs.Accepted.{ragged_ok}
use Rattle.codec.proofs.Flat.{again, flat_read}
use Rattle.codec.proofs.Older.{OlderRead, older_read}
use Rattle.chunks.specs.Gather.{put_back, once_test}
use Rattle.chunks.specs.Chunks.{no_content, follow, chunk_cells, merge_of}
use Rattle.chunks.specs.Calls.{merge_answer, merged}
use Rattle.chunks.specs.ReadThenCut.{ragged_of, next_call}
use Rattle.chunks.proofs.Gather.{once_test_lem}
use Rattle.chunks.proofs.Chunks.{first_chunk_lem, later_chunks_lem}
use Rattle.migrate.specs.Live.{LiveTable, strings, Stored, older, newer, read_stored, read_chunks, chunk_subsets, chunk_count, new_lengths, stored_chunks}
use Rattle.migrate.specs.Calls.{cut_values, migrate_extract}
use Rattle.migrate.specs.Law.{Readable, with_area, after, tried, Lendable}
use Rattle.migrate.specs.Meaning.{beside, old_string, moved_string, shape_at, read_old, read_moved, read_chunk, read_from, held_in, Backs, whole_of, MeaningLaw, Meaning}
use Rattle.migrate.proofs.Strings.{length_strings}
use Rattle.migrate.proofs.Chunks.{cells_at, read_at}
use Rattle.migrate.proofs.Live.{Sound, sound, stored_counted, chunks_counted, area_values}
use Rattle.migrate.proofs.Cuts.{cuts, within, as_many}
use Rattle.migrate.proofs.Whole.{whole_numbers, gather_whole, length_back, bytes_back}
use Rattle.migrate.proofs.Law.{after_values}

-- ---- outcomes with no masks, beside lent masks

beside_is : (a : Answer RaggedContent) (out : Content) → beside out.masks (ragged_outcome a (ragged_of out)) ≡ content_outcome (map_answer unmasked a) out
beside_is (gives c) out = refl
beside_is (refuses k) out = refl

behind : (b : Bool) (k : ℕ) (a : Answer RaggedContent) → map_answer unmasked (unless b k a) ≡ unless b k (map_answer unmasked a)
behind true k a = refl
behind false k a = refl

-- masks ask for no room
same_room : (c : RaggedContent) (out : Content) → ragged_enough_test c (ragged_lengths_of (ragged_of out)) ≡ enough_test (unmasked c) (lengths_of out)
same_room c out = sym (ap (λ (b : Bool). b && leb (length c.values) (length out.values) && leb (length c.offsets) (length out.offsets)) (leb-zero (length out.masks)))

if_room_is : (c : RaggedContent) (out : Content)
    → map_answer unmasked (if_room (ragged_enough_test c (ragged_lengths_of (ragged_of out))) c) ≡ if_room (enough_test (unmasked c) (lengths_of out)) (unmasked c)
if_room_is c out =
    behind (ragged_enough_test c (ragged_lengths_of (ragged_of out))) 6 (gives c) ∙ ap (λ (b : Bool). if_room b (unmasked c)) (same_room c out)

-- ---- what a reader gave

newer_read : (s : List ℕ) (n : ℕ) {vs : List Value} → read_stored (newer s) n ≡ gives vs → get_ragged 8 at_start s n ≡ gives (end_to_end vs)
unfolding read_stored get_values
newer_read s n e =
    let g = went_on (get_ragged 8 at_start s n) _ e in
    let ok = ragged_ok 8 at_start s n g.0 g.1.0 in
    g.1.0 ∙ ap gives (sym (again g.0 ok.0 ok.1 ok.2) ∙ ap end_to_end (same_given g.1.1))

-- as many cells as were asked for, with few bytes
stored_read : (c : Stored) (n : ℕ) {vs : List Value} → read_stored c n ≡ gives vs → OlderRead n vs
unfolding read_stored
stored_read (older s) n e = older_read n s e
stored_read (newer s) n {vs} e =
    let ok = ragged_ok 8 at_start s n (end_to_end vs) (newer_read s n e) in
    record { counted = omega (arith, ok.0, length-ends 0 vs); small = ok.3 }

-- chunk i, of all
chunk_read : (bs : List Subset) (cs : List Stored) (vss : List (List Value)) → length cs ≡ length bs → read_chunks bs cs ≡ gives vss → (z : Stored) (i : ℕ) → i < length bs
    → read_stored (get_or cs i z) (cells_at bs i) ≡ gives (get_or vss i [])
chunk_read bs cs vss l e z i h =
    let before : length (take i cs) ≡ i = length-take-le i cs (omega arith) in
    let parts : take i cs ++ get_or cs i z ∷ drop (suc i) cs ≡ cs = ap (λ (r : List Stored). take i cs ++ r) (sym (drop-cons cs i z (omega arith))) ∙ take-append-drop i cs in
    subst (λ (j : ℕ). read_stored (get_or cs i z) (cells_at bs j) ≡ gives (get_or vss j [])) before
    (read_at bs (take i cs) (get_or cs i z) (drop (suc i) cs) vss (omega (arith, before)) (ap (read_chunks bs) parts ∙ e))

-- ---- chunks laid end to end

abbrev laid : List (List Value) → Content
laid [] = no_content
laid (vs ∷ vss) = follow (unmasked (end_to_end vs)) (laid vss)

module _ (y : Masks) (w : ℕ) (p : Place) where
  abbrev kind : Kind
  kind = flat_kind y w p

  laid_is : (vs : List Value) → layout (ragged w p) 0 vs ≡ unmasked (end_to_end vs)
  laid_is vs = ap (λ (us : List Value). unmasked (end_to_end us)) (map_id vs)

  good_read : {n : ℕ} {vs : List Value} → OlderRead n vs → Good kind n vs
  good_read {n} {vs} r = record {
    counted = r.counted;
    sized = All-of (OfSize (ragged w p)) (λ v. tt) (leaves 0 vs);
    small = subst (λ (us : List Value). length (joined us) ≤ most_bytes) (sym (map_id vs)) r.small;
    strict = All-of (StrictCell 0) (λ v. tt) vs;
  }

  -- they are taken apart into the values that were read
  apart : (bs : List Subset) (cs : List Stored) (vss : List (List Value)) → length cs ≡ length bs → read_chunks bs cs ≡ gives vss
      → chunk_cells kind bs (laid vss) ≡ gives (joined vss)
  unfolding chunk_cells read_chunks
  apart [] cs vss l e = subst (λ (us : List (List Value)). chunk_cells kind [] (laid us) ≡ gives (joined us)) (same_given e) refl
  apart (b ∷ bs) [] vss l e = absurd (omega arith)
  apart (b ∷ bs) (c ∷ cs) vss l e =
      let m : ℕ = volume (lengths b) in
      let f = went_on (read_stored c m) (λ vs. and_then (read_chunks bs cs) (λ us. gives (vs ∷ us))) e in
      let h = went_on (read_chunks bs cs) (λ us. gives (f.0 ∷ us)) f.1.1 in
      let g : Good kind m f.0 = good_read (stored_read c m f.1.0) in
      let t : Content = laid h.0 in
      let first : Content = layout (ragged w p) 0 f.0 in
      subst (λ (us : List (List Value)). chunk_cells kind (b ∷ bs) (laid us) ≡ gives (joined us)) (same_given h.1.1)
      (ap (λ (x : Content). chunk_cells kind (b ∷ bs) (follow x t)) (sym (laid_is f.0))
      ∙ ap₂ (λ (x z : Content). unless (array_test kind m x) 4 (and_then (chunk_cells kind bs z) (λ us. gives (cells_of kind m x ++ us))))
      (first_chunk_lem kind m f.0 g t) (later_chunks_lem kind m f.0 g t)
      ∙ pass 4 (array_test_lem kind m first (good_layout kind m f.0 g)) refl
      ∙ ap (λ (a : Answer (List Value)). and_then a (λ us. gives (cells_of kind m first ++ us))) (apart bs cs h.0 (omega arith) h.1.0)
      ∙ ap (λ (us : List Value). gives (us ++ joined h.0)) (cells_layout kind m f.0 g.counted g.sized))

-- ---- a table whose chunks are all read

module _ {t : LiveTable} {vss : List (List Value)} (s : Sound t vss) where
  abbrev bs : List Subset
  bs = chunk_subsets t

  abbrev news : List (List ℕ)
  news = strings (new_lengths t) t.area

  abbrev olds : List (List ℕ)
  olds = strings t.old_lengths t.old

  -- ---- its chunks, each as it lies

  news_counted : length (map newer news) ≡ t.moved
  news_counted =
      length-map news newer ∙ length_strings (new_lengths t) t.area
      ∙ length-take-le t.moved t.moved_lengths (omega (arith, s.lists.few, s.lists.moved_count))

  is_moved : (i : ℕ) → i < t.moved → get_or (stored_chunks t) i (newer []) ≡ newer (moved_string t i)
  is_moved i h =
      get_or_append_left (map newer news) (map older (drop t.moved olds)) (newer []) i (omega (arith, news_counted))
      ∙ get_or-map newer news i [] (newer []) (omega (arith, news_counted, length-map news newer))

  is_old : (i : ℕ) → t.moved ≤ i → i < chunk_count t → get_or (stored_chunks t) i (older []) ≡ older (old_string t i)
  is_old i h l =
      let back : t.moved + (i - t.moved) ≡ i = omega arith in
      get_or-append_right (map newer news) (map older (drop t.moved olds)) t.moved i (older []) news_counted h
      ∙ get_or-map older (drop t.moved olds) (i - t.moved) [] (older [])
      (omega (arith, length-drop t.moved olds, length_strings t.old_lengths t.old, s.lists.old_count))
      ∙ ap older (get_or-drop t.moved olds (i - t.moved) [] ∙ ap (λ (j : ℕ). get_or olds j []) back)

  -- what each reader gave
  gave : (z : Stored) (i : ℕ) → i < chunk_count t → read_stored (get_or (stored_chunks t) i z) (volume (shape_at t i)) ≡ gives (get_or vss i [])
  gave z i h = chunk_read bs (stored_chunks t) vss (stored_counted s) s.read z i h

  full_at : (i : ℕ) → i < chunk_count t → FullOk t.shape (get_or bs i [])
  full_at i h = All-at (FullOk t.shape) [] bs s.chunked.each i h

  -- ---- each chunk by its call

  abbrev held : ℕ → RaggedContent
  held i = end_to_end (get_or vss i [])

  moved_is : (x : Masks) (i : ℕ) → i < t.moved → i < chunk_count t → (out : Content) → read_moved t x i out ≡ put_into (held_in vss i) out
  unfolding decoded decode_answer
  moved_is x i l h out =
      let k : Kind = flat_kind x 8 at_start in
      let n : ℕ = volume (shape_at t i) in
      let shaped : ShapeOk (shape_at t i) = subset_shape t.shape (get_or bs i []) s.shaped (full_at i h).fits (full_at i h).full in
      let read : read_stored (newer (moved_string t i)) n ≡ gives (get_or vss i []) =
      ap (λ (c : Stored). read_stored c n) (sym (is_moved i l)) ∙ gave (newer []) i h in
      ap (λ (a : Answer Content). content_outcome a out)
      (pass 1 (kind_test_lem k (record { shallow = lit≤ tt; sound = inr refl })) (pass 2 (shape_test_lem (shape_at t i) shaped)
      (ap (λ (a : Answer Content). and_then a (λ c. if_room (enough_test c (lengths_of out)) c))
      (flat_read 8 at_start (mask_form x) n (moved_string t i)
      ∙ ap (λ (a : Answer RaggedContent). and_then a (λ c. gives (unmasked c))) (newer_read (moved_string t i) n read)))))

  old_is : (i : ℕ) → t.moved ≤ i → i < chunk_count t → (out : Content) → beside out.masks (read_old t i (ragged_of out)) ≡ put_into (held_in vss i) out
  unfolding interleaved_decoded interleaved_answer read_stored
  old_is i l h out =
      let n : ℕ = volume (shape_at t i) in
      let few : n ≤ most_cells = le_trans (volume-le t.shape (get_or bs i []) (full_at i h).fits) s.shaped.few_cells in
      let read : interleaved_values n (old_string t i) ≡ gives (get_or vss i []) =
      ap (λ (c : Stored). read_stored c n) (sym (is_old i l h)) ∙ gave (older []) i h in
      beside_is (interleaved_answer n (old_string t i) (ragged_lengths_of (ragged_of out))) out
      ∙ ap (λ (a : Answer RaggedContent). content_outcome (map_answer unmasked a) out)
      (pass 2 (le-leb n most_cells few)
      (ap (λ (a : Answer (List Value)). and_then a (λ vs. if_room (ragged_enough_test (end_to_end vs) (ragged_lengths_of (ragged_of out))) (end_to_end vs))) read))
      ∙ ap (λ (a : Answer Content). content_outcome a out) (if_room_is (held i) out)

  reads : (x : Masks) (i : ℕ) → i < chunk_count t → (out : Content) → read_chunk t x i out ≡ put_into (held_in vss i) out
  reads x i h out = go (ltb i t.moved) refl
    where
      go : (b : Bool) → ltb i t.moved ≡ b → pick b (read_moved t x i out) (beside out.masks (read_old t i (ragged_of out))) ≡ put_into (held_in vss i) out
      go true e = moved_is x i (ltb-true i t.moved e) h out
      go false e = old_is i (ltb-false i t.moved e) h out

  -- ---- all chunks

  all_read : (x : Masks) (us : List (List Value)) (backs : List Content) (i : ℕ) → length backs ≡ length us
      → ((j l : ℕ) → i + j ≡ l → j < length us → (out : Content) → read_chunk t x l out ≡ put_into (held_in us j) out)
      → ((j : ℕ) → j < length us → Enough (held_in us j) (lengths_of (get_or backs j no_content)))
      → read_from t x i backs ≡ gives (whole (laid us))
  all_read x [] [] i e each long = refl
  all_read x [] (back ∷ backs) i e each long = absurd (omega arith)
  all_read x (vs ∷ us) [] i e each long = absurd (omega arith)
  all_read x (vs ∷ us) (back ∷ backs) i e each long =
      let c : Content = unmasked (end_to_end vs) in
      let one : taken (read_chunk t x i back) ≡ gives (whole c) =
      ap taken (each 0 i (omega arith) (omega arith) back) ∙ taken_content (if_room (enough_test c (lengths_of back)) c) back
      ∙ ap (λ (a : Answer Content). and_then a (λ z. gives (whole z))) (pass 6 (enough_test_lem c (lengths_of back) (long 0 (omega arith))) refl) in
      ap₂ (λ (a b : Answer Taken). and_then a (λ f. and_then b (λ g. gives (whole (follow f.content g.content))))) one
      (all_read x us backs (suc i) (omega arith) (λ j l q h. each (suc j) l (omega arith) (omega arith)) (λ j h. long (suc j) (omega arith)))

  all_chunks : (x : Masks) (backs : List Content) → Backs vss backs → read_from t x 0 backs ≡ gives (whole (laid vss))
  all_chunks x backs b =
      all_read x vss backs 0 b.counted
      (λ j l q h out.
      let same : l ≡ j = omega arith in
      reads x l (omega (arith, chunks_counted s)) out ∙ ap (λ (i : ℕ). put_into (held_in vss i) out) same)
      b.long

  -- ---- the merge, and the cut of the whole shape

  abbrev all : List ℕ
  all = cells_of_all t.shape bs

  abbrev values : List Value
  values = put_back [] (volume t.shape) all (joined vss)

  abbrev form : RaggedContent
  form = end_to_end values

  -- the values of all chunks have as many bytes
  few_bytes : length (joined (leaves 0 (joined vss))) ≡ length (joined values)
  few_bytes =
      ap (λ (us : List Value). length (joined us)) (map_id (joined vss))
      ∙ sym (bytes_back (volume t.shape) all (all_below t.shape bs (within s)) s.once (joined vss) (as_many s))

  abbrev answer : Content → Answer Content
  answer out = unless (size_test (length (joined values))) 5 (if_room (enough_test (unmasked form) (lengths_of out)) (unmasked form))

  merge_is : (y : Masks) (w : ℕ) (p : Place) → KindOk (flat_kind y w p) → (out : Content) → merged (flat_kind y w p) t.shape t.subsets (laid vss) out ≡ content_outcome (answer out) out
  unfolding merged merge_answer
  merge_is y w p ok out =
      let k : Kind = flat_kind y w p in
      let rest : List Value → Answer Content =
      λ us. unless (size_test (length (joined (leaves 0 us)))) 5
      (unless (once_test (volume t.shape) all) 12 (if_room (enough_test (merge_of k t.shape bs us) (lengths_of out)) (merge_of k t.shape bs us))) in
      ap (λ (a : Answer Content). content_outcome a out)
      (pass 1 (kind_test_lem k ok) (pass 2 (shape_test_lem t.shape s.shaped) (pass 3 (many_test_lem t.shape t.subsets s.chunked)
      (ap (λ (a : Answer (List Value)). and_then a rest) (apart y w p bs (stored_chunks t) vss (stored_counted s) s.read)
      ∙ ap₂ (λ (n : ℕ) (a : Answer Content). unless (size_test n) 5 a) few_bytes
      (pass 12 (once_test_lem (volume t.shape) all s.once)
      (ap (λ (c : Content). if_room (enough_test c (lengths_of out)) c) (laid_is y w p values)))))))

  cut_is : Readable t vss → (out : Content) → beside out.masks (migrate_extract t (whole_of t.shape) (ragged_of out)) ≡ content_outcome (answer out) out
  cut_is r out =
      let ns : List ℕ = whole_of t.shape in
      let room : RaggedLengths = ragged_lengths_of (ragged_of out) in
      let small : Bool = size_test (length (joined values)) in
      let cut_by : List Value → Answer RaggedContent =
      λ us. unless (size_test (length (joined us))) 5 (if_room (ragged_enough_test (end_to_end us) room) (end_to_end us)) in
      let same : cut_values t ns vss ≡ values = gather_whole [] t.shape values (length_back [] (volume t.shape) all (joined vss)) in
      ap (beside out.masks) ((cuts t vss r ns (whole_numbers t.shape)).given (ragged_of out)) ∙ beside_is (cut_by (cut_values t ns vss)) out
      ∙ ap (λ (us : List Value). content_outcome (map_answer unmasked (cut_by us)) out) same
      ∙ ap (λ (a : Answer Content). content_outcome a out) (behind small 5 (if_room (ragged_enough_test form room) form) ∙ ap (unless small 5) (if_room_is form out))

  law : Readable t vss → MeaningLaw t vss
  law r = record {
    reads = reads;
    merges = λ x y w p ok backs b out.
        ap (λ (a : Answer Taken). next_call a (λ c. merged (flat_kind y w p) t.shape t.subsets c out) out) (all_chunks x backs b)
        ∙ merge_is y w p ok out ∙ sym (cut_is r out);
  }

-- ---- and after any tries

still_read : (as' : List (List ℕ)) (t : LiveTable) {vss : List (List Value)} → Readable t vss → Lendable as' t → Readable (tried as' t) vss
still_read [] t r h = r
still_read (a ∷ as') t r h = still_read as' (after (with_area t a)) (after_values (with_area t a) true ∙ area_values (sound t true r) h.0 true ∙ r) h.1

pub meaning : Meaning
meaning t vss r as' h = let u : Readable (tried as' t) vss = still_read as' t r h in law (sound (tried as' t) true u) u
