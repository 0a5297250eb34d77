-- docs/SPEC.md, S16.11: a live table means what it meant, by the calls that users know, as one claim over them and the buffers lent to them.
-- Each chunk is read by the call for its string, an old one by decode_interleaved and a moved one by decode; all that was read, laid end to end, is merged.
-- However much is moved, and before, between and after steps, each chunk reads the same, and the merge is the cut of the whole shape.
-- Assumes nothing.
use Rattle.std.specs.Prelude.{ℕ, suc, ◌<◌, ◌≡◌, List, [], ◌∷◌, ◌++◌, length, get_or, replicate, ltb}
use Rattle.array.specs.Answer.{Answer, gives, and_then, map_answer, Outcome}
use Rattle.array.specs.Lists.{pick}
use Rattle.array.specs.Kind.{Kind, KindOk, Masks, Place, at_start}
use Rattle.array.specs.Shape.{volume}
use Rattle.array.specs.Subset.{lengths}
use Rattle.array.specs.Cells.{Value}
use Rattle.array.specs.Content.{Content, RaggedContent, end_to_end, unmasked}
use Rattle.array.specs.declared.answer.Lengths.{Lengths}
use Rattle.array.specs.declared.answer.RaggedLengths.{RaggedLengths}
use Rattle.array.specs.Buffers.{lengths_of, Enough, Taken, taken, whole, put_into}
use Rattle.codec.specs.Older.{flat_kind}
use Rattle.codec.specs.Calls.{decoded, interleaved_decoded}
use Rattle.chunks.specs.Chunks.{no_content, follow}
use Rattle.chunks.specs.Calls.{merged}
use Rattle.chunks.specs.ReadThenCut.{ragged_of, next_call}
use Rattle.migrate.specs.Live.{LiveTable, strings, chunk_subsets, chunk_count, new_lengths}
use Rattle.migrate.specs.Calls.{migrate_extract}
use Rattle.migrate.specs.Law.{Readable, tried, Lendable}

-- of a call whose outputs have no masks: the lengths that it names, and its outcome beside lent masks, which stay as they were
abbrev pub unmasked_lengths : RaggedLengths → Lengths
unmasked_lengths n = record { masks = 0; values = n.values; offsets = n.offsets }

abbrev pub beside : List ℕ → Outcome RaggedLengths RaggedContent → Outcome Lengths Content
beside ms o = record { answer = map_answer unmasked_lengths o.answer; buffers = record { masks = ms; values = o.buffers.values; offsets = o.buffers.offsets } }

-- ---- the chunks read, each by its call

module _ (t : LiveTable) where
  abbrev pub old_string : ℕ → List ℕ
  old_string i = get_or (strings t.old_lengths t.old) i []

  abbrev pub moved_string : ℕ → List ℕ
  moved_string i = get_or (strings (new_lengths t) t.area) i []

  -- the lengths of its subset
  abbrev pub shape_at : ℕ → List ℕ
  shape_at i = lengths (get_or (chunk_subsets t) i [])

  abbrev pub read_old : ℕ → RaggedContent → Outcome RaggedLengths RaggedContent
  read_old i out = interleaved_decoded (volume (shape_at i)) (old_string i) out

  -- as ragged values of depth 0, width 8, place start; x, the form of masks, says nothing of them
  abbrev pub read_moved : Masks → ℕ → Content → Outcome Lengths Content
  read_moved x i out = decoded (flat_kind x 8 at_start) (shape_at i) (moved_string i) out

  abbrev pub read_chunk : Masks → ℕ → Content → Outcome Lengths Content
  read_chunk x i out = pick (ltb i t.moved) (read_moved x i out) (beside out.masks (read_old i (ragged_of out)))

  -- the chunks from number i on, each into outputs of its own, and what was read laid end to end
  abbrev pub read_from : Masks → ℕ → List Content → Answer Taken
  read_from x i [] = gives (whole no_content)
  read_from x i (back ∷ backs) =
      and_then (taken (read_chunk x i back)) (λ a. and_then (read_from x (suc i) backs) (λ b. gives (whole (follow a.content b.content))))

  abbrev pub read_then_merge : Masks → Kind → List Content → Content → Outcome Lengths Content
  read_then_merge x k backs out = next_call (read_from x 0 backs) (λ c. merged k t.shape t.subsets c out) out

-- ---- what they hold

-- values and offsets of chunk i
abbrev pub held_in : List (List Value) → ℕ → Content
held_in vss i = unmasked (end_to_end (get_or vss i []))

-- outputs for each chunk, long enough for what it holds
pub record Backs (vss : List (List Value)) (backs : List Content) : Type 0 where
  pub counted : length backs ≡ length vss
  pub long : (i : ℕ) → i < length vss → Enough (held_in vss i) (lengths_of (get_or backs i no_content))

-- the numbers of the subset that is the whole shape
abbrev pub whole_of : List ℕ → List ℕ
whole_of shape = replicate (length shape) 0 ++ shape

pub record MeaningLaw (t : LiveTable) (vss : List (List Value)) : Type 0 where
  -- old or moved, a chunk gives what it holds, or 6
  pub reads : (x : Masks) (i : ℕ) → i < chunk_count t → (out : Content) → read_chunk t x i out ≡ put_into (held_in vss i) out
  -- all of them, merged with any ragged kind of depth 0, are the whole table: 5 and 6 included
  pub merges : (x y : Masks) (w : ℕ) (p : Place) → KindOk (flat_kind y w p) → (backs : List Content) → Backs vss backs → (out : Content)
      → read_then_merge t x (flat_kind y w p) backs out ≡ beside out.masks (migrate_extract t (whole_of t.shape) (ragged_of out))

-- ---- the law: of the table, and of what tried steps make of it, by the same values

abbrev pub Meaning : Type 0
Meaning = (t : LiveTable) (vss : List (List Value)) → Readable t vss → (as' : List (List ℕ)) → Lendable as' t → MeaningLaw (tried as' t) vss
