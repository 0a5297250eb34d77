-- docs/SPEC.md, S16.5, S16.7 to S16.10: what holds of a live table while nothing but steps changes it.
-- A cut of any subset gives its cells, and is the same before, between and after them; m old chunks need m successful steps; a refused step changes nothing, and one
-- that met 6 may be tried again with a longer area that holds the same moved bytes.
-- Assumes nothing.
use Rattle.std.specs.Prelude.{ℕ, zero, suc, ◌+◌, ◌-◌, ◌<◌, ◌≤◌, ◌≡◌, true, List, [], ◌∷◌, map, length, take, drop, get_or}
use Rattle.array.specs.Answer.{Answer, gives, refuses}
use Rattle.array.specs.Cells.{Value}
use Rattle.array.specs.Subset.{subset_of, NumbersOk, cells_in}
use Rattle.array.specs.Content.{RaggedContent}
use Rattle.array.specs.Buffers.{ragged_lengths_of, ragged_outcome}
use Rattle.array.specs.Places.{sum}
use Rattle.codec.specs.Values.{put_values}
use Rattle.migrate.specs.Live.{LiveTable, new_form, chunk_subsets, chunk_count, moved_end, chunk_values}
use Rattle.migrate.specs.Calls.{cut_values, cut_or_refused, migrate_extract, Progress, nothing, entered, Lent, migrate_step}

-- ---- a cut gives the cells of its subset in row order, each from the chunk that holds it (S16.5)

-- every chunk is readable
abbrev pub Readable : LiveTable → List (List Value) → Type 0
Readable t vss = chunk_values true t ≡ gives vss

-- the numbers of a subset's cells
abbrev pub cells_asked : LiveTable → List ℕ → List ℕ
cells_asked t ns = cells_in t.shape (subset_of (length t.shape) ns)

abbrev pub cells_held : LiveTable → ℕ → List ℕ
cells_held t q = cells_in t.shape (get_or (chunk_subsets t) q [])

pub record CutLaw (t : LiveTable) (vss : List (List Value)) (ns : List ℕ) : Type 0 where
  -- refused by nothing but 5 and 6
  pub given : (out : RaggedContent) → migrate_extract t ns out ≡ ragged_outcome (cut_or_refused t ns (ragged_lengths_of out) vss) out
  pub counted : length (cut_values t ns vss) ≡ length (cells_asked t ns)
  -- cell p of the cut is cell r of chunk q where both have the same number
  pub cells : (p q r : ℕ) → p < length (cells_asked t ns) → q < chunk_count t → r < length (cells_held t q) → get_or (cells_held t q) r 0 ≡ get_or (cells_asked t ns) p 0
      → get_or (cut_values t ns vss) p [] ≡ get_or (get_or vss q []) r []

abbrev pub Cuts : Type 0
Cuts = (t : LiveTable) (vss : List (List Value)) → Readable t vss → (ns : List ℕ) → NumbersOk t.shape ns → CutLaw t vss ns

-- ---- the table after a step, from what the call left behind

abbrev pub with_lent : LiveTable → ℕ → Lent → LiveTable
with_lent t m l = record {
  shape = t.shape;
  subsets = t.subsets;
  old_lengths = t.old_lengths;
  old = t.old;
  moved = m;
  moved_lengths = l.moved_lengths;
  area = l.area;
}

abbrev pub moved_after : ℕ → Answer Progress → ℕ
moved_after m (gives nothing) = m
moved_after m (gives (entered l n)) = n
moved_after m (refuses k) = m

abbrev pub after : LiveTable → LiveTable
after t = with_lent t (moved_after t.moved (migrate_step t).answer) (migrate_step t).buffers

abbrev pub steps : ℕ → LiveTable → LiveTable
steps zero t = t
steps (suc i) t = steps i (after t)

-- ---- a cut is the same (S16.7): of any table at all, any subset, any outputs, refusals included

abbrev pub CutStays : Type 0
CutStays = (t : LiveTable) (i : ℕ) (ns : List ℕ) (out : RaggedContent) → migrate_extract (steps i t) ns out ≡ migrate_extract t ns out

-- ---- m old chunks need m successful steps (S16.8)

-- A step that succeeds adds 1 to the number moved, and only while a chunk is left; none is left only where all are moved.
pub record OneStep (t : LiveTable) : Type 0 where
  pub moves_one : (l n : ℕ) → (migrate_step t).answer ≡ gives (entered l n) → (n ≡ suc t.moved) × (t.moved < chunk_count t)
  pub none_left : (migrate_step t).answer ≡ gives nothing → t.moved ≡ chunk_count t

abbrev pub OneByOne : Type 0
OneByOne = (t : LiveTable) → OneStep t

abbrev pub new_length : List Value → ℕ
new_length vs = length (put_values new_form vs)

-- how many chunks are still old
abbrev pub old_left : LiveTable → ℕ
old_left t = chunk_count t - t.moved

-- each step enters the next chunk, and behind them none is left
pub record Migrates (t : LiveTable) (vss : List (List Value)) : Type 0 where
  pub each : (i : ℕ) → i < old_left t → (migrate_step (steps i t)).answer ≡ gives (entered (new_length (get_or vss (t.moved + i) [])) (suc (t.moved + i)))
  pub done : (migrate_step (steps (old_left t) t)).answer ≡ gives nothing

-- in an area that is long enough
abbrev pub AllMoved : Type 0
AllMoved = (t : LiveTable) (vss : List (List Value)) → Readable t vss → moved_end t + sum (map new_length (drop t.moved vss)) ≤ length t.area → Migrates t vss

-- ---- refusals (S16.9)

-- a refused step moves nothing, with 6 or any other number
abbrev pub RefusedStays : Type 0
RefusedStays = (t : LiveTable) (k : ℕ) → (migrate_step t).answer ≡ refuses k → after t ≡ t

-- the same table with another area lent, that holds the same moved bytes
abbrev pub with_area : LiveTable → List ℕ → LiveTable
with_area t a = with_lent t t.moved (record { moved_lengths = t.moved_lengths; area = a })

pub record SameMoved (t : LiveTable) (a : List ℕ) : Type 0 where
  pub long : moved_end t ≤ length a
  pub same : take (moved_end t) a ≡ take (moved_end t) t.area

-- so many bytes are needed, more than were left
pub record Again (t : LiveTable) : Type 0 where
  pub need : ℕ
  pub short : length t.area < moved_end t + need
  pub succeeds : (a : List ℕ) → SameMoved t a → moved_end t + need ≤ length a → (migrate_step (with_area t a)).answer ≡ gives (entered need (suc t.moved))
  pub cuts : (a : List ℕ) → SameMoved t a → (ns : List ℕ) (out : RaggedContent) → migrate_extract (with_area t a) ns out ≡ migrate_extract t ns out

abbrev pub TryAgain : Type 0
TryAgain = (t : LiveTable) → (migrate_step t).answer ≡ refuses 6 → Again t

-- ---- whatever is tried (S16.10): before each step another area may be lent, that holds the same moved bytes

-- the table after so many tries, by the areas lent for them
abbrev pub tried : List (List ℕ) → LiveTable → LiveTable
tried [] t = t
tried (a ∷ as') t = tried as' (after (with_area t a))

abbrev pub Lendable : List (List ℕ) → LiveTable → Type 0
Lendable [] t = Unit {0}
Lendable (a ∷ as') t = SameMoved t a × Lendable as' (after (with_area t a))

-- how many of them succeeded in moving a chunk
abbrev pub moved_one : Answer Progress → ℕ
moved_one (gives nothing) = 0
moved_one (gives (entered l n)) = 1
moved_one (refuses k) = 0

abbrev pub successes : List (List ℕ) → LiveTable → ℕ
successes [] t = 0
successes (a ∷ as') t = moved_one (migrate_step (with_area t a)).answer + successes as' (after (with_area t a))

pub record Tries (as' : List (List ℕ)) (t : LiveTable) : Type 0 where
  pub counted : (tried as' t).moved ≡ t.moved + successes as' t
  pub cuts : (ns : List ℕ) (out : RaggedContent) → migrate_extract (tried as' t) ns out ≡ migrate_extract t ns out
  -- and none is left only after as many as there were old chunks
  pub done : (migrate_step (tried as' t)).answer ≡ gives nothing → t.moved + successes as' t ≡ chunk_count t

abbrev pub AnyTries : Type 0
AnyTries = (t : LiveTable) (vss : List (List Value)) → Readable t vss → (as' : List (List ℕ)) → Lendable as' t → Tries as' t
