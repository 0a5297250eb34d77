-- docs/SPEC.md, S13.1 to S13.4: the working table, its cells and its rules.
-- A table of n cells has masks, as an array has them, and for each cell a start and a length in a store.
-- Assumes nothing.
use Rattle.std.specs.Prelude.{ℕ, zero, suc, ◌+◌, ◌*◌, ◌≤◌, ◌≡◌, ◌⊎◌, Bool, true, false, ◌&&◌, ◌||◌, List, [], ◌∷◌, length, get_or, take, drop, leb, ltb, eqb}
use Rattle.array.specs.Limits.{most_cells}
use Rattle.array.specs.Lists.{from, passing, All, every}
use Rattle.array.specs.Kind.{Kind, KindOk, kind_test}
use Rattle.array.specs.Cells.{Value, Cell, Strict, strict_test}
use Rattle.array.specs.Places.{mask_at, shown_by, cell_by}
use Rattle.codec.specs.Interleaved.{IsRagged, ragged_test}

-- bytes of a store at most: a limit of its own, not that of arrays
unfoldable pub most_store : ℕ
most_store = 16777216

pub record Table : Type 0 where
  pub masks : List ℕ
  pub starts : List ℕ
  pub lengths : List ℕ
  pub store : List ℕ

abbrev pub start_of : Table → ℕ → ℕ
start_of t j = get_or t.starts j 0

abbrev pub length_of : Table → ℕ → ℕ
length_of t j = get_or t.lengths j 0

-- the bytes of cell j
abbrev pub bytes_of : Table → ℕ → Value
bytes_of t j = take (length_of t j) (drop (start_of t j) t.store)

-- cell j, of d levels, among n
abbrev pub cell_of : (d n : ℕ) → Table → ℕ → Cell d
cell_of d n t j = cell_by (λ l. mask_at n t.masks l j) (bytes_of t j) d 0

-- ---- the kind and the count: refusals 1 and 2

pub record TableKind (k : Kind) : Type 0 where
  pub sound : KindOk k
  pub is_ragged : IsRagged k.form

abbrev pub table_kind_test : Kind → Bool
table_kind_test k = kind_test k && ragged_test k.form

abbrev pub CountOk : ℕ → Type 0
CountOk n = (1 ≤ n) × (n ≤ most_cells)

abbrev pub count_test : ℕ → Bool
count_test n = leb 1 n && leb n most_cells

-- ---- the rules for a table: refusal 4

-- a number that is 0 unless the test holds
abbrev pub OrZero : Bool → ℕ → Type 0
OrZero true x = Unit {0}
OrZero false x = x ≡ 0

abbrev pub or_zero_test : Bool → ℕ → Bool
or_zero_test b x = b || eqb x 0

-- the mask bytes of a cell in rest form: one that is not shown is 0
abbrev pub RestMasks : (ℕ → ℕ) → ℕ → Type 0
RestMasks m zero = Unit {0}
RestMasks m (suc l) = RestMasks m l × OrZero (shown_by m l) (m l)

abbrev pub rest_masks_test : (ℕ → ℕ) → ℕ → Bool
rest_masks_test m zero = true
rest_masks_test m (suc l) = rest_masks_test m l && or_zero_test (shown_by m l) (m l)

-- and so is the length where a level is null
abbrev pub RestBy : (ℕ → ℕ) → ℕ → ℕ → Type 0
RestBy m d len = RestMasks m d × OrZero (shown_by m d) len

abbrev pub rest_by_test : (ℕ → ℕ) → ℕ → ℕ → Bool
rest_by_test m d len = rest_masks_test m d && or_zero_test (shown_by m d) len

-- a cell lies in a store of so many bytes, and starts at 0 where it has none
abbrev pub Placed : ℕ → ℕ → ℕ → Type 0
Placed size start len = (start + len ≤ size) × OrZero (ltb 0 len) start

abbrev pub placed_test : ℕ → ℕ → ℕ → Bool
placed_test size start len = leb (start + len) size && or_zero_test (ltb 0 len) start

-- cells that start at start j and have len j bytes
module _ (start len : ℕ → ℕ) where
  abbrev pub ending : ℕ → ℕ
  ending j = start j + len j

  -- those that have bytes, among the first n
  abbrev pub filled_by : ℕ → List ℕ
  filled_by n = passing (λ j. ltb 0 (len j)) (from 0 n)

  -- two that share no byte
  abbrev pub Clear : ℕ → ℕ → Type 0
  Clear i j = (ending i ≤ start j) ⊎ (ending j ≤ start i)

  abbrev pub clear_test : ℕ → ℕ → Bool
  clear_test i j = leb (ending i) (start j) || leb (ending j) (start i)

  -- each of a list clear of those after it
  abbrev pub Apart : List ℕ → Type 0
  Apart [] = Unit {0}
  Apart (i ∷ is) = All (Clear i) is × Apart is

  abbrev pub apart_test : List ℕ → Bool
  apart_test [] = true
  apart_test (i ∷ is) = every (clear_test i) is && apart_test is

abbrev pub filled : Table → ℕ → List ℕ
filled t n = filled_by (start_of t) (length_of t) n

pub record TableOk (d n : ℕ) (t : Table) : Type 0 where
  pub masks_fit : length t.masks ≡ d * n
  pub starts_fit : length t.starts ≡ n
  pub lengths_fit : length t.lengths ≡ n
  pub strict : All Strict t.masks
  pub rests : All (λ j. RestBy (λ l. mask_at n t.masks l j) d (length_of t j)) (from 0 n)
  pub placed : All (λ j. Placed (length t.store) (start_of t j) (length_of t j)) (from 0 n)
  pub apart : Apart (start_of t) (length_of t) (filled t n)

abbrev pub fit_test : ℕ → ℕ → Table → Bool
fit_test d n t = eqb (length t.masks) (d * n) && eqb (length t.starts) n && eqb (length t.lengths) n

abbrev pub rests_test : ℕ → ℕ → Table → Bool
rests_test d n t = every (λ j. rest_by_test (λ l. mask_at n t.masks l j) d (length_of t j)) (from 0 n)

abbrev pub places_test : ℕ → Table → Bool
places_test n t = every (λ j. placed_test (length t.store) (start_of t j) (length_of t j)) (from 0 n)

unfoldable pub table_test : ℕ → ℕ → Table → Bool
table_test d n t =
    fit_test d n t && every strict_test t.masks && rests_test d n t && places_test n t && apart_test (start_of t) (length_of t) (filled t n)

-- ---- the store's length: refusal 5

abbrev pub store_test : Table → Bool
store_test t = leb (length t.store) most_store
