-- docs/SPEC.md, S1.2: kinds. The depth, whether values are fixed or ragged, and how stored masks lie.
-- Assumes nothing.
use Rattle.std.specs.Prelude.{ℕ, ◌≤◌, ◌≡◌, ◌⊎◌, Bool, ◌&&◌, ◌||◌, [], reverse, replicate, leb, eqb}
use Rattle.array.specs.Limits.{most_depth, most_size}
use Rattle.array.specs.Cells.{Value}

-- the byte order of a fixed cell
pub data Order : Type 0 where
  little big : Order

-- where the index of ragged values lies
pub data Place : Type 0 where
  at_start at_end : Place

-- fixed: cell size and byte order; ragged: width of an offset in the index, and the index's place
pub data Form : Type 0 where
  fixed : ℕ → Order → Form
  ragged : ℕ → Place → Form

-- stored masks: a byte a cell, or a bit a cell
pub data Masks : Type 0 where
  as_bytes as_bits : Masks

pub record Kind : Type 0 where
  pub depth : ℕ
  pub masks : Masks
  pub form : Form

-- a kind that says nothing of masks means bytes
abbrev pub byte_kind : ℕ → Form → Kind
byte_kind d f = record { depth = d; masks = as_bytes; form = f }

-- the value of a null cell: zero bytes, or no bytes
abbrev pub null_of : Form → Value
null_of (fixed k o) = replicate k 0
null_of (ragged w p) = []

-- a fixed value as it is stored
abbrev pub ordered : Order → Value → Value
ordered little v = v
ordered big v = reverse v

-- the rules for a kind, and the test of them: refusal 1
abbrev pub FormOk : Form → Type 0
FormOk (fixed k o) = (1 ≤ k) × (k ≤ most_size)
FormOk (ragged w p) = (w ≡ 4) ⊎ (w ≡ 8)

abbrev pub form_test : Form → Bool
form_test (fixed k o) = leb 1 k && leb k most_size
form_test (ragged w p) = eqb w 4 || eqb w 8

pub record KindOk (k : Kind) : Type 0 where
  pub shallow : k.depth ≤ most_depth
  pub sound : FormOk k.form

abbrev pub kind_test : Kind → Bool
kind_test k = leb k.depth most_depth && form_test k.form
