-- docs/SPEC.md, S1.1, S1.4 to S1.11, S2.3: the content of an array, its cells, its rules and its rest form.
-- Assumes nothing.
use Rattle.std.specs.Prelude.{ℕ, zero, suc, ◌*◌, ◌≤◌, ◌≡◌, List, [], ◌∷◌, ◌++◌, map, Bool, ◌&&◌, length, take, drop, leb, eqb}
use Rattle.array.specs.Answer.{Answer, unless}
use Rattle.array.specs.Limits.{most_bytes}
use Rattle.array.specs.Lists.{joined, pieces, All, every}
use Rattle.array.specs.Kind.{Kind, KindOk, Form, fixed, ragged, null_of}
use Rattle.array.specs.Shape.{volume, ShapeOk}
use Rattle.array.specs.Offsets.{last, Rising, rising_test, offsets_of, slices}
use Rattle.array.specs.Cells.{Value, Cell, Strict, strict_test, mask_of, inners, leaf, rest, blank}

-- the mask planes laid end to end, outermost first; the value bytes; the offsets
pub record Content : Type 0 where
  pub masks : List ℕ
  pub values : List ℕ
  pub offsets : List ℕ

-- ragged values of depth 0
pub record RaggedContent : Type 0 where
  pub values : List ℕ
  pub offsets : List ℕ

-- values laid end to end from offset 0
abbrev pub end_to_end : List Value → RaggedContent
end_to_end vs = record { values = joined vs; offsets = offsets_of vs }

abbrev pub unmasked : RaggedContent → Content
unmasked c = record { masks = []; values = c.values; offsets = c.offsets }

-- ---- from cells to content: planes, values and offsets, ragged values end to end from offset 0

abbrev pub masks_of : (d : ℕ) → List (Cell d) → List ℕ
masks_of zero cs = []
masks_of (suc d) cs = mask_of cs ++ masks_of d (inners cs)

abbrev pub leaves : (d : ℕ) → List (Cell d) → List Value
leaves d cs = map (leaf d) cs

abbrev pub offsets_for : Form → List Value → List ℕ
offsets_for (fixed k o) vs = []
offsets_for (ragged w p) vs = offsets_of vs

abbrev pub layout : Form → (d : ℕ) → List (Cell d) → Content
layout f d cs = record { masks = masks_of d cs; values = joined (leaves d cs); offsets = offsets_for f (leaves d cs) }

-- ---- from content to cells

abbrev pub pair_up : {A : Type 0} → List ℕ → List A → List (ℕ × A)
pair_up [] xs = []
pair_up (m ∷ ms) [] = []
pair_up (m ∷ ms) (x ∷ xs) = (m, x) ∷ pair_up ms xs

-- values with the planes of n mask bytes before them
abbrev pub attach : (d n : ℕ) → List ℕ → List Value → List (Cell d)
attach zero n ps vs = vs
attach (suc d) n ps vs = pair_up (take n ps) (attach d n (drop n ps) vs)

abbrev pub values_in : Form → ℕ → Content → List Value
values_in (fixed k o) n c = pieces k n c.values
values_in (ragged w p) n c = slices c.offsets c.values

-- the n cells of an array
abbrev pub cells_of : (k : Kind) → ℕ → Content → List (Cell k.depth)
cells_of k n c = attach k.depth n c.masks (values_in k.form n c)

-- ---- the rules for content of n cells, and the test of them: refusal 4

abbrev pub ValuesOk : Form → ℕ → Content → Type 0
ValuesOk (fixed k o) n c = (length c.values ≡ n * k) × (length c.offsets ≡ 0)
ValuesOk (ragged w p) n c = (length c.offsets ≡ suc n) × Rising c.offsets × (last c.offsets ≡ length c.values)

abbrev pub values_test : Form → ℕ → Content → Bool
values_test (fixed k o) n c = eqb (length c.values) (n * k) && eqb (length c.offsets) 0
values_test (ragged w p) n c = eqb (length c.offsets) (suc n) && rising_test c.offsets && eqb (last c.offsets) (length c.values)

pub record ContentOk (k : Kind) (n : ℕ) (c : Content) : Type 0 where
  pub masks_fit : length c.masks ≡ k.depth * n
  pub values_fit : ValuesOk k.form n c

abbrev pub content_test : Kind → ℕ → Content → Bool
content_test k n c = eqb (length c.masks) (k.depth * n) && values_test k.form n c

-- the rule for mask bytes, hidden ones too (docs/SPEC.md, S1.11)
abbrev pub MasksOk : Content → Type 0
MasksOk c = All Strict c.masks

abbrev pub masks_test : Content → Bool
masks_test c = every strict_test c.masks

-- so many mask bytes, each 00 or 01: of a setting one for each level, of a rights plane one for each cell (refusal 4)
pub record StrictBytes (n : ℕ) (ms : List ℕ) : Type 0 where
  pub counted : length ms ≡ n
  pub strict : All Strict ms

abbrev pub strict_bytes_test : ℕ → List ℕ → Bool
strict_bytes_test n ms = eqb (length ms) n && every strict_test ms

-- all rules for an array of n cells, and for a chunk: refusal 4
pub record ArrayOk (k : Kind) (n : ℕ) (c : Content) : Type 0 where
  pub fits : ContentOk k n c
  pub strict : MasksOk c

abbrev pub array_test : Kind → ℕ → Content → Bool
array_test k n c = content_test k n c && masks_test c

-- at most so many value bytes: refusal 5
abbrev pub size_test : ℕ → Bool
size_test bytes = leb bytes most_bytes

-- an array that is handed over: 4, then 5, then the rest of the call
abbrev pub unless_kept : {A : Type 0} → Kind → ℕ → Content → Answer A → Answer A
unless_kept k n c rest = unless (array_test k n c) 4 (unless (size_test (length c.values)) 5 rest)

-- a valid array
pub record Valid (k : Kind) (shape : List ℕ) (c : Content) : Type 0 where
  pub kind : KindOk k
  pub shaped : ShapeOk shape
  pub content : ArrayOk k (volume shape) c
  pub small : length c.values ≤ most_bytes

-- ---- the rest form

-- the cell of a kind with nothing set
abbrev pub null_cell : (k : Kind) → Cell k.depth
null_cell k = blank (null_of k.form) k.depth

-- the rest form of content of n cells
abbrev pub rest_form : Kind → ℕ → Content → Content
rest_form k n c = layout k.form k.depth (map (rest (null_of k.form) k.depth) (cells_of k n c))
