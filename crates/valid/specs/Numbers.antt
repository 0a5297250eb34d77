-- docs/SPEC.md, S6.15: a kind told by numbers, depth, form, size, order and mask form.
-- Form 0 is fixed and 1 ragged; size is the cell size or the index width; order 0 is little or start, 1 big or end; mask form 0 is bytes and 1
-- packed. A number outside its range is refusal 1.
-- Assumes nothing.
use Rattle.std.specs.Prelude.{ℕ, leb, Result}
use Rattle.array.specs.declared.kind.Kind as declared
use Rattle.array.specs.declared.kind.IndexWidth.{IndexWidth}
use Rattle.array.specs.declared.kind.IndexPlace.{IndexPlace}
use Rattle.array.specs.declared.refusal.Refusal.{Refusal}
use Rattle.array.specs.Answer.{Answer, gives, and_then, unless, map_answer, one_of}
use Rattle.array.specs.Limits.{most_depth}
use Rattle.array.specs.Kind.{Kind, Form, fixed, ragged, byte_kind, as_bits, little, big, at_start, at_end, form_test}
use Rattle.array.specs.Meaning.{kind_of, width_of, place_of, told}

abbrev pub fixed_of : ℕ → ℕ → Answer Form
fixed_of size order = map_answer (fixed size) (one_of little big order)

abbrev pub ragged_of : ℕ → ℕ → Answer Form
ragged_of width place = map_answer (ragged width) (one_of at_start at_end place)

abbrev pub form_numbered : ℕ → ℕ → ℕ → Answer Form
form_numbered form size order = and_then (one_of (fixed_of size order) (ragged_of size order) form) (λ f. f)

-- the kind of a form within its range
abbrev pub kind_with : ℕ → Form → Answer Kind
kind_with depth f = unless (form_test f) 1 (gives (byte_kind depth f))

abbrev pub numbered_byte_kind : ℕ → ℕ → ℕ → ℕ → Answer Kind
numbered_byte_kind depth form size order = unless (leb depth most_depth) 1 (and_then (form_numbered form size order) (kind_with depth))

-- the kind as it is, or with its stored masks packed
abbrev pub masked_by : ℕ → Kind → Answer Kind
masked_by mask k = one_of k (record { depth = k.depth; masks = as_bits; form = k.form }) mask

unfoldable pub numbered_kind : ℕ → ℕ → ℕ → ℕ → ℕ → Answer Kind
numbered_kind depth form size order mask = and_then (numbered_byte_kind depth form size order) (masked_by mask)

-- what the declared answer means
abbrev pub told_kind : Result declared.Kind Refusal → Answer Kind
told_kind r = map_answer kind_of (told r)

-- width and place alone, as partial_decode takes them: a ragged form within its range
abbrev pub within : Form → Answer Form
within f = unless (form_test f) 1 (gives f)

abbrev pub numbered_index : ℕ → ℕ → Answer Form
numbered_index width place = and_then (ragged_of width place) within

abbrev pub told_form : Result (IndexWidth × IndexPlace) Refusal → Answer Form
told_form r = map_answer (λ i. ragged (width_of i.0) (place_of i.1)) (told r)
