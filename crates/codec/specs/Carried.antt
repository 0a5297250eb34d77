-- docs/SPEC.md, S4.15, S5.6: what an index of a width, and the length fields of the older form, can carry. What they cannot is 20.
-- Assumes nothing.
use Rattle.std.specs.Prelude.{◌^◌, ◌<◌, Bool, true, List, length, ltb}
use Rattle.array.specs.Lists.{All, every}
use Rattle.array.specs.Kind.{Form, fixed, ragged}
use Rattle.array.specs.Offsets.{offsets_of}
use Rattle.array.specs.Cells.{Value}

-- each offset of the values that are written fits the width; a fixed form writes none
abbrev pub Carried : Form → List Value → Type 0
Carried (fixed k o) vs = Unit {0}
Carried (ragged w p) vs = All (λ o. o < 256 ^ w) (offsets_of vs)

abbrev pub carried_test : Form → List Value → Bool
carried_test (fixed k o) vs = true
carried_test (ragged w p) vs = every (λ o. ltb o (256 ^ w)) (offsets_of vs)

-- each cell's length fits the older form's field of 4 bytes, whatever the width
abbrev pub FieldsFit : List Value → Type 0
FieldsFit vs = All (λ v. length v < 256 ^ 4) vs

abbrev pub fields_test : List Value → Bool
fields_test vs = every (λ v. ltb (length v) (256 ^ 4)) vs
