-- docs/SPEC.md, S6.13: what the declared types of the code mean: the kind, the mark of a mask byte, and the answers, case by case.
-- Assumes nothing.
use Rattle.std.specs.Prelude.{ℕ, Result, Ok, Err}
use Rattle.array.specs.declared.kind.ByteOrder.{ByteOrder}
use Rattle.array.specs.declared.kind.ByteOrder.TheVariants.{Little, Big}
use Rattle.array.specs.declared.kind.IndexWidth.{IndexWidth}
use Rattle.array.specs.declared.kind.IndexWidth.TheVariants.{Four, Eight}
use Rattle.array.specs.declared.kind.IndexPlace.{IndexPlace}
use Rattle.array.specs.declared.kind.IndexPlace.TheVariants.{Start, End}
use Rattle.array.specs.declared.kind.MaskForm.{MaskForm}
use Rattle.array.specs.declared.kind.MaskForm.TheVariants.{Bytes, Packed}
use Rattle.array.specs.declared.kind.Values.{Values}
use Rattle.array.specs.declared.kind.Values.TheVariants.{Fixed, Ragged}
use Rattle.array.specs.declared.kind.Kind as declared
use Rattle.array.specs.declared.mark.Mark as marks
use Rattle.array.specs.declared.content.ArrayBytes.{ArrayBytes}
use Rattle.array.specs.declared.refusal.Refusal.{Refusal}
use Rattle.array.specs.Answer.{Answer, gives, refuses}
use Rattle.array.specs.Kind.{Kind, Form, fixed, ragged, Order, little, big, Place, at_start, at_end, Masks, as_bytes, as_bits}
use Rattle.array.specs.Content.{Content}
use Rattle.array.specs.Cells.{Mark, is_null, is_set, is_other}

abbrev pub order_of : ByteOrder → Order
order_of Little = little
order_of Big = big

abbrev pub width_of : IndexWidth → ℕ
width_of Four = 4
width_of Eight = 8

abbrev pub place_of : IndexPlace → Place
place_of Start = at_start
place_of End = at_end

abbrev pub masks_of : MaskForm → Masks
masks_of Bytes = as_bytes
masks_of Packed = as_bits

abbrev pub form_of : Values → Form
form_of (Fixed s o) = fixed s (order_of o)
form_of (Ragged w p) = ragged (width_of w) (place_of p)

abbrev pub kind_of : declared.Kind → Kind
kind_of k = record { depth = k.depth; masks = masks_of k.masks; form = form_of k.values }

abbrev pub told_mark : marks.Mark → Mark
told_mark marks.Mark.Null = is_null
told_mark marks.Mark.Set = is_set
told_mark marks.Mark.Other = is_other

-- an array as it is handed over
abbrev pub lent : ArrayBytes → Content
lent a = record { masks = a.masks.now; values = a.values.now; offsets = a.offsets.now }

-- the number of each refusal
abbrev pub number_of : Refusal → ℕ
number_of Refusal.Kind = 1
number_of Refusal.Shape = 2
number_of Refusal.Subset = 3
number_of Refusal.Content = 4
number_of Refusal.Size = 5
number_of Refusal.Output = 6
number_of Refusal.Short = 7
number_of Refusal.Length = 8
number_of Refusal.Count = 9
number_of Refusal.Falling = 10
number_of Refusal.PastEnd = 11
number_of Refusal.Cover = 12
number_of Refusal.UnusedBits = 13
number_of Refusal.MaskByte = 14
number_of Refusal.Cell = 15
number_of Refusal.Full = 16
number_of Refusal.NoMasks = 17
number_of Refusal.Hidden = 18
number_of Refusal.Arrangement = 19
number_of Refusal.Field = 20

-- what an answer of the code says: what is given, a length or the lengths, or the refusal by its number
abbrev pub told : {A : Type 0} → Result A Refusal → Answer A
told (Ok a) = gives a
told (Err e) = refuses (number_of e)
