-- docs/SPEC.md, S6.23, S6.24: a guest's read and a guest's edit: what each answers, with the refusals in their order, and what it leaves behind.
-- Assumes nothing.
use Rattle.std.specs.Prelude.{ℕ, ◌&&◌, List, length, leb, ltb}
use Rattle.array.specs.Answer.{Answer, gives, unless, map_answer, Outcome}
use Rattle.array.specs.Kind.{Kind, kind_test}
use Rattle.array.specs.Cells.{Value}
use Rattle.array.specs.Shape.{volume, shape_test}
use Rattle.array.specs.Content.{Content, unless_kept}
use Rattle.array.specs.declared.answer.Lengths.{Lengths}
use Rattle.array.specs.Buffers.{lengths_of, enough_test, content_outcome, if_room}
use Rattle.table.specs.Table.{Table, table_kind_test, count_test, table_test, store_test}
use Rattle.table.specs.Setting.{setting_test, setting_of, settled, sum_after}
use Rattle.table.specs.Calls.{in_place}
use Rattle.rights.specs.Rights.{rights_test, permits, masked_test, guest_form}

-- ---- guest_read: what the plane shows of an array, in rest form. 6 goes by what is shown, so that it says nothing of what is hidden

unfoldable pub guest_answer : Kind → List ℕ → List ℕ → Content → Lengths → Answer Content
guest_answer k shape rights c room =
    let seen = guest_form k (volume shape) rights c in
    unless (kind_test k) 1
    (unless (shape_test shape) 2
    (unless (masked_test k) 17
    (unless (rights_test (volume shape) rights) 4
    (unless_kept k (volume shape) c
    (if_room (enough_test seen room) seen)))))

unfoldable pub guest_read : Kind → List ℕ → List ℕ → Content → Content → Outcome Lengths Content
unfolding guest_answer
guest_read k shape rights c out = content_outcome (guest_answer k shape rights c (lengths_of out)) out

-- ---- guest_edit: the setting of a cell that the plane shows

unfoldable pub edit_answer : Kind → ℕ → List ℕ → Table → ℕ → List ℕ → Value → Answer Table
edit_answer k n rights t c ms v =
    unless (table_kind_test k) 1
    (unless (count_test n) 2
    (unless (masked_test k) 17
    (unless (rights_test n rights) 4
    (unless (table_test k.depth n t && setting_test k.depth ms) 4
    (unless (store_test t) 5
    (unless (ltb c n) 15
    (unless (permits rights c) 18
    (unless (leb (sum_after k.depth c (setting_of k.depth ms v) t) (length t.store)) 16
    (gives (settled k.depth n c (setting_of k.depth ms v) t))))))))))

unfoldable pub guest_edit : Kind → ℕ → List ℕ → Table → ℕ → List ℕ → Value → Outcome (Unit {0}) Table
unfolding edit_answer
guest_edit k n rights t c ms v = record { answer = map_answer (λ u. tt) (edit_answer k n rights t c ms v); buffers = in_place (edit_answer k n rights t c ms v) t }
