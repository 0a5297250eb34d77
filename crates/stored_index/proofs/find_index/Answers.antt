-- `find_index` meets its contract: the index length as it was read, then the index at its place (IndexLaws).
-- Assumes nothing.
use mathlib.Core.Path.{◌≡◌, sym, ap, ◌∙◌}
use mathlib.Core.List.{List}
use Prim.Native.Nat.{ℕ, suc, ◌+◌, ◌-◌, ◌*◌, ◌≤◌}
use native.Mathlib.Omega.{arith}
use lib.ListN.{length, take, drop, length-drop}
use Rattle.array.specs.Answer.{map_answer}
use Rattle.array.specs.Bytes.{unle}
use Rattle.array.specs.Meaning.{width_of, place_of}
use Rattle.buffer.proofs.Fields.{field_value, field_refused}
use Rattle.codec.specs.Ragged.{length_at, index_at, data_at}
use Rattle.array.proofs.Answers.{told_same}
use Rattle.stored_index.specs.Index.{offsets_in, indexed_by, index_check, index_in, index_with, located, found_in}
use Rattle.stored_index.proofs.IndexLaws.{length_short, read_none, read_short, found_other, found_index}
use Rattle.stored_index.proofs.find_index.Goals as goal
use Rattle.stored_index.proofs.find_index.Goals.{In-Ok}

pub returns-in_default : goal.returns-in_default
unfolding index_in found_in
returns-in_default c =
    let a = c.args in
    let bytes = a.s.now in
    let place = place_of a.place in
    let left : ℕ = length bytes - a.at in
    let r = field_refused 8 7 bytes (a.at + length_at place left) _ (sym c.read_length.ensures ∙ told_same c.in_default.is) in
    ap (map_answer (located (width_of a.width) place bytes a.at a.n))
    (read_none index_check (width_of a.width) a.n (drop a.at bytes) place (omega (arith, length-drop a.at bytes, length_short place left (omega (arith, r.0)))))

-- the index length lies within the bytes, and is l
field_is : (c : In-Ok) → let a = c.args in let lies = a.at + length_at (place_of a.place) (length a.s.now - a.at) in
    (8 ≤ length a.s.now - lies) × (c.in-Ok.l ≡ unle (take 8 (drop lies a.s.now)))
field_is c =
    let a = c.args in
    field_value 8 7 a.s.now (a.at + length_at (place_of a.place) (length a.s.now - a.at)) c.in-Ok.l (sym c.read_length.ensures ∙ told_same c.in-Ok.is)

long : (c : In-Ok) → 8 ≤ length c.args.s.now - c.args.at
long c = omega (arith, (field_is c).0)

pub overflow_sub-left : goal.overflow_sub-left
overflow_sub-left c = long (goal.at.overflow_sub-left c).In-Ok

pub returns-then-left-length : goal.returns-then-left-length
unfolding index_in found_in
returns-then-left-length c =
    let a = c.args in
    let whole = length-drop a.at a.s.now in
    ap (map_answer (located (width_of a.width) (place_of a.place) a.s.now a.at a.n))
    (read_short index_check (width_of a.width) a.n (drop a.at a.s.now) (omega (arith, whole, long (goal.at.returns-then-left-length c).In-Ok))
    (omega (arith, whole, c.index_length-length.ensures)) (place_of a.place))

pub returns-then-l-length : goal.returns-then-l-length
unfolding found_in
returns-then-l-length c =
    let a = c.args in
    let read = (goal.at.returns-then-l-length c).In-Ok in
    let size_is = c.index_length-length.ensures in
    ap (map_answer (located (width_of a.width) (place_of a.place) a.s.now a.at a.n))
    (found_other (width_of a.width) a.n a.s.now a.at (long read) (omega (arith, size_is)) (place_of a.place) (field_is read).1 (λ e. c.if-l-length.true (e ∙ sym size_is)))

pub returns : goal.returns
unfolding found_in
returns c =
    let a = c.args in
    let read = (goal.at.returns c).In-Ok in
    let width = width_of a.width in
    let place = place_of a.place in
    let left = length a.s.now - a.at in
    let size = width + a.n * width in
    let size_is : c.index_length-length.result ≡ size = c.index_length-length.ensures in
    let at_is : c.index_at.result ≡ index_at place left size = c.index_at.ensures ∙ ap (index_at place left) size_is in
    let from_is : c.data_at.result ≡ data_at place size = c.data_at.ensures ∙ ap (data_at place) size_is in
    let offsets : ℕ → List ℕ = λ x. offsets_in width (suc a.n) (drop (a.at + x) a.s.now) in
    c.check_index.ensures
    ∙ (λ j. map_answer (index_with a.n (a.at + at_is j) (a.at + from_is j)) (indexed_by (offsets (at_is j)) (left - 8 - size_is j)))
    ∙ ap (map_answer (located width place a.s.now a.at a.n))
    (found_index width a.n a.s.now a.at (long read) (omega (arith, size_is)) place (field_is read).1 (c.if-l-length.false ∙ size_is))
