-- `chunk_size` meets its contract: one law for each answer (proofs/OneChunk).
-- Assumes nothing.
use Prim.Native.Nat.{ℕ}
use mathlib.Core.Path.{◌≡◌, sym, ap, ◌∙◌}
use mathlib.Core.List.{List}
use native.Mathlib.Omega.{arith}
use Rattle.array.specs.Meaning.{form_of, width_of, place_of}
use Rattle.array.specs.declared.kind.Values.{Values}
use Rattle.merge_rules.specs.Chunks.{size_answer}
use Rattle.merge_rules.proofs.OneChunk.{size_ragged}
use Rattle.merge_rules.proofs.chunk_size.Goals as goal

abbrev by : {x y : Values} (m : ℕ) (os : List ℕ) → x ≡ y → size_answer (form_of y) m os ≡ size_answer (form_of x) m os
by m os e = ap (λ (z : Values). size_answer (form_of z) m os) (sym e)

pub returns-else-offsets-cells : goal.returns-else-offsets-cells
returns-else-offsets-cells c =
    let a = c.args in
    size_ragged a.cells a.offsets.now (width_of c.in-Ragged.field-0) (place_of c.in-Ragged.field-1) (omega arith) ∙ by a.cells a.offsets.now c.in-Ragged.is
