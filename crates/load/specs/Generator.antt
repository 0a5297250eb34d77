-- docs/SPEC.md, S12.1: the generator of the load. Every draw hands back the state of the next one.
-- Assumes nothing.
use Rattle.std.specs.Prelude.{ℕ, zero, suc, ◌+◌, ◌*◌, ◌/◌, ◌%◌, [], ◌∷◌}
use Rattle.array.specs.Cells.{Value}

-- what was drawn, and the state that is handed back
pub record Drew (A : Type 0) : Type 0 where
  pub made : A
  pub state : ℕ

abbrev pub next_state : ℕ → ℕ
next_state s = (1664525 * s + 1013904223) % 4294967296

unfoldable pub draw : ℕ → Drew ℕ
draw s = record { made = next_state s / 65536; state = next_state s }

-- n value bytes, each a draw
unfoldable pub draw_bytes : ℕ → ℕ → Drew Value
unfolding draw
draw_bytes zero s = record { made = []; state = s }
draw_bytes (suc n) s =
    let b = draw s in
    let r = draw_bytes n b.state in
    record { made = b.made % 256 ∷ r.made; state = r.state }
