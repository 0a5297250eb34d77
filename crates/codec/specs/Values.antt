-- docs/SPEC.md, S4.2, S4.3, S4.9: the innermost content, plain values in their byte order, or ragged ones from offset 0 with their index.
-- Assumes nothing.
use Rattle.std.specs.Prelude.{ℕ, ◌*◌, List, map, length, eqb}
use Rattle.array.specs.Answer.{Answer, gives, unless, and_then}
use Rattle.array.specs.Lists.{joined, pieces}
use Rattle.array.specs.Kind.{Form, fixed, ragged, ordered}
use Rattle.array.specs.Offsets.{slices}
use Rattle.array.specs.Cells.{Value}
use Rattle.array.specs.Content.{end_to_end}
use Rattle.codec.specs.Ragged.{put_ragged, get_ragged}

unfoldable pub put_values : Form → List Value → List ℕ
put_values (fixed k o) vs = joined (map (ordered o) vs)
put_values (ragged w p) vs = put_ragged w p (end_to_end vs)

unfoldable pub get_values : Form → List ℕ → ℕ → Answer (List Value)
get_values (fixed k o) s n = unless (eqb (length s) (n * k)) 8 (gives (map (ordered o) (pieces k n s)))
get_values (ragged w p) s n = and_then (get_ragged w p s n) (λ x. gives (slices x.offsets x.values))
