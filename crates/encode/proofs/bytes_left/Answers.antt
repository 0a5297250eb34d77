-- `encode::bytes_left` meets its contract: what every level sets, by the offsets.
-- Assumes nothing.
use mathlib.Core.Path.{sym, ap, ◌∙◌}
use Rattle.array.specs.Places.{bytes_at, offset_at}
use Rattle.live_cells.specs.Levels.{live_in}
use Rattle.live_cells.specs.declared.Level.{Level}
use Rattle.encode.proofs.Carries.{left_bytes}
use Rattle.encode.proofs.bytes_left.Goals as goal

pub returns : goal.returns
returns c =
    c.bytes.ensures
    ∙ ap (λ (l : Level). bytes_at (offset_at c.args.array.offsets.now) (live_in l)) c.counted-live.ensures
    ∙ sym (left_bytes c.args.kind c.requires.ready c.requires.with_offsets)
