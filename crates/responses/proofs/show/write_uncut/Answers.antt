use Rattle.responses.proofs.Uncut.{written_uncut}
use Rattle.responses.proofs.show.write_uncut.Goals as goal

pub returns-then-bytes-lt-SHORT : goal.returns-then-bytes-lt-SHORT
returns-then-bytes-lt-SHORT g c =
    written_uncut 256 _ _ _ _ c.in_ok-show.ensures c.as_bytes-bytes.ensures c.if-bytes-lt-SHORT.true c.write_text.ensures
