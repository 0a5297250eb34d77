-- `interleaved_form_comes_back` meets its contract: the law itself.
use Rattle.codec.proofs.Older.{older_returns}
use Rattle.claims.proofs.interleaved_form_comes_back.Goals as goal

pub returns : goal.returns
returns c = older_returns
