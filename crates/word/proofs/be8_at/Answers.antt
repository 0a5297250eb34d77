-- `word::be8_at`: the bytes of the number read are those read (Words), and they are swapped.
-- Assumes nothing.
use mathlib.Core.Path.{ap, ◌∙◌}
use mathlib.Core.List.{List, reverse}
use Rattle.array.specs.Bytes.{unle}
use Rattle.std.proofs.Common.{rules, ℕ}
use Rattle.array.specs.Kind.{little}
use Rattle.buffer.proofs.Numbers.{swap}
use Rattle.word.proofs.Words.{le_read}
use Rattle.word.proofs.be8_at.Goals as goal

pub returns : goal.returns
returns c =
    c.swap_bytes.ensures ∙ swap c.le8_at.result ∙ ap (λ (l : List ℕ). unle (reverse l))
    (le_read little c.args.s.now (search rules) c.args.at 8 c.requires c.le8_at.ensures)
