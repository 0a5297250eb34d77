-- Redundant by the law fitted_is in table_setting/proofs/Judging.antt: whether a setting fits (S13.8, S13.10), by the lengths and the store's length.
-- Assumes nothing.
use Rattle.std.specs.Prelude.{ℕ, ◌+◌, List, length, get_or, set, leb, ltb}
use Rattle.array.specs.Answer.{Answer, gives, unless}
use Rattle.array.specs.Lists.{pick}
use Rattle.array.specs.Places.{sum, shown_by}
use Rattle.table.specs.Table.{most_store}
use Rattle.table_setting.specs.declared.fit.Fitting.{Fitting}

-- the bytes of a value count where all levels are set
abbrev pub size_by : List ℕ → ℕ → ℕ
size_by ms len = pick (shown_by (λ l. get_or ms l 0) (length ms)) len 0

abbrev pub fitting : List ℕ → ℕ → List ℕ → ℕ → Fitting
fitting l c ms len = record { size = size_by ms len; others = sum (set l c 0) }

-- 5, 15, 16, or it fits
abbrev pub fitted : List ℕ → ℕ → ℕ → List ℕ → ℕ → Answer Fitting
fitted l room c ms len =
    unless (leb room most_store) 5
    (unless (ltb c (length l)) 15
    (unless (leb (sum (set l c 0) + size_by ms len) room) 16
    (gives (fitting l c ms len))))
