-- Redundant by the law answer_is in table_setting/proofs/Outcomes.antt: a setting (S13.8 to S13.10) of a table that keeps its rules, by its slices.
-- The levels are as many as the setting's masks, and the cells as many as the starts.
-- Assumes nothing.
use Rattle.std.specs.Prelude.{ℕ, ◌≤◌, ◌<◌, ◌≡◌, List, length, leb, ltb}
use Rattle.array.specs.Answer.{Answer, gives, unless}
use Rattle.array.specs.Limits.{most_cells}
use Rattle.array.specs.Cells.{Value, leaf}
use Rattle.table.specs.Table.{Table, TableOk, most_store, store_test}
use Rattle.table.specs.Setting.{SettingOk, setting_of, settled, sum_after}

-- table and masks keep their rules, and there is room for the order of the cells
pub record Sound (room : ℕ) (t : Table) (ms : List ℕ) : Type 0 where
  pub table : TableOk (length ms) (length t.starts) t
  pub setting : SettingOk (length ms) ms
  pub few : length t.starts ≤ most_cells
  pub shallow : length ms ≤ 4
  pub order : length t.starts ≤ room

-- and the setting, of so many bytes, fits
pub record Ready (room : ℕ) (t : Table) (c : ℕ) (ms : List ℕ) (v : Value) (size : ℕ) : Type 0 where
  pub sound : Sound room t ms
  pub small : length t.store ≤ most_store
  pub low : c < length t.starts
  pub sized : size ≡ length (leaf (length ms) (setting_of (length ms) ms v))
  pub fits : sum_after (length ms) c (setting_of (length ms) ms v) t ≤ length t.store

abbrev pub settled_by : ℕ → List ℕ → Value → Table → Table
settled_by c ms v t = settled (length ms) (length t.starts) c (setting_of (length ms) ms v) t

-- 5, 15, 16, or the setting
abbrev pub setting_answer : ℕ → List ℕ → Value → Table → Answer Table
setting_answer c ms v t =
    unless (store_test t) 5
    (unless (ltb c (length t.starts)) 15
    (unless (leb (sum_after (length ms) c (setting_of (length ms) ms v) t) (length t.store)) 16
    (gives (settled_by c ms v t))))
