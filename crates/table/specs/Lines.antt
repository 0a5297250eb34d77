-- docs/SPEC.md, S10.37 to S10.46: calls on working tables worked out by hand: where bytes go, what packing moves, and the refusals in their order.
-- Assumes nothing.
use Rattle.std.specs.Prelude.{ℕ, ◌≡◌, List, [], ◌∷◌}
use Rattle.array.specs.Answer.{Answer, gives, refuses, Outcome}
use Rattle.array.specs.Kind.{Kind, byte_kind, ragged, fixed, little, at_start}
use Rattle.array.specs.Content.{Content}
use Rattle.table.specs.Table.{Table}
use Rattle.table.specs.declared.answer.Preview.{Preview}
use Rattle.table.specs.Calls.{made, read_out, cell_set, previewed, cells_packed}

-- ragged kinds of depth 0, 1 and 2
abbrev pub flat : Kind
flat = byte_kind 0 (ragged 8 at_start)

abbrev pub single : Kind
single = byte_kind 1 (ragged 8 at_start)

abbrev pub double : Kind
double = byte_kind 2 (ragged 8 at_start)

abbrev pub table : List ℕ → List ℕ → List ℕ → List ℕ → Table
table m s l b = record { masks = m; starts = s; lengths = l; store = b }

abbrev pub array : List ℕ → List ℕ → List ℕ → Content
array ms vs os = record { masks = ms; values = vs; offsets = os }

-- the table after a setting, and after a packing call that moved so many
abbrev pub leaves : Table → Outcome (Unit {0}) Table
leaves t = record { answer = gives tt; buffers = t }

abbrev pub moves : ℕ → Table → Outcome ℕ Table
moves r t = record { answer = gives r; buffers = t }

-- after the setting the lengths would sum to so many, with so many cells not packed
abbrev pub foresees : ℕ → ℕ → Answer Preview
foresees total unpacked = gives (record { total = total; unpacked = unpacked })

-- nothing is stored
abbrev pub keeps : {A B : Type 0} → ℕ → B → Outcome A B
keeps number old = record { answer = refuses number; buffers = old }

-- the letters a, b, c, w, x, y, z and a byte in no cell
abbrev pub a : ℕ
a = 0x61

abbrev pub b : ℕ
b = 0x62

abbrev pub c : ℕ
c = 0x63

abbrev pub w : ℕ
w = 0x77

abbrev pub x : ℕ
x = 0x78

abbrev pub y : ℕ
y = 0x79

abbrev pub z : ℕ
z = 0x7A

abbrev pub o : ℕ
o = 0x2E

pub record Lines : Type 0 where
  -- made of an array's rest form, not of the array: what is hidden takes no room (S13.2)
  pub rests : made double 1 (array (0 ∷ 1 ∷ []) (a ∷ []) (0 ∷ 1 ∷ [])) (table (9 ∷ 9 ∷ []) (9 ∷ []) (9 ∷ []) [])
      ≡ record { answer = gives (record { masks = 2; starts = 1; lengths = 1; store = 0 }); buffers = table (0 ∷ 0 ∷ []) (0 ∷ []) (0 ∷ []) [] }
  pub no_room : made flat 1 (array [] (a ∷ []) (0 ∷ 1 ∷ [])) (table [] (9 ∷ []) (9 ∷ []) []) ≡ keeps 6 (table [] (9 ∷ []) (9 ∷ []) [])
  -- read out in cell order, whatever lies where
  pub read : read_out flat 3 (table [] (3 ∷ 1 ∷ 0 ∷ []) (1 ∷ 2 ∷ 1 ∷ []) (z ∷ y ∷ y ∷ x ∷ o ∷ [])) (array [] (9 ∷ 9 ∷ 9 ∷ 9 ∷ []) (9 ∷ 9 ∷ 9 ∷ 9 ∷ []))
      ≡ record { answer = gives (record { masks = 0; values = 4; offsets = 4 }); buffers = array [] (x ∷ y ∷ y ∷ z ∷ []) (0 ∷ 1 ∷ 3 ∷ 4 ∷ []) }
  -- after the highest-lying cell, which is not the last by number
  pub highest : cell_set flat 3 (table [] (3 ∷ 1 ∷ 0 ∷ []) (1 ∷ 2 ∷ 1 ∷ []) (z ∷ y ∷ y ∷ x ∷ o ∷ o ∷ [])) 2 [] (w ∷ [])
      ≡ leaves (table [] (3 ∷ 1 ∷ 4 ∷ []) (1 ∷ 2 ∷ 1 ∷ []) (z ∷ y ∷ y ∷ x ∷ w ∷ o ∷ []))
  -- the old bytes are given up first
  pub gave_up : cell_set flat 2 (table [] (0 ∷ 1 ∷ []) (1 ∷ 1 ∷ []) (x ∷ y ∷ [])) 1 [] (b ∷ []) ≡ leaves (table [] (0 ∷ 1 ∷ []) (1 ∷ 1 ∷ []) (x ∷ b ∷ []))
  pub alone : cell_set flat 1 (table [] (0 ∷ []) (1 ∷ []) (x ∷ [])) 0 [] (y ∷ []) ≡ leaves (table [] (0 ∷ []) (1 ∷ []) (y ∷ []))
  -- but no gap is used again, and nothing is cleared
  pub no_gap : cell_set flat 2 (table [] (0 ∷ 1 ∷ []) (1 ∷ 1 ∷ []) (x ∷ y ∷ o ∷ [])) 0 [] (x ∷ []) ≡ leaves (table [] (2 ∷ 1 ∷ []) (1 ∷ 1 ∷ []) (x ∷ y ∷ x ∷ []))
  -- too little remains: all cells are packed, as they lie
  pub packs : cell_set flat 2 (table [] (0 ∷ 1 ∷ []) (1 ∷ 1 ∷ []) (x ∷ y ∷ o ∷ o ∷ [])) 0 [] (a ∷ b ∷ c ∷ [])
      ≡ leaves (table [] (1 ∷ 0 ∷ []) (3 ∷ 1 ∷ []) (y ∷ a ∷ b ∷ c ∷ []))
  pub packs_as_lying : cell_set flat 3 (table [] (3 ∷ 0 ∷ 1 ∷ []) (2 ∷ 0 ∷ 1 ∷ []) (o ∷ c ∷ o ∷ a ∷ a ∷ [])) 1 [] (b ∷ b ∷ [])
      ≡ leaves (table [] (1 ∷ 3 ∷ 0 ∷ []) (2 ∷ 2 ∷ 1 ∷ []) (c ∷ a ∷ a ∷ b ∷ b ∷ []))
  -- an empty value packs nothing
  pub empty : cell_set flat 2 (table [] (1 ∷ 0 ∷ []) (1 ∷ 1 ∷ []) (x ∷ y ∷ [])) 1 [] [] ≡ leaves (table [] (1 ∷ 0 ∷ []) (1 ∷ 0 ∷ []) (x ∷ y ∷ []))
  -- what an unset level hides is dropped, and does not count
  pub hides : cell_set single 1 (table (1 ∷ []) (0 ∷ []) (1 ∷ []) (x ∷ [])) 0 (0 ∷ []) (a ∷ b ∷ c ∷ []) ≡ leaves (table (0 ∷ []) (0 ∷ []) (0 ∷ []) (x ∷ []))
  pub hides_below : cell_set double 1 (table (1 ∷ 1 ∷ []) (0 ∷ []) (1 ∷ []) (x ∷ [])) 0 (0 ∷ 1 ∷ []) [] ≡ leaves (table (0 ∷ 0 ∷ []) (0 ∷ []) (0 ∷ []) (x ∷ []))
  -- packing: upwards over itself; the displaced ones are counted, not all
  pub over_itself : cells_packed flat 1 (table [] (1 ∷ []) (3 ∷ []) (o ∷ a ∷ b ∷ c ∷ [])) 1 ≡ moves 1 (table [] (0 ∷ []) (3 ∷ []) (a ∷ b ∷ c ∷ c ∷ []))
  pub displaced_only : cells_packed flat 2 (table [] (0 ∷ 2 ∷ []) (1 ∷ 1 ∷ []) (a ∷ o ∷ b ∷ [])) 1 ≡ moves 1 (table [] (0 ∷ 1 ∷ []) (1 ∷ 1 ∷ []) (a ∷ b ∷ b ∷ []))
  pub lowest_first : cells_packed flat 2 (table [] (3 ∷ 1 ∷ []) (1 ∷ 1 ∷ []) (o ∷ b ∷ o ∷ a ∷ [])) 1 ≡ moves 1 (table [] (3 ∷ 0 ∷ []) (1 ∷ 1 ∷ []) (b ∷ b ∷ o ∷ a ∷ []))
  pub none_left : cells_packed flat 1 (table [] (0 ∷ []) (1 ∷ []) (a ∷ [])) 256 ≡ moves 0 (table [] (0 ∷ []) (1 ∷ []) (a ∷ []))
  -- 1 before 2 before 4 before 15 before 16
  pub no_most : cells_packed flat 0 (table [] [] [] []) 257 ≡ keeps 1 (table [] [] [] [])
  pub no_kind : cell_set (byte_kind 0 (fixed 1 little)) 0 (table [] [] [] []) 0 [] [] ≡ keeps 1 (table [] [] [] [])
  pub no_cells : cells_packed flat 0 (table [] [] [] (x ∷ [])) 1 ≡ keeps 2 (table [] [] [] (x ∷ []))
  pub mask_byte : cell_set single 1 (table (1 ∷ []) (0 ∷ []) (0 ∷ []) []) 1 (2 ∷ []) [] ≡ keeps 4 (table (1 ∷ []) (0 ∷ []) (0 ∷ []) [])
  pub not_resting : cells_packed single 1 (table (0 ∷ []) (0 ∷ []) (1 ∷ []) (x ∷ [])) 1 ≡ keeps 4 (table (0 ∷ []) (0 ∷ []) (1 ∷ []) (x ∷ []))
  pub elsewhere : cells_packed flat 1 (table [] (1 ∷ []) (0 ∷ []) (x ∷ [])) 1 ≡ keeps 4 (table [] (1 ∷ []) (0 ∷ []) (x ∷ []))
  pub overlapping : cells_packed flat 2 (table [] (0 ∷ 1 ∷ []) (2 ∷ 1 ∷ []) (x ∷ y ∷ [])) 1 ≡ keeps 4 (table [] (0 ∷ 1 ∷ []) (2 ∷ 1 ∷ []) (x ∷ y ∷ []))
  pub beyond : cells_packed flat 1 (table [] (18446744073709551615 ∷ []) (1 ∷ []) (x ∷ [])) 1 ≡ keeps 4 (table [] (18446744073709551615 ∷ []) (1 ∷ []) (x ∷ []))
  pub no_cell : cell_set flat 1 (table [] (0 ∷ []) (0 ∷ []) []) 1 [] (a ∷ []) ≡ keeps 15 (table [] (0 ∷ []) (0 ∷ []) [])
  pub full : cell_set flat 1 (table [] (0 ∷ []) (0 ∷ []) []) 0 [] (a ∷ []) ≡ keeps 16 (table [] (0 ∷ []) (0 ∷ []) [])
  -- a preview: right behind the highest-lying cell both start elsewhere; where all are packed first, none does
  pub foreseen : previewed flat 2 (table [] (0 ∷ 1 ∷ []) (1 ∷ 1 ∷ []) (x ∷ y ∷ o ∷ o ∷ o ∷ [])) 0 [] (a ∷ b ∷ c ∷ []) ≡ foresees 4 2
  pub foreseen_packed : previewed flat 2 (table [] (0 ∷ 1 ∷ []) (1 ∷ 1 ∷ []) (x ∷ y ∷ o ∷ o ∷ [])) 0 [] (a ∷ b ∷ c ∷ []) ≡ foresees 4 0
  -- bytes given up leave those behind them displaced
  pub foreseen_empty : previewed flat 2 (table [] (0 ∷ 1 ∷ []) (1 ∷ 1 ∷ []) (x ∷ y ∷ o ∷ o ∷ [])) 0 [] [] ≡ foresees 1 1
  pub foreseen_hidden : previewed single 1 (table (1 ∷ []) (0 ∷ []) (1 ∷ []) (x ∷ [])) 0 (0 ∷ []) (a ∷ b ∷ c ∷ []) ≡ foresees 0 0
  -- refused as the setting is
  pub foreseen_no_cell : previewed flat 1 (table [] (0 ∷ []) (0 ∷ []) []) 1 [] (a ∷ []) ≡ refuses 15
  pub foreseen_full : previewed flat 1 (table [] (0 ∷ []) (0 ∷ []) []) 0 [] (a ∷ []) ≡ refuses 16
