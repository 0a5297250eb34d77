-- docs/SPEC.md, S10.47 to S10.51: guests' calls worked out by hand: what is hidden, what an edit moves, and the refusals in their order.
-- Assumes nothing.
use Rattle.std.specs.Prelude.{ℕ, ◌≡◌, [], ◌∷◌}
use Rattle.array.specs.Answer.{gives}
use Rattle.array.specs.Kind.{Kind, byte_kind, fixed, little}
use Rattle.array.specs.Content.{Content}
use Rattle.table.specs.Table.{Table}
use Rattle.table.specs.Lines.{flat, single, double, table, array, leaves, keeps, a, b, x, y, z, o}
use Rattle.rights.specs.Calls.{guest_read, guest_edit}

-- pairs of bytes, with and without masks
abbrev pub pairs : ℕ → Kind
pairs d = byte_kind d (fixed 2 little)

-- lent outputs
abbrev pub lent : Content
lent = array (9 ∷ 9 ∷ []) (9 ∷ []) (9 ∷ 9 ∷ 9 ∷ [])

-- a table of two cells, y below x, with a free byte; of the plane hides the first
abbrev pub two : Table
two = table (1 ∷ 1 ∷ []) (1 ∷ 0 ∷ []) (1 ∷ 1 ∷ []) (y ∷ x ∷ o ∷ [])

pub record Lines : Type 0 where
  -- one value byte is enough for what is shown (S14.3)
  pub read : guest_read single (2 ∷ []) (1 ∷ 0 ∷ []) (array (1 ∷ 1 ∷ []) (a ∷ b ∷ []) (0 ∷ 1 ∷ 2 ∷ [])) lent
      ≡ record { answer = gives (record { masks = 2; values = 1; offsets = 3 }); buffers = array (1 ∷ 0 ∷ []) (a ∷ []) (0 ∷ 1 ∷ 1 ∷ []) }
  pub no_room : guest_read single (2 ∷ []) (1 ∷ 1 ∷ []) (array (1 ∷ 1 ∷ []) (a ∷ b ∷ []) (0 ∷ 1 ∷ 2 ∷ [])) lent ≡ keeps 6 lent
  -- all levels of a hidden cell are 00, and its value is zero bytes or none
  pub levels : guest_read double (1 ∷ []) (0 ∷ []) (array (1 ∷ 1 ∷ []) (a ∷ []) (0 ∷ 1 ∷ [])) lent
      ≡ record { answer = gives (record { masks = 2; values = 0; offsets = 2 }); buffers = array (0 ∷ 0 ∷ []) (9 ∷ []) (0 ∷ 0 ∷ 9 ∷ []) }
  pub zeros : guest_read (pairs 1) (2 ∷ []) (0 ∷ 1 ∷ []) (array (1 ∷ 1 ∷ []) (10 ∷ 11 ∷ 12 ∷ 13 ∷ []) []) (array (9 ∷ 9 ∷ []) (9 ∷ 9 ∷ 9 ∷ 9 ∷ 9 ∷ []) [])
      ≡ record { answer = gives (record { masks = 2; values = 4; offsets = 0 }); buffers = array (0 ∷ 1 ∷ []) (0 ∷ 0 ∷ 12 ∷ 13 ∷ 9 ∷ []) [] }
  -- 17 right after 2, before every 4, for a fixed kind too; a plane is one byte a cell, 00 or 01
  pub no_shape : guest_read flat [] [] (array [] [] []) lent ≡ keeps 2 lent
  pub without_masks_lem : guest_read flat (1 ∷ []) [] (array [] [] (0 ∷ 0 ∷ [])) lent ≡ keeps 17 lent
  pub no_masks_fixed : guest_read (pairs 0) (1 ∷ []) [] (array [] [] []) lent ≡ keeps 17 lent
  pub other_byte : guest_read single (2 ∷ []) (1 ∷ 2 ∷ []) (array (1 ∷ 1 ∷ []) (a ∷ b ∷ []) (0 ∷ 1 ∷ 2 ∷ [])) lent ≡ keeps 4 lent
  pub short_plane : guest_read single (2 ∷ []) (1 ∷ []) (array (1 ∷ 1 ∷ []) (a ∷ b ∷ []) (0 ∷ 1 ∷ 2 ∷ [])) lent ≡ keeps 4 lent
  -- a permitted edit packs, and so moves the hidden cell; its mask and value stay
  pub edit : guest_edit single 2 (0 ∷ 1 ∷ []) two 1 (1 ∷ []) (z ∷ z ∷ []) ≡ leaves (table (1 ∷ 1 ∷ []) (0 ∷ 1 ∷ []) (1 ∷ 2 ∷ []) (x ∷ z ∷ z ∷ []))
  -- 1 and 17 before the plane's 4; that before 15; the setting's masks before 18; 15 before 18, and 18 before 16
  pub fixed_kind : guest_edit (pairs 0) 1 [] (table [] (0 ∷ []) (0 ∷ []) []) 0 [] [] ≡ keeps 1 (table [] (0 ∷ []) (0 ∷ []) [])
  pub no_levels : guest_edit flat 1 [] (table [] (0 ∷ []) (0 ∷ []) []) 0 [] [] ≡ keeps 17 (table [] (0 ∷ []) (0 ∷ []) [])
  pub plane : guest_edit single 2 (1 ∷ 2 ∷ []) two 0 (1 ∷ []) [] ≡ keeps 4 two
  pub plane_first : guest_edit single 2 (1 ∷ []) two 2 (1 ∷ []) [] ≡ keeps 4 two
  pub masks_of_setting : guest_edit single 2 (0 ∷ 1 ∷ []) two 0 (2 ∷ []) [] ≡ keeps 4 two
  pub past : guest_edit single 2 (0 ∷ 1 ∷ []) two 2 (1 ∷ []) [] ≡ keeps 15 two
  pub hidden : guest_edit single 2 (0 ∷ 1 ∷ []) two 0 (1 ∷ []) (z ∷ z ∷ z ∷ z ∷ []) ≡ keeps 18 two
  pub full : guest_edit single 2 (0 ∷ 1 ∷ []) two 1 (1 ∷ []) (z ∷ z ∷ z ∷ []) ≡ keeps 16 two
