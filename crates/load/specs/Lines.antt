-- docs/SPEC.md, S10.20 to S10.23: loads worked out by hand. The draws of start number 0, small tables, and the refusals in their order.
-- Assumes nothing.
use Rattle.std.specs.Prelude.{ℕ, ◌≡◌, List, [], ◌∷◌}
use Rattle.array.specs.Answer.{gives, refuses, Outcome}
use Rattle.array.specs.Kind.{Kind, byte_kind, fixed, ragged, little, at_start}
use Rattle.array.specs.Content.{Content}
use Rattle.array.specs.declared.answer.Lengths.{Lengths}
use Rattle.load.specs.Generator.{draw}
use Rattle.load.specs.Load.{load_of}
use Rattle.load.specs.Calls.{generated}

abbrev pub array : List ℕ → List ℕ → List ℕ → Content
array ms vs os = record { masks = ms; values = vs; offsets = os }

-- nothing is stored
abbrev pub keeps : ℕ → Content → Outcome Lengths Content
keeps number out = record { answer = refuses number; buffers = out }

-- depth 1, size 1
abbrev pub masked : Kind
masked = byte_kind 1 (fixed 1 little)

pub record Lines : Type 0 where
  pub first_draw : draw 0 ≡ record { made = 15470; state = 1013904223 }
  -- depth 0, size 1
  pub one_byte : load_of (byte_kind 0 (fixed 1 little)) (1 ∷ []) 0 ≡ array [] (0x6E ∷ []) []
  -- all of cell 0 comes before cell 1, and a null draws no byte: all masks first would give the byte CC, a byte drawn for the null 2E in a third cell
  pub two_cells : load_of masked (2 ∷ []) 0 ≡ array (1 ∷ 0 ∷ []) (0x50 ∷ 0 ∷ []) []
  pub three_cells : load_of masked (3 ∷ []) 0 ≡ array (1 ∷ 0 ∷ 1 ∷ []) (0x50 ∷ 0 ∷ 0x52 ∷ []) []
  -- depth 2, ragged: nulls at both levels
  pub four_cells : load_of (byte_kind 2 (ragged 8 at_start)) (4 ∷ []) 7
      ≡ array (0 ∷ 1 ∷ 1 ∷ 0 ∷ 0 ∷ 0 ∷ 1 ∷ 0 ∷ []) (0x69 ∷ 0x98 ∷ 0x9B ∷ 0xE3 ∷ 0x09 ∷ []) (0 ∷ 0 ∷ 0 ∷ 5 ∷ 5 ∷ [])
  -- what lies beyond stays
  pub beyond : generated masked (2 ∷ []) 0 (array (9 ∷ 9 ∷ 9 ∷ []) (9 ∷ 9 ∷ 9 ∷ []) (9 ∷ []))
      ≡ record { answer = gives (record { masks = 2; values = 2; offsets = 0 }); buffers = array (1 ∷ 0 ∷ 9 ∷ []) (0x50 ∷ 0 ∷ 9 ∷ []) (9 ∷ []) }
  -- 1 before 2 before 6
  pub no_room : generated masked (3 ∷ []) 0 (array (9 ∷ 9 ∷ 9 ∷ []) (9 ∷ 9 ∷ []) []) ≡ keeps 6 (array (9 ∷ 9 ∷ 9 ∷ []) (9 ∷ 9 ∷ []) [])
  pub no_shape : generated masked [] 0 (array [] [] []) ≡ keeps 2 (array [] [] [])
  pub no_kind : generated (byte_kind 5 (fixed 1 little)) [] 0 (array [] [] []) ≡ keeps 1 (array [] [] [])
