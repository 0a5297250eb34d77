-- Redundant by the laws leaves-expand and planes_expand in codec/proofs/SpreadLaws.antt: reading, plane by plane.
-- Code that places each level straight into its plane speaks of it: masks_from and leaves-from in stored_frames/proofs/Reading.antt.
-- Assumes nothing.
use Rattle.std.specs.Prelude.{ℕ, zero, suc, List, [], ◌∷◌}
use Rattle.array.specs.Cells.{Cell, mark_of, mask_of, inners}
use Rattle.codec.specs.Frame.{next_by, left_by}

-- each set byte takes the next of the list, and any other takes z
abbrev pub spread : {A : Type 0} → A → List ℕ → List A → List A
spread z [] xs = []
spread z (m ∷ ms) xs = next_by (mark_of m) z xs ∷ spread z ms (left_by (mark_of m) xs)

-- the mask planes, one list a level
abbrev pub plane_list : (d : ℕ) → List (Cell d) → List (List ℕ)
plane_list zero cs = []
plane_list (suc d) cs = mask_of cs ∷ plane_list d (inners cs)

-- the planes below the plane p, from the masks as they are stored, each counting the set cells of the one before:
-- a level's plane is its mask spread over the plane before
abbrev pub placed : List ℕ → List (List ℕ) → List (List ℕ)
placed p [] = []
placed p (ms ∷ rest) = spread 0 p ms ∷ placed (spread 0 p ms) rest

-- the innermost of these planes
abbrev pub innermost_plane : List ℕ → List (List ℕ) → List ℕ
innermost_plane p [] = p
innermost_plane p (ms ∷ rest) = innermost_plane (spread 0 p ms) rest
