-- The limits pass, and one more of each does not (docs/SPEC.md, S10.12).
-- Assumes nothing.
use mathlib.Core.Path.{◌≡◌, refl}
use mathlib.Core.Bool.{true, false}
use mathlib.Core.List.{[], ◌∷◌}
use Rattle.array.specs.Limits.{most_bytes, most_cells}
use Rattle.array.specs.Kind.{kind_test, byte_kind, fixed, little}
use Rattle.array.specs.Shape.{shape_test}
use Rattle.array.specs.Content.{size_test}

pub record Limits : Type 0 where
  pub depth_4_size_64 : kind_test (byte_kind 4 (fixed 64 little)) ≡ true
  pub depth_5 : kind_test (byte_kind 5 (fixed 64 little)) ≡ false
  pub size_65 : kind_test (byte_kind 4 (fixed 65 little)) ≡ false
  pub all_cells : shape_test (65536 ∷ []) ≡ true
  pub one_cell_more : shape_test (65537 ∷ []) ≡ false
  pub all_bytes : size_test 8589934592 ≡ true
  pub one_byte_more : size_test 8589934593 ≡ false

pub limits : Limits
unfolding most_bytes most_cells
limits = record {
  depth_4_size_64 = refl;
  depth_5 = refl;
  size_65 = refl;
  all_cells = refl;
  one_cell_more = refl;
  all_bytes = refl;
  one_byte_more = refl;
}
