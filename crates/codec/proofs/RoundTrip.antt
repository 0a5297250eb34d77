-- What is read of what was written: cells that were laid out come back in rest form.
-- Assumes nothing.
use mathlib.Core.Path.{◌≡◌, ap}
use Prim.Native.Nat.{ℕ, ◌^◌, ◌<◌, ◌≤◌}
use native.Mathlib.Nat.{le_trans}
use mathlib.Core.List.{List, map}
use lib.ListN.{length}
use Rattle.array.specs.Answer.{Answer, gives, and_then}
use Rattle.array.specs.Limits.{most_bytes}
use Rattle.array.specs.Lists.{joined, All}
use Rattle.array.specs.Kind.{Kind, Masks, Form, null_of}
use Rattle.array.specs.Cells.{Cell, rest}
use Rattle.array.specs.Content.{leaves, layout}
use Rattle.array.proofs.Sizes.{SizedAs}
use Rattle.array.proofs.LayoutLaws.{cells_layout, Good}
use Rattle.codec.specs.Mask.{mask_form}
use Rattle.codec.specs.Frame.{frame, read_frame, live}
use Rattle.codec.specs.Carried.{Carried}
use Rattle.codec.specs.Values.{put_values, get_values}
use Rattle.codec.specs.Calls.{stored_form, read_in}
use Rattle.array.proofs.RestLaws.{StrictCell}
use Rattle.codec.proofs.Frames.{back}
use Rattle.codec.proofs.Masks.{mask_laws}
use Rattle.codec.proofs.Values.{back_values}
use Rattle.codec.proofs.Lengths.{bytes_live, sized-live}

pub stored_layout : (k : Kind) (n : ℕ) (xs : List (Cell k.depth)) → Good k n xs → stored_form k n (layout k.form k.depth xs) ≡ frame (mask_form k.masks) (put_values k.form) k.depth xs
stored_layout k n xs g = ap (frame (mask_form k.masks) (put_values k.form) k.depth) (cells_layout k n xs g.counted g.sized)

-- in either form of masks
module _ (x : Masks) where
  pub read_framed : (f : Form) (d : ℕ) (xs : List (Cell d)) → SizedAs f (leaves d xs) → All (StrictCell d) xs
      → length (joined (leaves d xs)) ≤ most_bytes → Carried f (live d xs) → length (frame (mask_form x) (put_values f) d xs) < 256 ^ 8
      → read_frame (mask_form x) (null_of f) (get_values f) d (frame (mask_form x) (put_values f) d xs) (length xs) ≡ gives (map (rest (null_of f) d) xs)
  read_framed f d xs s t b c h =
      back (mask_form x) (mask_laws x) (null_of f) (get_values f) (put_values f) (λ vs. SizedAs f vs × (length (joined vs) ≤ most_bytes) × Carried f vs) (back_values f) d xs t
      (sized-live f d xs s, le_trans (bytes_live d xs) b, c) h

  pub read_layout : (f : Form) (d : ℕ) (xs : List (Cell d)) → SizedAs f (leaves d xs) → All (StrictCell d) xs
      → length (joined (leaves d xs)) ≤ most_bytes → Carried f (live d xs) → length (frame (mask_form x) (put_values f) d xs) < 256 ^ 8
      → read_in (mask_form x) f d (length xs) (frame (mask_form x) (put_values f) d xs) ≡ gives (layout f d (map (rest (null_of f) d) xs))
  unfolding read_in
  read_layout f d xs s t b c h = ap (λ (a : Answer (List (Cell d))). and_then a (λ cs. gives (layout f d cs))) (read_framed f d xs s t b c h)
