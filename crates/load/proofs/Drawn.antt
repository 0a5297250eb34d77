-- What is drawn: values of the form's size, bytes, few of them; cells in rest form; and the same for forms that are alike.
-- Assumes nothing.
use mathlib.Core.Path.{◌≡◌, refl, ap, ap₂, ◌∙◌}
use Prim.Native.Nat.{ℕ, zero, suc, ◌*◌, ◌%◌, ◌<◌, ◌≤◌}
use native.Mathlib.Nat.{mod-lt, zero-lt-suc, le_trans, le_of_eq}
use native.Mathlib.Omega.{arith}
use mathlib.Core.List.{List}
use lib.ListN.{length, replicate, length-replicate, length-map}
use Rattle.array.specs.Lists.{All, joined}
use Rattle.array.specs.Kind.{Form, fixed, ragged, FormOk, null_of}
use Rattle.array.specs.Cells.{Value, Cell, leaf, blank, rest}
use Rattle.array.specs.Content.{leaves}
use Rattle.array.proofs.Lists.{All-map, All-image, length-joined-le}
use Rattle.array.proofs.Sizes.{OfSize, null_sized}
use Rattle.array.proofs.RestLaws.{leaf_blank, StrictCell, strict_blank}
use Rattle.load.specs.Generator.{Drew, draw, draw_bytes}
use Rattle.load.specs.Load.{length_by, draw_value, level_by, draw_cell, draw_cells}

abbrev Bytes : Value → Type 0
Bytes v = All (λ b. b < 256) v

pub drawn_length : (n s : ℕ) → length (draw_bytes n s).made ≡ n
unfolding draw_bytes
drawn_length zero s = refl
drawn_length (suc n) s = ap suc (drawn_length n _)

drawn_bytes : (n s : ℕ) → Bytes (draw_bytes n s).made
unfolding draw_bytes
drawn_bytes zero s = tt
drawn_bytes (suc n) s = (mod-lt (draw s).made (zero-lt-suc 255), drawn_bytes n _)

-- ---- values

-- the bytes of a drawn value at most
abbrev pub longest : Form → ℕ
longest (fixed k o) = k
longest (ragged w p) = 8

pub longest_small : (f : Form) → FormOk f → longest f ≤ 64
longest_small (fixed k o) ok = ok.1
longest_small (ragged w p) ok = omega arith

pub record DrawnValue (f : Form) (v : Value) : Type 0 where
  pub sized : OfSize f v
  pub short : length v ≤ longest f
  pub bytes : Bytes v

drawn_value : (f : Form) (s : ℕ) → DrawnValue f (draw_value f s).made
unfolding draw_value
drawn_value (fixed k o) s = record { sized = drawn_length k s; short = simp drawn_length (omega arith); bytes = drawn_bytes k s }
drawn_value (ragged w p) s = record { sized = tt; short = simp drawn_length (omega arith); bytes = drawn_bytes (length_by (draw s).made) (draw s).state }

zero_bytes : (k : ℕ) → Bytes (replicate k 0)
zero_bytes zero = tt
zero_bytes (suc k) = (omega arith, zero_bytes k)

null_value : (f : Form) → DrawnValue f (null_of f)
null_value (fixed k o) = record { sized = null_sized (fixed k o); short = omega (arith, length-replicate {A = ℕ} k 0); bytes = zero_bytes k }
null_value (ragged w p) = record { sized = tt; short = omega arith; bytes = tt }

-- ---- cells

pub record DrawnCell (f : Form) (d : ℕ) (c : Cell d) : Type 0 where
  pub value : DrawnValue f (leaf d c)
  pub strict : StrictCell d c
  pub rests : rest (null_of f) d c ≡ c

pub drawn_cell : (f : Form) (d s : ℕ) → DrawnCell f d (draw_cell f d s).made
unfolding draw_cell
drawn_cell f zero s = record { value = drawn_value f s; strict = tt; rests = refl }
drawn_cell f (suc d) s = level ((draw s).made % 4) _ (drawn_cell f d (draw s).state)
  where
    below : Drew (Cell d)
    below = draw_cell f d (draw s).state

    level : (m t : ℕ) → DrawnCell f d below.made → DrawnCell f (suc d) (level_by m t (blank (null_of f) d) below).made
    level zero t r = record { value = leaf_blank (null_of f) (DrawnValue f) d (null_value f); strict = (omega arith, strict_blank (null_of f) d); rests = refl }
    level (suc m) t r = record { value = r.value; strict = (omega arith, r.strict); rests = ap (λ (x : Cell d). (1, x)) r.rests }

pub drawn_cells : (f : Form) (d n s : ℕ) → All (DrawnCell f d) (draw_cells f d n s).made
unfolding draw_cells
drawn_cells f d zero s = tt
drawn_cells f d (suc n) s = (drawn_cell f d s, drawn_cells f d n _)

pub drawn_count : (f : Form) (d n s : ℕ) → length (draw_cells f d n s).made ≡ n
unfolding draw_cells
drawn_count f d zero s = refl
drawn_count f d (suc n) s = ap suc (drawn_count f d n _)

-- n cells have at most n times the bytes of the longest value
pub drawn_total : (f : Form) (d n s : ℕ) → length (joined (leaves d (draw_cells f d n s).made)) ≤ n * longest f
drawn_total f d n s =
    let cs : List (Cell d) = (draw_cells f d n s).made in
    let each : All (λ c. length (leaf d c) ≤ longest f) cs = All-map (DrawnCell f d) (λ c. length (leaf d c) ≤ longest f) (λ c r. r.value.short) cs (drawn_cells f d n s) in
    le_trans (length-joined-le (longest f) (leaves d cs) (All-image (λ v. length v ≤ longest f) (leaf d) cs each))
    (le_of_eq (ap (λ (m : ℕ). m * longest f) (length-map cs (leaf d) ∙ drawn_count f d n s)))

-- ---- forms that are alike draw alike

module _ (f g : Form) (e : (s : ℕ) → draw_value f s ≡ draw_value g s) (z : null_of f ≡ null_of g) where
  pub same_cell : (d s : ℕ) → draw_cell f d s ≡ draw_cell g d s
  unfolding draw_cell
  same_cell zero s = e s
  same_cell (suc d) s =
      ap₂ (λ (b : Cell d) (r : Drew (Cell d)). level_by ((draw s).made % 4) (draw s).state b r) (ap (λ (v : Value). blank v d) z) (same_cell d (draw s).state)

  pub same_cells : (d n s : ℕ) → draw_cells f d n s ≡ draw_cells g d n s
  unfolding draw_cells
  same_cells d zero s = refl
  same_cells d (suc n) s = simp (same_cell, same_cells d n)
