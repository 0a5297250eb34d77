-- A plane as an array of single bytes: valid, and its cells are the bytes.
-- Assumes nothing.
use mathlib.Core.Path.{◌≡◌, refl, sym, ap, ◌∙◌}
use Prim.Native.Nat.{ℕ, zero, suc, ◌≤◌}
use native.Mathlib.Nat.{zero-mul, mul-one}
use native.Mathlib.Omega.{arith}
use mathlib.Core.List.{List, [], ◌∷◌, map}
use lib.ListN.{length}
use lib.Dec.{lit≤}
use Rattle.array.specs.Limits.{most_bytes, most_cells}
use Rattle.array.specs.Lists.{joined, pieces}
use Rattle.array.specs.Kind.{KindOk}
use Rattle.array.specs.Cells.{Value}
use Rattle.array.specs.Content.{ArrayOk, leaves, cells_of}
use Rattle.rights_laws.specs.Planes.{plane_kind, plane_array}

pub plane_kind_ok : KindOk plane_kind
plane_kind_ok = record { shallow = lit≤ tt; sound = (lit≤ tt, lit≤ tt) }

pub plane_fits : {m : ℕ} {rights : List ℕ} → length rights ≡ m → ArrayOk plane_kind m (plane_array rights)
plane_fits {m} e = record { fits = record { masks_fit = sym (zero-mul m); values_fit = (e ∙ sym (mul-one m), refl) }; strict = tt }

pub plane_small : (m : ℕ) → m ≤ most_cells → m ≤ most_bytes
unfolding most_cells most_bytes
plane_small m h = omega arith

-- one byte as a cell
abbrev pub single : ℕ → Value
single x = x ∷ []

pub plane_cells : {m : ℕ} (rights : List ℕ) → length rights ≡ m → cells_of plane_kind m (plane_array rights) ≡ map single rights
plane_cells {m} rights e = go m rights e
  where
    go : (n : ℕ) (rs : List ℕ) → length rs ≡ n → pieces 1 n rs ≡ map single rs
    go zero [] e = refl
    go zero (r ∷ rs) e = absurd (omega arith)
    go (suc n) [] e = absurd (omega arith)
    go (suc n) (r ∷ rs) e = ap (λ (vs : List Value). single r ∷ vs) (go n rs (omega arith))

pub singles_joined : (rs : List ℕ) → joined (leaves 0 (map single rs)) ≡ rs
singles_joined [] = refl
singles_joined (r ∷ rs) = ap (λ (l : List ℕ). r ∷ l) (singles_joined rs)
