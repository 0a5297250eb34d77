-- An offset that is there, and those before it.
-- Assumes nothing.
use Prim.Native.Nat.{ℕ, ◌≤◌}
use native.Mathlib.Omega.{arith}
use mathlib.Core.List.{List}
use Rattle.cut_ragged.specs.declared.Source.{Source}
use Rattle.cut_ragged.specs.declared.Source.TheVariants.{Numbers, Four, Eight}
use Rattle.cut_ragged.specs.Source.{There, SourceAsked}

pub there_below : (source : Source) (index : ℕ) (os s : List ℕ) (n j : ℕ) → There source index os s n → j ≤ n → There source index os s j
there_below Numbers index os s n j t h = omega arith
there_below Four index os s n j t h = omega arith
there_below Eight index os s n j t h = omega arith

pub offset_there : {source : Source} {index base : ℕ} {os s : List ℕ} {n : ℕ} → SourceAsked source index base os s n → (j : ℕ) → j ≤ n → There source index os s j
offset_there {source} {index} {os = os} {s = s} {n = n} d j h = there_below source index os s n j d.there h
