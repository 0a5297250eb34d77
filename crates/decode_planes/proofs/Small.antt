-- Within the limits no product of sizes wraps.
-- Assumes nothing.
use Prim.Native.Nat.{ℕ, ◌*◌, ◌≤◌}
use native.Mathlib.Nat.{mul-le-mul}
use Rattle.array.specs.Limits.{most_cells, most_depth, most_size}

pub few_cells : (n : ℕ) → n ≤ most_cells → n ≤ 65536
unfolding most_cells
few_cells n h = h

pub planes_small : (d n : ℕ) → d ≤ most_depth → n ≤ most_cells → d * n ≤ 4 * 65536
planes_small d n h l = mul-le-mul h (few_cells n l)

pub bytes_small : (n size : ℕ) → n ≤ most_cells → size ≤ most_size → n * size ≤ 65536 * 64
bytes_small n size h l = mul-le-mul (few_cells n h) l
