-- The root of a double, as document 01's section 'Square root' has it.
use Rattle.std.specs.Prelude.{ℕ, zero, suc, ◌+◌, ◌*◌, ◌/◌, ◌^◌, true, false, Float}
use Rattle.std.specs.Float.{nan, inf, fin}
use Rattle.std.specs.Float.Ieee.{up, down, size, odd}
use Rattle.root.specs.Whole.{near_root}

-- The root of n times 2 ^ -1074, n above 0. With j half of n's binary digits, rounded up, n is A * 4 ^ j / 2 ^ 106 for an A from 2 ^ 104 up to 2 ^ 106.
-- So the operand is A * 2 ^ (2 k) for k = j - 590, and its root R * 2 ^ k, which is R * 2 ^ (j + 484) times 2 ^ -1074.
unfoldable pub root_units : ℕ → Float
unfolding size odd near_root
root_units n = let j = (size n + 1) / 2 in odd 53 false (near_root (n * 2 ^ 106 / 4 ^ j)) (j + 484) 1074

-- +0, -0 and +infinity are their own roots; a negative or NaN operand has a NaN
unfoldable pub sqrt_of : Float → Float
unfolding root_units
sqrt_of nan = nan
sqrt_of (inf false) = inf false
sqrt_of (inf true) = nan
sqrt_of (fin s zero e) = fin s zero e
sqrt_of (fin true (suc m) e) = nan
sqrt_of (fin false (suc m) e) = root_units (suc m * up e * 2 ^ 1074 / down e)
