-- The whole root of an unsigned 64-bit number with its remainder, and what holds of it (proofs/WholeRoots.antt has the proof).
use Rattle.std.specs.Prelude.{◌≡◌, ℕ, ◌+◌, ◌-◌, ◌*◌, ◌<◌, ◌≤◌}
use Rattle.root.specs.declared.WholeRoot.{WholeRoot}
use Rattle.root.specs.Whole.{root_in}

-- the largest whole number whose square is within n, which has at most 32 binary digits, and what the square leaves
unfoldable pub whole_root_of : ℕ → WholeRoot
unfolding root_in
whole_root_of n = let s = root_in 32 n in record { root = s; remainder = n - s * s }

-- What is asked of it, for an n below 2 ^ 64.
pub record WholeRooted (n : ℕ) : Type 0 where
  -- root squared plus remainder is the number
  pub square : (whole_root_of n).root * (whole_root_of n).root + (whole_root_of n).remainder ≡ n
  -- the remainder is at most twice the root
  pub small : (whole_root_of n).remainder ≤ 2 * (whole_root_of n).root
  -- and no other pair has both properties
  pub only : (w : WholeRoot) → w.root * w.root + w.remainder ≡ n → w.remainder ≤ 2 * w.root → w ≡ whole_root_of n
  -- no larger number has its square within n
  pub largest : (t : ℕ) → t * t ≤ n → t ≤ (whole_root_of n).root
  -- root + 1/2, squared, is above n where the remainder is at most the root, and below n where it is not
  pub half_above : (whole_root_of n).remainder ≤ (whole_root_of n).root → 4 * n < (2 * (whole_root_of n).root + 1) * (2 * (whole_root_of n).root + 1)
  pub half_below : (whole_root_of n).root < (whole_root_of n).remainder → (2 * (whole_root_of n).root + 1) * (2 * (whole_root_of n).root + 1) < 4 * n
