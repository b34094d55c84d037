-- What document 01 asks of the root of a positive finite double, and the two theorems about `sqrt_of` (proofs/Rounded.antt has their proofs).
use Rattle.std.specs.Prelude.{◌≡◌, ℕ, ◌+◌, ◌-◌, ◌*◌, ◌^◌, ◌<◌, ◌≤◌, false, T, ℤ, Float}
use Rattle.std.specs.Float.{binary64}
use Rattle.std.specs.Float.Ieee.{fits, up, down}
use Rattle.std.specs.Float.Ieee.Exact.{HasValue}
use Rattle.std.specs.Float.Ieee.Positive.{positive}
use Rattle.root.specs.Root.{sqrt_of}

-- The root r is R × 2 ^ k with R whole, 2 ^ 52 ≤ R < 2 ^ 53, and a = A × 2 ^ (2 k) with A whole, 2 ^ 104 ≤ A < 2 ^ 106,
-- where (2 R − 1)² < 4 A < (2 R + 1)². (up k / down k is 2 ^ k, and HasValue x false n d says that x is n / d.)
pub record RootOf (a r : Float) (R A : ℕ) (k : ℤ) : Type 0 where
  pub root : HasValue r false (R * up k) (down k)
  pub least : 2 ^ 52 ≤ R
  pub most : R < 2 ^ 53
  pub operand : HasValue a false (A * (up k * up k)) (down k * down k)
  pub from : 2 ^ 104 ≤ A
  pub under : A < 2 ^ 106
  pub above : (2 * R - 1) * (2 * R - 1) < 4 * A
  pub below : 4 * A < (2 * R + 1) * (2 * R + 1)

abbrev pub Rounded : Float → Float → Type 0
Rounded a r = (R : ℕ) × (A : ℕ) × (k : ℤ) × RootOf a r R A k

-- every positive finite double's root is so
abbrev pub SqrtRounded : Type 0
SqrtRounded = (a : Float) → T (fits binary64 a) → T (positive a) → Rounded a (sqrt_of a)

-- and no two doubles are so for one operand
abbrev pub OneRounded : Type 0
OneRounded = (a r t : Float) → T (fits binary64 r) → T (fits binary64 t) → Rounded a r → Rounded a t → r ≡ t
