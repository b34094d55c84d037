-- Doubles: every operation is IEEE 754's on binary64, rounded once. A circle round a sign says that the result is rounded.
use Rattle.std.specs.Prelude.{Bool, true, false, ◌&&◌, cond, Float}
use Rattle.std.specs.Float.{nan, inf, fin, binary64}
use Rattle.std.specs.Float.Ieee.{add, sub, mul, div, lt, le, of_bits}

infixl 6 ◌⊕◌ ◌⊖◌
infixl 7 ◌⊗◌ ◌⊘◌
abbrev pub ◌⊕◌ : Float → Float → Float
a ⊕ b = add binary64 a b

abbrev pub ◌⊖◌ : Float → Float → Float
a ⊖ b = sub binary64 a b

abbrev pub ◌⊗◌ : Float → Float → Float
a ⊗ b = mul binary64 a b

abbrev pub ◌⊘◌ : Float → Float → Float
a ⊘ b = div binary64 a b

-- ---- constants, by their bits

abbrev pub nought : Float
nought = of_bits binary64 0

abbrev pub half : Float
half = of_bits binary64 0x3FE0_0000_0000_0000

abbrev pub one : Float
one = of_bits binary64 0x3FF0_0000_0000_0000

abbrev pub two : Float
two = of_bits binary64 0x4000_0000_0000_0000

abbrev pub pi : Float
pi = of_bits binary64 0x4009_21FB_5444_2D18

-- half of pi, and its double (proofs/Constants.antt)
abbrev pub half_pi : Float
half_pi = of_bits binary64 0x3FF9_21FB_5444_2D18

abbrev pub two_pi : Float
two_pi = of_bits binary64 0x4019_21FB_5444_2D18

-- ---- helpers

-- x times itself, `pow2`
abbrev pub pow2 : Float → Float
pow2 x = x ⊗ x

-- the magnitude: the sign is cleared, of a zero too
unfoldable pub abs_of : Float → Float
abs_of nan = nan
abs_of (inf s) = inf false
abs_of (fin s m e) = fin false m e

abbrev pub is_finite : Float → Bool
is_finite nan = false
is_finite (inf s) = false
is_finite (fin s m e) = true

-- the larger one, and a where b is a NaN
abbrev pub max_of : Float → Float → Float
max_of a b = cond (lt a b) b a

-- low ≤ x ≤ high
abbrev pub inclusive : Float → Float → Float → Bool
inclusive low x high = le low x && le x high

-- low ≤ x < high
abbrev pub half_open : Float → Float → Float → Bool
half_open low x high = le low x && lt x high
