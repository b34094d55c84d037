-- The definitions where a root goes wrong easily.
use Rattle.std.proofs.Common.{◌≡◌, refl}
use lib.Ieee.{binary64, of_bits}
use Rattle.root.specs.WholeRoot.{whole_root_of}
use Rattle.root.specs.Root.{sqrt_of}

-- the double just below 1 is its own root
below_one : sqrt_of (of_bits binary64 0x3FEF_FFFF_FFFF_FFFF) ≡ of_bits binary64 0x3FEF_FFFF_FFFF_FFFF
unfolding sqrt_of of_bits
below_one = refl

-- 2 ^ -1074 has the root 2 ^ -537
least : sqrt_of (of_bits binary64 1) ≡ of_bits binary64 0x1E60_0000_0000_0000
unfolding sqrt_of of_bits
least = refl

-- the root of 2, rounded
of_two : sqrt_of (of_bits binary64 0x4000_0000_0000_0000) ≡ of_bits binary64 0x3FF6_A09E_667F_3BCD
unfolding sqrt_of of_bits
of_two = refl

-- 0, the number before a square, the square, the largest square and the greatest number
whole_zero : whole_root_of 0 ≡ record { root = 0; remainder = 0 }
unfolding whole_root_of
whole_zero = refl

before_square : whole_root_of 1562499 ≡ record { root = 1249; remainder = 2498 }
unfolding whole_root_of
before_square = refl

at_square : whole_root_of 1562500 ≡ record { root = 1250; remainder = 0 }
unfolding whole_root_of
at_square = refl

largest_square : whole_root_of 0xFFFF_FFFE_0000_0001 ≡ record { root = 0xFFFF_FFFF; remainder = 0 }
unfolding whole_root_of
largest_square = refl

greatest : whole_root_of 0xFFFF_FFFF_FFFF_FFFF ≡ record { root = 0xFFFF_FFFF; remainder = 0x1_FFFF_FFFE }
unfolding whole_root_of
greatest = refl
