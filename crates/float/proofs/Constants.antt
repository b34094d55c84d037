-- HALF_PI and TWO_PI are the half and the double of PI.
use mathlib.Core.Path.{◌≡◌, refl}
use lib.Ieee.{mul, of_bits}
use Rattle.float.specs.Doubles.{◌⊗◌, half, two, pi, half_pi, two_pi}

pub half_pi_lem : half_pi ≡ half ⊗ pi
unfolding mul of_bits
half_pi_lem = refl

pub two_pi_lem : two_pi ≡ two ⊗ pi
unfolding mul of_bits
two_pi_lem = refl
