-- Telling a NaN, and its pattern.
use mathlib.Core.Path.{◌≡◌, refl}
use mathlib.Core.Bool.{true}
use lib.Ieee.{Float, nan, inf, fin, binary64, is_nan, of_bits}

pub is_nan_lem : (x : Float) → is_nan x ≡ true → x ≡ nan
unfolding is_nan
is_nan_lem nan e = refl
is_nan_lem (inf s) e = cc
is_nan_lem (fin s m k) e = cc

-- the pattern of `f64::NAN`
pub nan_read : of_bits binary64 0x7FF8_0000_0000_0000 ≡ nan
unfolding of_bits
nan_read = refl
