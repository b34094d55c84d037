-- Whole numbers, doubles and corners in a list of bytes, least byte first.
use Rattle.std.specs.Prelude.{ℕ, zero, suc, ◌+◌, ◌*◌, ◌/◌, ◌%◌, List, [], ◌∷◌, ◌++◌, Float, take, drop}
use Rattle.std.specs.Float.{binary64}
use Rattle.std.specs.Float.Ieee.{of_bits, to_bits}
use Rattle.coo3d.specs.declared.Coo3D.{Coo3D}

-- the number that bytes hold
unfoldable pub number_in : List ℕ → ℕ
number_in [] = 0
number_in (b ∷ bs) = b + 256 * number_in bs

-- the lowest `width` bytes of a number
unfoldable pub bytes_of : ℕ → ℕ → List ℕ
bytes_of zero n = []
bytes_of (suc width) n = n % 256 ∷ bytes_of width (n / 256)

-- ---- read from `at` on

unfoldable pub number_at : ℕ → List ℕ → ℕ → ℕ
number_at width s at = number_in (take width (drop at s))

-- a double by its bits; every NaN pattern is a NaN
abbrev pub double_at : List ℕ → ℕ → Float
double_at s at = of_bits binary64 (number_at 8 s at)

-- x, y, z, lon, lat
unfoldable pub corner_at : List ℕ → ℕ → Coo3D
corner_at s at = record { x = double_at s at; y = double_at s (at + 8); z = double_at s (at + 16); lon = double_at s (at + 24); lat = double_at s (at + 32) }

-- n corners of 40 bytes
unfoldable pub corners_at : List ℕ → ℕ → ℕ → List Coo3D
corners_at s at zero = []
corners_at s at (suc n) = corner_at s at ∷ corners_at s (at + 40) n

-- ---- written

-- a NaN is written 7FF8000000000000
abbrev pub double_bytes : Float → List ℕ
double_bytes x = bytes_of 8 (to_bits binary64 x)

unfoldable pub corner_bytes : Coo3D → List ℕ
corner_bytes p = double_bytes p.x ++ double_bytes p.y ++ double_bytes p.z ++ double_bytes p.lon ++ double_bytes p.lat

unfoldable pub corners_bytes : List Coo3D → List ℕ
corners_bytes [] = []
corners_bytes (c ∷ cs) = corner_bytes c ++ corners_bytes cs
