-- The vector operations, each float operation in upstream's order and rounded once.
use Rattle.std.specs.Prelude.{Bool, ◌&&◌, cond, Float}
use Rattle.std.specs.Float.{binary64}
use Rattle.std.specs.Float.Ieee.{neg, le, of_bits}
use Rattle.float.specs.Doubles.{◌⊕◌, ◌⊖◌, ◌⊗◌, ◌⊘◌, nought, one, pow2, abs_of, is_finite}
use Rattle.root.specs.Root.{sqrt_of}
use Rattle.coo3d.specs.declared.Coo3D.{Coo3D}
use Rattle.coo3d.specs.declared.Vect3.{Vect3}
use Rattle.coo3d.specs.declared.UnitVect3.{UnitVect3}

-- all numbers +0
abbrev pub origin : Coo3D
origin = record { x = nought; y = nought; z = nought; lon = nought; lat = nought }

abbrev pub zero_vect : Vect3
zero_vect = record { x = nought; y = nought; z = nought }

-- a point, and a unit vector, as a plain vector
abbrev pub vect_of_point : Coo3D → Vect3
vect_of_point p = record { x = p.x; y = p.y; z = p.z }

abbrev pub vect_of_unit : UnitVect3 → Vect3
vect_of_unit u = record { x = u.x; y = u.y; z = u.z }

unfoldable pub dot_of : Vect3 → Vect3 → Float
dot_of v w = (v.x ⊗ w.x) ⊕ (v.y ⊗ w.y) ⊕ (v.z ⊗ w.z)

unfoldable pub cross_of : Vect3 → Vect3 → Vect3
cross_of v w =
    record {
      x = (v.y ⊗ w.z) ⊖ (v.z ⊗ w.y);
      y = (v.z ⊗ w.x) ⊖ (v.x ⊗ w.z);
      z = (v.x ⊗ w.y) ⊖ (v.y ⊗ w.x);
    }

unfoldable pub opposite_of : Vect3 → Vect3
opposite_of v = record { x = neg v.x; y = neg v.y; z = neg v.z }

unfoldable pub squared_norm : Float → Float → Float → Float
squared_norm x y z = pow2 x ⊕ pow2 y ⊕ pow2 z

abbrev pub norm_of : Float → Float → Float → Float
norm_of x y z = sqrt_of (squared_norm x y z)

unfoldable pub squared_dist_of : Vect3 → Vect3 → Float
squared_dist_of v w = pow2 (v.x ⊖ w.x) ⊕ pow2 (v.y ⊖ w.y) ⊕ pow2 (v.z ⊖ w.z)

-- ---- unit vectors

abbrev pub scaled_by : Float → Float → Float → Float → UnitVect3
scaled_by norm x y z = record { x = x ⊘ norm; y = y ⊘ norm; z = z ⊘ norm }

unfoldable pub normalized_of : Vect3 → UnitVect3
normalized_of v = scaled_by (norm_of v.x v.y v.z) v.x v.y v.z

-- 2 ^ -52
abbrev pub epsilon : Float
epsilon = of_bits binary64 0x3CB0_0000_0000_0000

unfoldable pub is_unit : Float → Bool
is_unit norm = le (abs_of (norm ⊖ one)) epsilon

-- `UnitVect3::new`: the numbers as they are where their squared norm is 1 up to epsilon, and else scaled to the norm 1
unfoldable pub unit_of : Float → Float → Float → UnitVect3
unit_of x y z = cond (is_unit (squared_norm x y z)) (record { x = x; y = y; z = z }) (scaled_by (norm_of x y z) x y z)

abbrev pub unit_opposite_of : UnitVect3 → UnitVect3
unit_opposite_of u = unit_of (neg u.x) (neg u.y) (neg u.z)

abbrev pub is_finite_unit : UnitVect3 → Bool
is_finite_unit u = is_finite u.x && is_finite u.y && is_finite u.z
