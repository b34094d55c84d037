-- The domain of points and vectors, as document 01's section 'Point and edge' has it. -0 is in it wherever +0 is.
use Rattle.std.specs.Prelude.{Bool, ◌&&◌}
use Rattle.std.specs.Float.Ieee.{neg}
use Rattle.float.specs.Doubles.{is_finite, inclusive, nought, two, half_pi, two_pi}
use Rattle.coo3d.specs.declared.Coo3D.{Coo3D}
use Rattle.coo3d.specs.declared.Vect3.{Vect3}

-- all are finite, x, y, z are from -2 to 2, lon from 0 to TWO_PI inclusive, lat from -HALF_PI to HALF_PI inclusive
unfoldable pub in_domain : Coo3D → Bool
in_domain p =
    (is_finite p.x && is_finite p.y && is_finite p.z && is_finite p.lon && is_finite p.lat)
    && (inclusive (neg two) p.x two && inclusive (neg two) p.y two && inclusive (neg two) p.z two)
    && inclusive nought p.lon two_pi
    && inclusive (neg half_pi) p.lat half_pi

-- three numbers from -2 to 2
unfoldable pub vector_in_domain : Vect3 → Bool
vector_in_domain v = inclusive (neg two) v.x two && inclusive (neg two) v.y two && inclusive (neg two) v.z two
