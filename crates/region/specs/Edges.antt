-- Edges, their normals, and which are counted at a point: document 01, 'Point and edge'.
use Rattle.std.specs.Prelude.{Bool, ◌&&◌, cond, Float}
use Rattle.std.specs.Bool.{beq}
use Rattle.std.specs.Float.Ieee.{neg, lt, le}
use Rattle.coo3d.specs.declared.Coo3D.{Coo3D}
use Rattle.coo3d.specs.declared.Vect3.{Vect3}
use Rattle.coo3d.specs.Vectors.{vect_of_point, dot_of, cross_of, opposite_of}
use Rattle.float.specs.Doubles.{◌⊖◌, nought, pi, abs_of, half_open}
pub use Rattle.region.specs.declared.Edge.{Edge}

-- every component negated where z is below 0; a z of 0 is not turned
unfoldable pub northward : Vect3 → Vect3
northward v = cond (lt v.z nought) (opposite_of v) v

-- `cross_product` of start and end, turned north
unfoldable pub normal_of : Coo3D → Coo3D → Vect3
normal_of from to = northward (cross_of (vect_of_point from) (vect_of_point to))

-- the edge of two corners, with its normal
abbrev pub edge : Coo3D → Coo3D → Edge
edge from to = record { from = from; to = to; normal = normal_of from to }

-- the absolute longitude step, rounded, exceeds PI: one of exactly PI does not cross the seam, nor does a NaN, which only a value handed in has
unfoldable pub crosses_seam : Float → Float → Bool
crosses_seam lon1 lon2 = lt pi (abs_of (lon2 ⊖ lon1))

-- `is_in_lon_range`: an absolute step up to and including PI does not cross the seam, and equal longitudes are never in range
abbrev pub in_range_by_step : Float → Float → Float → Float → Bool
in_range_by_step step lon lon1 lon2 =
    cond (lt step nought) (beq (le (neg pi) step) (half_open lon2 lon lon1)) (beq (le step pi) (half_open lon1 lon lon2))

unfoldable pub in_lon_range : Float → Float → Float → Bool
in_lon_range lon lon1 lon2 = in_range_by_step (lon2 ⊖ lon1) lon lon1 lon2

-- in range at the point
abbrev pub is_in_range : Coo3D → Edge → Bool
is_in_range p e = in_lon_range p.lon e.from.lon e.to.lon

-- in range at the point, and `dot_product` of point and normal exceeds 0
unfoldable pub is_counted : Coo3D → Edge → Bool
is_counted p e = is_in_range p e && lt nought (dot_of (vect_of_point p) e.normal)
