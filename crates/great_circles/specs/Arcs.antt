-- Where an edge crosses a great circle arc: upstream's `intersect_great_circle_arc`, for one edge.
use Rattle.std.specs.Prelude.{Bool, true, ◌&&◌, ◌||◌, cond, Float, Option, Some, None}
use Rattle.std.specs.Float.Ieee.{lt, le}
use Rattle.coo3d.specs.declared.Coo3D.{Coo3D}
use Rattle.coo3d.specs.declared.Vect3.{Vect3}
use Rattle.coo3d.specs.declared.UnitVect3.{UnitVect3}
use Rattle.coo3d.specs.Vectors.{vect_of_point, vect_of_unit, dot_of, normalized_of}
use Rattle.float.specs.Doubles.{◌⊖◌, ◌⊗◌, nought, pi, abs_of}
use Rattle.lists.specs.Counts.{exactly_one}
use Rattle.region.specs.declared.Edge.{Edge}

-- two points by longitude
unfoldable pub west_of : Coo3D → Coo3D → Coo3D
west_of a b = cond (lt b.lon a.lon) b a

unfoldable pub east_of : Coo3D → Coo3D → Coo3D
east_of a b = cond (lt b.lon a.lon) a b

-- the longitudes from a to b, and from c to d, overlap; a step of PI or more runs the other way round for the arc, one above PI for the edge
unfoldable pub overlap_in_lon : Float → Float → Float → Float → Bool
overlap_in_lon a b c d =
    cond (lt (b ⊖ a) pi)
    (cond (le (d ⊖ c) pi) (le a d && le c b) (le d b || le a c))
    (cond (le (d ⊖ c) pi) (le b d || le c a) true)

-- b's height over the edge's plane times a, less a's times b, scaled to the norm 1
unfoldable pub intersect_point : Coo3D → Coo3D → Float → Float → UnitVect3
intersect_point a b ua ub =
    normalized_of
    (record {
      x = (ub ⊗ a.x) ⊖ (ua ⊗ b.x);
      y = (ub ⊗ a.y) ⊖ (ua ⊗ b.y);
      z = (ub ⊗ a.z) ⊖ (ua ⊗ b.z);
    })

-- the point, where the edge's ends are nearer to it, or to its opposite, than to each other
unfoldable pub in_edge : UnitVect3 → Coo3D → Coo3D → Option UnitVect3
in_edge i pa pb =
    let papb = dot_of (vect_of_point pa) (vect_of_point pb) in
    cond (lt papb (abs_of (dot_of (vect_of_point pa) (vect_of_unit i))) && lt papb (abs_of (dot_of (vect_of_point pb) (vect_of_unit i)))) (Some i) None

-- the longitudes overlap, and the arc's ends lie on both sides of the edge's plane
unfoldable pub crossing_of : Coo3D → Coo3D → Coo3D → Coo3D → Vect3 → Option UnitVect3
crossing_of a b pa pb n =
    let ua = dot_of (vect_of_point a) n in
    let ub = dot_of (vect_of_point b) n in
    cond (overlap_in_lon a.lon b.lon pa.lon pb.lon)
    (cond (exactly_one (lt nought ua) (lt nought ub)) (in_edge (intersect_point a b ua ub) pa pb) None)
    None

-- an arc from west to east with an edge
unfoldable pub arc_crossing : Coo3D → Coo3D → Edge → Option UnitVect3
arc_crossing a b e = crossing_of a b (west_of e.from e.to) (east_of e.from e.to) e.normal
