-- Where an edge crosses a whole great circle: upstream's `intersect_great_circle_all`, for one edge.
use Rattle.std.specs.Prelude.{Bool, ◌&&◌, cond, Option, Some, None}
use Rattle.std.specs.Float.Ieee.{lt}
use Rattle.coo3d.specs.declared.Vect3.{Vect3}
use Rattle.coo3d.specs.declared.UnitVect3.{UnitVect3}
use Rattle.coo3d.specs.Vectors.{vect_of_point, vect_of_unit, dot_of, cross_of, normalized_of, unit_opposite_of}
use Rattle.region.specs.declared.Edge.{Edge}

-- the edge's ends are nearer to the point than to each other
unfoldable pub is_beyond : UnitVect3 → Vect3 → Vect3 → Bool
is_beyond i pa pb = lt (dot_of pa pb) (dot_of pa (vect_of_unit i)) && lt (dot_of pa pb) (dot_of pb (vect_of_unit i))

-- the point where the two planes meet, or else its opposite, if the edge holds it
abbrev pub held_by : UnitVect3 → Edge → Option UnitVect3
held_by i e =
    let pa = vect_of_point e.from in
    let pb = vect_of_point e.to in
    cond (is_beyond i pa pb) (Some i) (cond (is_beyond (unit_opposite_of i) pa pb) (Some (unit_opposite_of i)) None)

unfoldable pub circle_crossing : Vect3 → Edge → Option UnitVect3
circle_crossing n e = held_by (normalized_of (cross_of e.normal n)) e
