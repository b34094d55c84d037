-- The bounding cone, as upstream's src/sph_geom/cone.rs has it, up to the arc sine.
use Rattle.std.specs.Prelude.{ℕ, not, List, [], ◌∷◌, Float}
use Rattle.coo3d.specs.declared.Coo3D.{Coo3D}
use Rattle.coo3d.specs.declared.Vect3.{Vect3}
use Rattle.coo3d.specs.declared.UnitVect3.{UnitVect3}
use Rattle.coo3d.specs.Vectors.{vect_of_point, vect_of_unit, norm_of, unit_of, squared_dist_of, is_finite_unit}
use Rattle.domain.specs.Checks.{points_of}
use Rattle.float.specs.Doubles.{◌⊕◌, ◌⊘◌, nought, max_of}
use Rattle.refusal.specs.Answer.{Answer, answered, refuse_if, and_then}
use Rattle.cone.specs.declared.Cone.{Cone}

-- the sum of the points, from left to right
unfoldable pub sum_from : Float → Float → Float → List Coo3D → Vect3
sum_from x y z [] = record { x = x; y = y; z = z }
sum_from x y z (p ∷ ps) = sum_from (x ⊕ p.x) (y ⊕ p.y) (z ⊕ p.z) ps

abbrev pub gravity_center : List Coo3D → Vect3
gravity_center ps = sum_from nought nought nought ps

-- its direction, with the scaling of `UnitVect3::new`
abbrev pub center_for : Float → Vect3 → UnitVect3
center_for norm s = unit_of (s.x ⊘ norm) (s.y ⊘ norm) (s.z ⊘ norm)

unfoldable pub center_of : Vect3 → UnitVect3
center_of s = center_for (norm_of s.x s.y s.z) s

-- the largest squared chord from the centre to a point, and 0 at least
unfoldable pub d2_max_from : Float → Vect3 → List Coo3D → Float
d2_max_from d2 c [] = d2
d2_max_from d2 c (p ∷ ps) = d2_max_from (max_of d2 (squared_dist_of c (vect_of_point p))) c ps

abbrev pub d2_max_of : UnitVect3 → List Coo3D → Float
d2_max_of c ps = d2_max_from nought (vect_of_unit c) ps

-- a centre that is not finite is 6
abbrev pub cone_at : UnitVect3 → List Coo3D → Answer Cone
cone_at c ps = refuse_if (not (is_finite_unit c)) 6 [] (answered (record { center = c; d2_max = d2_max_of c ps }))

-- the points are checked first: 2, 3, 1
unfoldable pub bounding_cone_of : List Coo3D → ℕ → Answer Cone
bounding_cone_of points count = and_then (points_of points count) (λ ps. cone_at (center_of (gravity_center ps)) ps)
