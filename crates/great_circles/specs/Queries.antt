-- What the calls answer: document 01, 'Queries', for arcs and great circles.
use Rattle.std.specs.Prelude.{ℕ, ◌≡◌, Bool, List, take}
use Rattle.coo3d.specs.declared.Coo3D.{Coo3D}
use Rattle.coo3d.specs.declared.Vect3.{Vect3}
use Rattle.coo3d.specs.declared.UnitVect3.{UnitVect3}
use Rattle.crossings.specs.Crossings.{crossings_of, first_of, all_of, intersecting_of}
use Rattle.domain.specs.Checks.{point_at, vector_at, with_count}
use Rattle.refusal.specs.Answer.{Answer, answered, and_then}
use Rattle.region.specs.View.{View, edges_of}
use Rattle.great_circles.specs.declared.Arc.{Arc}
use Rattle.great_circles.specs.declared.GreatCircle.{GreatCircle}
use Rattle.great_circles.specs.Arcs.{west_of, east_of, arc_crossing}
use Rattle.great_circles.specs.Circles.{circle_crossing}

-- the crossings of the arc between a and b
abbrev pub arc_crossings : View → Coo3D → Coo3D → List UnitVect3
arc_crossings v a b = crossings_of (arc_crossing (west_of a b) (east_of a b)) (edges_of v)

-- the count is tested, then a, which is 0, and b, which is 1
abbrev pub with_arc : {A : Type 0} → ℕ → Coo3D → Coo3D → (Coo3D → Coo3D → Answer A) → Answer A
with_arc count a b next = with_count count (and_then (point_at 0 a) (λ p. and_then (point_at 1 b) (λ q. next p q)))

-- an arc that is given by two points, and a great circle by its normal
abbrev pub arc_at : Coo3D → Coo3D → Answer Arc
arc_at a b = and_then (point_at 0 a) (λ p. and_then (point_at 1 b) (λ q. answered (record { west = west_of p q; east = east_of p q })))

abbrev pub circle_at : Vect3 → Answer GreatCircle
circle_at n = and_then (vector_at 0 n) (λ m. answered (record { n = m }))

unfoldable pub arc_first_of : View → Coo3D → Coo3D → Answer (List UnitVect3)
arc_first_of v a b = with_arc v.count a b (λ p q. first_of (arc_crossings v p q))

unfoldable pub arc_all_of : View → Coo3D → Coo3D → Answer (List UnitVect3)
arc_all_of v a b = with_arc v.count a b (λ p q. all_of (arc_crossings v p q))

abbrev pub is_intersecting_arc : View → Coo3D → Coo3D → Answer Bool
is_intersecting_arc v a b = intersecting_of (arc_first_of v a b)

-- a great circle by its normal, three numbers from -2 to 2
unfoldable pub circle_all_of : View → Vect3 → Answer (List UnitVect3)
circle_all_of v n = with_count v.count (and_then (vector_at 0 n) (λ m. all_of (crossings_of (circle_crossing m) (edges_of v))))

-- ---- the theorem on arcs (proofs/Head.antt has its proof): where no call is refused, the first answer is the head of the list, or none

abbrev pub FirstIsHead : Type 0
FirstIsHead = (v : View) (a b : Coo3D) (first all : List UnitVect3) → arc_first_of v a b ≡ answered first → arc_all_of v a b ≡ answered all → first ≡ take 1 all
