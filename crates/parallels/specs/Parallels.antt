-- Where an edge crosses a parallel: upstream's `intersect_parallel`, for one edge, with its cases.
use Rattle.std.specs.Prelude.{Bool, ◌&&◌, not, cond, Float, Option, Some, None}
use Rattle.std.specs.Float.Ieee.{neg, lt, eq}
use Rattle.coo3d.specs.declared.Coo3D.{Coo3D}
use Rattle.coo3d.specs.declared.Vect3.{Vect3}
use Rattle.coo3d.specs.declared.UnitVect3.{UnitVect3}
use Rattle.coo3d.specs.Vectors.{vect_of_point, vect_of_unit, dot_of, cross_of}
use Rattle.float.specs.Doubles.{◌⊕◌, ◌⊖◌, ◌⊗◌, ◌⊘◌, nought, one, two, half_pi, pow2, is_finite, inclusive, half_open}
use Rattle.region.specs.declared.Edge.{Edge}
use Rattle.root.specs.Root.{sqrt_of}

-- lat, sine and cosine are finite, lat is within ±HALF_PI, the others within ±1
unfoldable pub is_parallel : Float → Float → Float → Bool
is_parallel lat sin cos =
    (is_finite lat && is_finite sin && is_finite cos)
    && inclusive (neg half_pi) lat half_pi
    && inclusive (neg one) sin one
    && inclusive (neg one) cos one

-- two points by latitude
unfoldable pub south_of : Coo3D → Coo3D → Coo3D
south_of a b = cond (lt b.lat a.lat) b a

unfoldable pub north_of : Coo3D → Coo3D → Coo3D
north_of a b = cond (lt b.lat a.lat) a b

-- the edge's latitudes fit: from the lower up to, but not at, the higher
unfoldable pub spans_lat : Coo3D → Coo3D → Float → Bool
spans_lat from to lat = half_open (south_of from to).lat lat (north_of from to).lat

-- p lies between pa and pb on their great circle
unfoldable pub straddles : UnitVect3 → Coo3D → Coo3D → Bool
straddles p pa pb = lt (dot_of (cross_of (vect_of_unit p) (vect_of_point pa)) (cross_of (vect_of_unit p) (vect_of_point pb))) nought

unfoldable pub either_of : UnitVect3 → UnitVect3 → Coo3D → Coo3D → Option UnitVect3
either_of p q pa pb = cond (straddles p pa pb) (Some p) (Some q)

-- ---- case A: the normal's x is not 0

unfoldable pub point_at_y : Vect3 → Float → Float → UnitVect3
point_at_y n y z = record { x = neg ((n.y ⊗ y) ⊕ (n.z ⊗ z)) ⊘ n.x; y = y; z = z }

-- A.1: two solutions, the first where it lies on the edge, else the second. A.2: one. Else none.
unfoldable pub second_degree : Coo3D → Coo3D → Vect3 → Float → Float → Float → Float → Option UnitVect3
second_degree pa pb n z twoA b delta =
    cond (lt nought delta)
    (either_of (point_at_y n ((neg b ⊖ sqrt_of delta) ⊘ twoA) z) (point_at_y n ((neg b ⊕ sqrt_of delta) ⊘ twoA) z) pa pb)
    (cond (eq delta nought) (Some (point_at_y n (neg b ⊘ twoA) z)) None)

abbrev pub discriminant : Float → Float → Float → Float
discriminant b twoA c = (b ⊗ b) ⊖ (two ⊗ twoA ⊗ c)

unfoldable pub case_a : Coo3D → Coo3D → Vect3 → Float → Float → Option UnitVect3
case_a pa pb n z cos =
    let xn2 = pow2 n.x in
    let twoA = two ⊗ ((pow2 n.y ⊘ xn2) ⊕ one) in
    let b = two ⊗ n.y ⊗ n.z ⊗ z ⊘ xn2 in
    let c = (pow2 n.z ⊗ pow2 z ⊘ xn2) ⊖ pow2 cos in
    second_degree pa pb n z twoA b (discriminant b twoA c)

-- ---- case B: it is 0

-- B.1, the normal's y is 0 too: pa, where z and pa's z are 0. B.2: x by a root, with the sign that lies on the edge.
unfoldable pub case_b : Coo3D → Coo3D → Vect3 → Float → Float → Option UnitVect3
case_b pa pb n z cos =
    let x = sqrt_of (pow2 cos ⊖ (pow2 n.z ⊗ pow2 z ⊘ pow2 n.y)) in
    let y = neg n.z ⊗ z ⊘ n.y in
    cond (eq n.y nought)
    (cond (eq z nought && eq z pa.z) (Some (record { x = pa.x; y = pa.y; z = pa.z })) None)
    (either_of (record { x = x; y = y; z = z }) (record { x = neg x; y = y; z = z }) pa pb)

-- ---- an edge

-- the crossing of an edge whose latitudes fit
unfoldable pub point_of : Edge → Float → Float → Option UnitVect3
point_of e sin cos =
    let pa = south_of e.from e.to in
    let pb = north_of e.from e.to in
    cond (not (eq e.normal.x nought)) (case_a pa pb e.normal sin cos) (case_b pa pb e.normal sin cos)

unfoldable pub parallel_crossing : Float → Float → Float → Edge → Option UnitVect3
parallel_crossing lat sin cos e = cond (spans_lat e.from e.to lat) (point_of e sin cos) None
