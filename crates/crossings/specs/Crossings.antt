-- Answers of the queries: document 01, 'Queries'. An edge gives a crossing or none; a first answer is the first, an all-answer the list.
use Rattle.refusal.specs.declared.Cause.{Cause}
use Rattle.std.specs.Prelude.{ℕ, Result, Ok, Err, ◌-◌, ◌≡◌, Bool, true, false, not, ◌&&◌, List, [], ◌∷◌, ◌++◌, length, take, drop, map, get_or, replicate, Option, Some, None}
use Rattle.coo3d.specs.declared.UnitVect3.{UnitVect3}
use Rattle.coo3d.specs.Vectors.{is_finite_unit}
use Rattle.float.specs.Doubles.{nought}
use Rattle.refusal.specs.Answer.{Answer, answered, refused, refused_for, answer_of, outcome_of, refuse_if, and_then}
use Rattle.domain.specs.Checks.{with_count}
use Rattle.region.specs.declared.Edge.{Edge}
use Rattle.region.specs.declared.Region.{Region}
use Rattle.region.specs.View.{View, nowhere, edges_from, edges_of}
use Rattle.crossings.specs.declared.Crossings.{Crossings}
use Rattle.crossings.specs.declared.AllAnswer.{AllAnswer}

-- a first answer holds no point, or one
abbrev pub first_answer : Result (Option UnitVect3) Cause → Answer (List UnitVect3)
first_answer (Ok None) = answered []
first_answer (Ok (Some p)) = answered (p ∷ [])
first_answer (Err cause) = refused_for cause

-- ---- the crossings of edges, in edge order

abbrev pub listed : Option UnitVect3 → List UnitVect3
listed None = []
listed (Some p) = p ∷ []

unfoldable pub crossings_of : {E : Type 0} → (E → Option UnitVect3) → List E → List UnitVect3
crossings_of hit [] = []
crossings_of hit (e ∷ es) = listed (hit e) ++ crossings_of hit es

-- a crossing to be answered that isn't finite is 6
abbrev pub tested_of : Option UnitVect3 → Answer (Option UnitVect3)
tested_of None = answered None
tested_of (Some p) = refuse_if (not (is_finite_unit p)) 6 [] (answered (Some p))

unfoldable pub all_finite : List UnitVect3 → Bool
all_finite [] = true
all_finite (p ∷ ps) = is_finite_unit p && all_finite ps

-- all of them
unfoldable pub all_of : List UnitVect3 → Answer (List UnitVect3)
all_of ps = refuse_if (not (all_finite ps)) 6 [] (answered ps)

-- the first of them, or none
unfoldable pub first_of : List UnitVect3 → Answer (List UnitVect3)
first_of [] = answered []
first_of (p ∷ ps) = refuse_if (not (is_finite_unit p)) 6 [] (answered (p ∷ []))

-- yes exactly when the first-answer call gives a point
abbrev pub is_point : List UnitVect3 → Bool
is_point [] = false
is_point (p ∷ ps) = true

abbrev pub intersecting_of : Answer (List UnitVect3) → Answer Bool
intersecting_of first = and_then first (λ ps. answered (is_point ps))

-- ---- the crossings of a region's edges with a curve, which may have been refused: the count is tested first

abbrev pub first_crossing_of : {C : Type 0} → (C → Edge → Option UnitVect3) → View → Result C Cause → Answer (List UnitVect3)
first_crossing_of hit v curve = with_count v.count (and_then (answer_of curve) (λ c. first_of (crossings_of (hit c) (edges_of v))))

abbrev pub all_crossings_of : {C : Type 0} → (C → Edge → Option UnitVect3) → View → Result C Cause → Answer (List UnitVect3)
all_crossings_of hit v curve = with_count v.count (and_then (answer_of curve) (λ c. all_of (crossings_of (hit c) (edges_of v))))

-- what the edges give, a crossing or none each, which isn't tested yet
abbrev pub given_of : {C : Type 0} → (C → Edge → Option UnitVect3) → View → Result C Cause → Answer (List (Option UnitVect3))
given_of hit v curve = with_count v.count (and_then (answer_of curve) (λ c. answered (map (hit c) (edges_of v))))

-- the same of the edges from index i on, where the corner before is at `before`
unfoldable pub given_from : (Edge → Option UnitVect3) → Region → ℕ → ℕ → List (Option UnitVect3)
given_from hit r before i = map hit (edges_from (get_or r.vertices before nowhere) (drop i (take r.count r.vertices)) (drop i (take r.count r.cross_products)))

-- ---- a list by value

abbrev pub zero3 : UnitVect3
zero3 = record { x = nought; y = nought; z = nought }

unfoldable pub zeros : List UnitVect3
zeros = replicate 64 zero3

-- entries past the length are zero
unfoldable pub list_of : List UnitVect3 → Crossings
list_of ps = record { points = ps ++ replicate (64 - length ps) zero3; len = length ps }

-- the points that an answer lists: none where it is refused
abbrev pub shown : Answer (List UnitVect3) → List UnitVect3
shown (answered ps) = ps
shown (refused number values) = []

-- a call's all-answer is this one
pub record Lists (r : AllAnswer) (answer : Answer (List UnitVect3)) : Type 0 where
  pub outcome : outcome_of r.outcome (shown answer) ≡ answer
  pub list : r.crossings ≡ list_of (shown answer)
