-- What the checks answer.
use Rattle.std.specs.Prelude.{ℕ, suc, ◌≡◌, not, List, [], ◌∷◌, eqb, ltb, take, Err}
use Rattle.coo3d.specs.declared.Coo3D.{Coo3D}
use Rattle.coo3d.specs.declared.Vect3.{Vect3}
use Rattle.refusal.specs.Answer.{Answer, answered, refuse_if, and_then, outcome_of}
use Rattle.refusal.specs.declared.Cause.{Cause}
use Rattle.domain.specs.declared.PointsCheck.{PointsCheck}
use Rattle.domain.specs.Domain.{in_domain, vector_in_domain}

-- the point as it is, its -0 kept; outside the domain 1, with its index
unfoldable pub point_at : ℕ → Coo3D → Answer Coo3D
point_at index p = refuse_if (not (in_domain p)) 1 (index ∷ []) (answered p)

unfoldable pub vector_at : ℕ → Vect3 → Answer Vect3
vector_at index v = refuse_if (not (vector_in_domain v)) 1 (index ∷ []) (answered v)

-- the points in order, numbered from `index`: refused at the lowest bad one
unfoldable pub points_from : ℕ → List Coo3D → Answer (List Coo3D)
points_from index [] = answered []
points_from index (p ∷ ps) = and_then (point_at index p) (λ q. and_then (points_from (suc index) ps) (λ qs. answered (q ∷ qs)))

-- a count of 0 is 2, and one above 64 is 3
abbrev pub with_count : {A : Type 0} → ℕ → Answer A → Answer A
with_count count next = refuse_if (eqb count 0) 2 [] (refuse_if (ltb 64 count) 3 [] next)

-- the first `count` of the points: the count is tested first, then each point
unfoldable pub points_of : List Coo3D → ℕ → Answer (List Coo3D)
points_of points count = with_count count (points_from 0 (take count points))

-- a call's answer, points beside an outcome, is what the check gives: the first `count` where it is done; a refusal leaves all points as they were
pub record PointsChecked (points : List Coo3D) (count : ℕ) (r : PointsCheck) : Type 0 where
  pub answer : outcome_of r.outcome (take count r.points) ≡ points_of points count
  pub kept : (cause : Cause) → r.outcome ≡ Err cause → r.points ≡ points
