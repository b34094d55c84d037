-- How many edges are in range at most, and an outline that has as many. The theorems speak of whatever answers
-- meet the calls' contracts.
use Rattle.refusal.specs.declared.Cause.{Cause}
use Rattle.std.specs.Prelude.{ℕ, ◌-◌, ◌≤◌, ◌≡◌, true, false, Result, Ok}
use Rattle.coo3d.specs.declared.Coo3D.{Coo3D}
use Rattle.cost.specs.declared.CostliestOutline.{CostliestOutline}
use Rattle.cost.specs.declared.RangedDecision.{RangedDecision}
use Rattle.cost.specs.RangeCount.{Ranged}
use Rattle.domain.specs.Domain.{in_domain}
use Rattle.lists.specs.Counts.{is_odd}
use Rattle.making.specs.Made.{Made}
use Rattle.refusal.specs.Answer.{answered, answer_of}
use Rattle.region.specs.declared.Region.{Region}
use Rattle.region.specs.Region.{seam_count_of}
use Rattle.region.specs.View.{view_of}

-- the number that `contains_with_range_count` gives at the point is one of which this holds
abbrev pub AtPoint : Region → Coo3D → (ℕ → Type 0) → Type 0
AtPoint r p Holds = (a : RangedDecision) → Ranged a (view_of r) p → Holds a.in_range

-- whatever a region's fields are, no more edges are in range at a point than it has corners
abbrev pub AtMost : Region → Type 0
AtMost r = (p : Coo3D) → AtPoint r p (λ k. k ≤ r.count)

-- for made regions: at least one is not in range where the corners are odd in number, whatever the seam count is
abbrev pub OddAtMost : Region → Type 0
OddAtMost r = is_odd r.count ≡ true → (p : Coo3D) → AtPoint r p (λ k. k ≤ r.count - 1)

-- the outline of n corners, and its point
pub record Costliest (n : ℕ) (o : CostliestOutline) : Type 0 where
  -- the call is done, and its region is made, of n corners
  pub done : o.built.outcome ≡ Ok tt
  pub is_made : Made o.built.region
  pub corners : o.built.region.count ≡ n
  -- `seam_count` answers 0
  pub seams : (k : Result ℕ Cause) → answer_of k ≡ seam_count_of (view_of o.built.region) → answer_of k ≡ answered 0
  -- the point is legal, and all n edges are in range there, or all but one where n is odd
  pub legal : in_domain o.point ≡ true
  pub even : is_odd n ≡ false → AtPoint o.built.region o.point (λ k. k ≡ n)
  pub odd : is_odd n ≡ true → AtPoint o.built.region o.point (λ k. k ≡ n - 1)
  -- no made region of n corners has more edges in range anywhere: its number at any point, k, is at most the outline's, m
  pub most : (r : Region) → Made r → r.count ≡ n → (p : Coo3D) → AtPoint r p (λ k. AtPoint o.built.region o.point (λ m. k ≤ m))
