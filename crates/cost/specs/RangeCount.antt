-- Containment with the number of edges in range. What `contains` answers is asked of the
-- point that the check hands back, and so is the number.
use Rattle.std.specs.Prelude.{ℕ, ◌≡◌}
use Rattle.coo3d.specs.declared.Coo3D.{Coo3D}
use Rattle.domain.specs.Checks.{point_at, with_count}
use Rattle.refusal.specs.Answer.{Answer, answered, refused, and_then, answer_of}
use Rattle.region.specs.Region.{contains_of}
use Rattle.region.specs.View.{View, in_range_count}
use Rattle.cost.specs.declared.RangedDecision.{RangedDecision}

-- how many edges are in range at the point, which is tested as `contains` tests it
unfoldable pub range_count_of : View → Coo3D → Answer ℕ
range_count_of v p = with_count v.count (and_then (point_at 0 p) (λ q. answered (in_range_count q v)))

-- the number; beside a refusal it is 0
abbrev pub number_or0 : Answer ℕ → ℕ
number_or0 (answered n) = n
number_or0 (refused number values) = 0

-- a call's answer, a decision beside a number, is this one: the decision and the refusals are those of `contains`
pub record Ranged (a : RangedDecision) (v : View) (p : Coo3D) : Type 0 where
  pub decision : answer_of a.decision ≡ contains_of v p
  pub in_range : a.in_range ≡ number_or0 (range_count_of v p)
