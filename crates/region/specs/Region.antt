-- Building a region, and containment: what the calls answer.
use Rattle.std.specs.Prelude.{ℕ, ◌≡◌, Bool, false, List}
use Rattle.coo3d.specs.declared.Coo3D.{Coo3D}
use Rattle.domain.specs.Checks.{point_at, points_of, with_count}
use Rattle.refusal.specs.Answer.{Answer, answered, refused, and_then, outcome_of}
use Rattle.region.specs.declared.Built.{Built}
use Rattle.region.specs.declared.ContainsSouthPoleMethod.{ContainsSouthPoleMethod}
use Rattle.region.specs.declared.ContainsSouthPoleMethod.TheVariants.{Default, DefaultComplement, ContainsSouthPole, DoNotContainsSouthPole, ControlPointIn, ControlPointOut}
use Rattle.region.specs.View.{View, view_of, empty, made, contained}
use Rattle.region.specs.Poles.{rule_flag}

-- every call on a region value tests its count first
unfoldable pub contains_of : View → Coo3D → Answer Bool
contains_of v p = with_count v.count (and_then (point_at 0 p) (λ q. answered (contained q v)))

-- the stored number as it is
unfoldable pub seam_count_of : View → Answer ℕ
seam_count_of v = with_count v.count (answered v.seam_count)

-- ---- the flag, and building

-- the rule with its control point checked, which has this index
unfoldable pub rule_at : ℕ → ContainsSouthPoleMethod → Answer ContainsSouthPoleMethod
rule_at index Default = answered Default
rule_at index DefaultComplement = answered DefaultComplement
rule_at index ContainsSouthPole = answered ContainsSouthPole
rule_at index DoNotContainsSouthPole = answered DoNotContainsSouthPole
rule_at index (ControlPointIn p) = and_then (point_at index p) (λ q. answered (ControlPointIn q))
rule_at index (ControlPointOut p) = and_then (point_at index p) (λ q. answered (ControlPointOut q))

-- the flag that a rule sets for a region's corners and normals; its control point counts after the corners
unfoldable pub flag_of : View → ContainsSouthPoleMethod → Answer Bool
flag_of v rule = with_count v.count (and_then (rule_at v.count rule) (λ checked. answered (rule_flag checked v)))

-- the corners and the flag as they are, with the normals and the seam count that they give
unfoldable pub drawn_of : View → Answer View
drawn_of v = with_count v.count (answered (made v.corners v.flag))

-- the corners are checked (2, 3, 1), then the rule's control point; the rule sets the flag
unfoldable pub build_of : List Coo3D → ℕ → ContainsSouthPoleMethod → Answer View
build_of points count rule = and_then (points_of points count) (λ cs. and_then (flag_of (made cs false) rule) (λ flag. answered (made cs flag)))

-- the region beside an outcome: where the build is refused it has no corners and a clear flag, so that every call on it refuses it as 2
abbrev pub region_by : Answer View → View
region_by (answered v) = v
region_by (refused number values) = empty false

-- a call's answer, a region beside an outcome, is this one
pub record Builds (b : Built) (answer : Answer View) : Type 0 where
  pub outcome : outcome_of b.outcome (region_by answer) ≡ answer
  pub view : view_of b.region ≡ region_by answer
