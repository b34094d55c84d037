-- The six edits: document 01, 'Edits and the plain record'. The table is read with a count; then the edit changes a region's view.
use Rattle.std.specs.Prelude.{ℕ, ◌≡◌, not, cond, [], eqb, ltb, set, Err}
use Rattle.coo3d.specs.declared.Coo3D.{Coo3D}
use Rattle.domain.specs.Checks.{point_at, with_count}
use Rattle.lists.specs.Cyclic.{ins, del, put_along, ins_along, del_along}
use Rattle.refusal.specs.Answer.{Answer, answered, refuse_if, and_then, outcome_of}
use Rattle.refusal.specs.declared.Cause.{Cause}
use Rattle.region.specs.declared.Region.{Region}
use Rattle.region.specs.declared.ContainsSouthPoleMethod.{ContainsSouthPoleMethod}
use Rattle.region.specs.Edges.{normal_of}
use Rattle.region.specs.View.{View, view_of, with_flag, with_corners, nowhere, contained}
use Rattle.region.specs.Poles.{rule_flag}
use Rattle.region.specs.Region.{rule_at}
use Rattle.edits.specs.declared.EditAnswer.{EditAnswer}

pub data Edit : Type 0 where
  -- put a corner at an index; insert one before an index, the count appends; remove an index
  put : ℕ → Coo3D → Edit
  insert : ℕ → Coo3D → Edit
  remove : ℕ → Edit
  -- turn the flag; hold a point, by value or on a lent region; rule with a new pole rule
  turn : Edit
  hold : Coo3D → Edit
  rule : ContainsSouthPoleMethod → Edit

-- The table, read with a count of corners: the refusal, or the edit with its points as the check hands them back.
-- A 65th corner is 3, any remove at count 1 is 2; then the index is 4; then the point is 1, numbered 0, the rule's control point by the count.
unfoldable pub checked : ℕ → Edit → Answer Edit
checked n (put i p) = with_count n (refuse_if (not (ltb i n)) 4 [] (and_then (point_at 0 p) (λ q. answered (put i q))))
checked n (insert i p) = with_count n (refuse_if (eqb n 64) 3 [] (refuse_if (ltb n i) 4 [] (and_then (point_at 0 p) (λ q. answered (insert i q)))))
checked n (remove i) = with_count n (refuse_if (eqb n 1) 2 [] (refuse_if (not (ltb i n)) 4 [] (answered (remove i))))
checked n turn = with_count n (answered turn)
checked n (hold p) = with_count n (and_then (point_at 0 p) (λ q. answered (hold q)))
checked n (rule m) = with_count n (and_then (rule_at n m) (λ k. answered (rule k)))

-- ---- on a region: the other normals stay as stored, and hold and the control points go by the stored ones

unfoldable pub changed : Edit → View → View
changed (put i p) v = with_corners v (set v.corners i p) (put_along nowhere normal_of v.corners i p v.normals)
changed (insert i p) v = with_corners v (ins i p v.corners) (ins_along nowhere normal_of v.corners i p v.normals)
changed (remove i) v = with_corners v (del i v.corners) (del_along nowhere normal_of v.corners i v.normals)
changed turn v = with_flag v (not v.flag)
changed (hold p) v = with_flag v (cond (contained p v) v.flag (not v.flag))
changed (rule m) v = with_flag v (rule_flag m v)

unfoldable pub edit_of : Edit → View → Answer View
edit_of e v = and_then (checked v.count e) (λ k. answered (changed k v))

-- what an edit's answer is: the region beside an outcome; a refusal leaves the region value as it was, all of it
pub record Edited (e : Edit) (before : Region) (after : EditAnswer) : Type 0 where
  pub answer : outcome_of after.outcome (view_of after.region) ≡ edit_of e (view_of before)
  pub kept : (cause : Cause) → after.outcome ≡ Err cause → after.region ≡ before
