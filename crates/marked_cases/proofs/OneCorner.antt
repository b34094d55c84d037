-- Case 7: a region of one corner has one edge, from the corner to itself, which no point is in range of.
use mathlib.Core.Path.{◌≡◌}
use mathlib.Core.Bool.{true}
use Rattle.coo3d.specs.declared.Coo3D.{Coo3D}
use Rattle.domain.specs.Domain.{in_domain}
use Rattle.domain.specs.Checks.{points_from, points_of}
use Rattle.domain.proofs.Handed.{handed}
use Rattle.domain.proofs.Inside.{finite_inside}
use Rattle.float.proofs.Ordered.{level_itself}
use Rattle.lists.specs.Counts.{odd_many}
use Rattle.lists.specs.Cyclic.{last_of, along}
use Rattle.refusal.specs.Answer.{answered}
use Rattle.region.specs.Edges.{is_counted}
use Rattle.region.specs.View.{edges_from, edges_of, odd_at, contained, normals_of}
use Rattle.region.specs.Poles.{rule_flag}
use Rattle.region.specs.Region.{contains_of, rule_at, flag_of, build_of}
use Rattle.region.proofs.InRange.{meridian_never}
use Rattle.marked_cases.specs.Cases.{one_corner, contains}

pub one_corner_lem : (c p : Coo3D) → in_domain c ≡ true → in_domain p ≡ true → contains (one_corner c) p ≡ answered true
unfolding build_of points_of points_from flag_of rule_at rule_flag contains_of contained odd_at odd_many edges_of edges_from normals_of along last_of is_counted
one_corner_lem c p in_c in_p =
    let d = handed c in_c in
    let q = handed p in_p in
    let lon = d.point.lon in
    let f = (finite_inside d.point d.inside).lon in
    rw (d.answer 0, q.answer 0, meridian_never q.point.lon lon lon f f (level_itself lon f))
