-- `parallels::second_degree` meets its contract. Assumes nothing.
use mathlib.Core.Path.{sym}
use Rattle.parallels.specs.Parallels.{either_of, second_degree}
use Rattle.parallels.proofs.second_degree.Goals as goal

pub returns-then-is_between : goal.returns-then-is_between
unfolding second_degree either_of
returns-then-is_between c = simp (
  c.if-is_between.true,
  sym c.is_between.ensures,
  sym c.point_at_y-p1.ensures,
  sym c.sqrt-delta_root_sq.ensures,
  c.if-delta.true,
)

pub returns-else-is_between : goal.returns-else-is_between
unfolding second_degree either_of
returns-else-is_between c = simp (
  c.point_at_y.ensures,
  c.if-is_between.false,
  sym c.is_between.ensures,
  sym c.point_at_y-p1.ensures,
  sym c.sqrt-delta_root_sq.ensures,
  c.if-delta.true,
)

pub returns-then-delta-2 : goal.returns-then-delta-2
unfolding second_degree
returns-then-delta-2 c = simp (c.point_at_y-then-delta-2.ensures, c.if-delta-2.true, c.if-delta.false)

pub returns-else-delta-2 : goal.returns-else-delta-2
unfolding second_degree
returns-else-delta-2 c = simp (c.if-delta-2.false, c.if-delta.false)
