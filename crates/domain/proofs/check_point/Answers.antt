-- `domain::check_point` meets its contract. Assumes nothing.
use Rattle.domain.specs.Checks.{point_at}
use Rattle.domain.proofs.check_point.Goals as goal

pub returns : goal.returns
unfolding point_at
returns c = simp (c.if_inside.ensures, c.in_domain.ensures)
