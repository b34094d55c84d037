-- `great_circles::Arc::intersect_point` meets its contract. Assumes nothing. The check finds it; without it a wrong edit is refused only where its search ends.
use Rattle.great_circles.specs.Arcs.{intersect_point}
use Rattle.great_circles.proofs.Arc.intersect_point.Goals as goal

pub returns : goal.returns
unfolding intersect_point
returns c = c.normalized.ensures
