-- `region::Edge::is_in_range` meets its contract. Assumes nothing. The check finds it; without it a wrong edit is refused only where its search ends.
use Rattle.region.proofs.Edge.is_in_range.Goals as goal

pub returns : goal.returns
returns c = c.is_in_lon_range.ensures
