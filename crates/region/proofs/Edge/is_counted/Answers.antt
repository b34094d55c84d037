-- `region::Edge::is_counted` meets its contract. Assumes nothing. The check finds it; without it a wrong edit is refused only where its search ends.
use Rattle.region.proofs.Edge.is_counted.Goals as goal

pub returns : goal.returns
returns c = c.is_counted.ensures
