-- `region::Edge::crosses_seam` meets its contract. Assumes nothing. The check finds it; without it a wrong edit is refused only where its search ends.
use Rattle.region.proofs.Edge.crosses_seam.Goals as goal

pub returns : goal.returns
returns c = c.crosses_seam.ensures
