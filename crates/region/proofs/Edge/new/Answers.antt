-- `region::Edge::new` meets its contract. Assumes nothing. The check finds it; without it a wrong edit is refused only where its search ends.
use mathlib.Core.Path.{refl}
use Rattle.region.proofs.Edge.new.Goals as goal

pub returns : goal.returns
returns c = rw c.edge_normal.ensures refl
