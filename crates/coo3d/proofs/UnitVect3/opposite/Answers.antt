-- `coo3d::UnitVect3::opposite` meets its contract. Assumes nothing. The check finds it; without it a wrong edit is refused only where its search ends.
use Rattle.coo3d.proofs.UnitVect3.opposite.Goals as goal

pub returns : goal.returns
returns c = c.new.ensures
