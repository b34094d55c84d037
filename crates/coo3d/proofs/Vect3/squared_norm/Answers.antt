-- `coo3d::Vect3::squared_norm` meets its contract. Assumes nothing. The check finds it; without it a wrong edit is refused only where its search ends.
use Rattle.coo3d.proofs.Vect3.squared_norm.Goals as goal

pub returns : goal.returns
returns c = c.squared_norm_of.ensures
