-- `coo3d::Vect3::norm` meets its contract. Assumes nothing. The check finds it; without it a wrong edit is refused only where its search ends.
use Rattle.coo3d.proofs.Vect3.norm.Goals as goal

pub returns : goal.returns
returns c = simp (c.sqrt.ensures, c.squared_norm_of.ensures)
