-- `coo3d::UnitVect3::is_finite` meets its contract. Assumes nothing. The check finds it; without it a wrong edit is refused only where its search ends.
use Rattle.coo3d.proofs.UnitVect3.is_finite.Goals as goal

pub returns : goal.returns
returns c = simp (c.is_finite.ensures, c.is_finite-2.ensures, c.is_finite-3.ensures)
