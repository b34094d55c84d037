-- `coo3d::UnitVect3::scaled_by` meets its contract. Assumes nothing. The check finds it; without it a wrong edit is refused only where its search ends.
use mathlib.Core.Path.{refl}
use Rattle.coo3d.proofs.UnitVect3.scaled_by.Goals as goal

pub returns : goal.returns
returns c = refl
