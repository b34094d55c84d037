-- `coo3d::Vect3::from, of a UnitVect3,` meets its contract. Assumes nothing. The check finds it; without it a wrong edit is refused only where its search ends.
use mathlib.Core.Path.{refl}
use Rattle.coo3d.proofs.Vect3FromUnitVect3.from.Goals as goal

pub returns : goal.returns
returns c = refl
