-- `coo3d::UnitVect3::z` meets its contract. Assumes nothing. The check finds it; without it a wrong edit is refused only where its search ends.
use mathlib.Core.Path.{refl}
use Rattle.coo3d.proofs.UnitVect3Vec3.z.Goals as goal

pub returns : goal.returns
returns c = refl
