-- `coo3d::Vect3::y` meets its contract. Assumes nothing. The check finds it; without it a wrong edit is refused only where its search ends.
use mathlib.Core.Path.{refl}
use Rattle.coo3d.proofs.Vect3Vec3.y.Goals as goal

pub returns : goal.returns
returns c = refl
