-- `coo3d::Coo3D::x` meets its contract. Assumes nothing. The check finds it; without it a wrong edit is refused only where its search ends.
use mathlib.Core.Path.{refl}
use Rattle.coo3d.proofs.Coo3DVec3.x.Goals as goal

pub returns : goal.returns
returns c = refl
