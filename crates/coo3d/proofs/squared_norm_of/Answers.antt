-- `coo3d::squared_norm_of` meets its contract. Assumes nothing.
use mathlib.Core.Path.{refl}
use Rattle.coo3d.specs.Vectors.{squared_norm}
use Rattle.coo3d.proofs.squared_norm_of.Goals as goal

pub returns : goal.returns
unfolding squared_norm
returns c = refl
