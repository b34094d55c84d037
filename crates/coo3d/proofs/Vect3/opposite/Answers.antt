-- `coo3d::Vect3::opposite` meets its contract. Assumes nothing.
use mathlib.Core.Path.{refl}
use Rattle.coo3d.specs.Vectors.{opposite_of}
use Rattle.coo3d.proofs.Vect3.opposite.Goals as goal

pub returns : goal.returns
unfolding opposite_of
returns c = refl
