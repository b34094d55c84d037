-- `cost::abreast` meets its contract. Assumes nothing.
use mathlib.Core.Path.{refl}
use Rattle.cost.specs.Outline.{abreast}
use Rattle.cost.proofs.abreast.Goals as goal

pub returns : goal.returns
unfolding abreast
returns c = refl
