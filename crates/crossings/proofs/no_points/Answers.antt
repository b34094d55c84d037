-- `crossings::no_points` meets its contract. Assumes nothing.
use mathlib.Core.Path.{refl}
use Rattle.crossings.specs.Crossings.{zeros}
use Rattle.crossings.proofs.no_points.Goals as goal

pub returns : goal.returns
unfolding zeros
returns c = refl
