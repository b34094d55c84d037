-- `float::within` meets its contract. Assumes nothing.
use mathlib.Core.Path.{refl}
use Rattle.float.proofs.within.Goals as goal

pub returns : goal.returns
returns c = refl
