-- `float::within_half_open` meets its contract. Assumes nothing.
use mathlib.Core.Path.{refl}
use Rattle.float.proofs.within_half_open.Goals as goal

pub returns : goal.returns
returns c = refl
