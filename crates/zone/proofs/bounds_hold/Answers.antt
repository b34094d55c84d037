-- `zone::bounds_hold` meets its contract. Assumes nothing.
use mathlib.Core.Bool.{and_assoc}
use Rattle.zone.specs.Zone.{bounds_hold}
use Rattle.zone.proofs.bounds_hold.Goals as goal

pub returns : goal.returns
unfolding bounds_hold
returns c = simp (c.within_half_open.ensures, c.within_half_open-2.ensures, and_assoc)
