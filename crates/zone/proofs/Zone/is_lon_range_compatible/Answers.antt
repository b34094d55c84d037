-- `zone::Zone::is_lon_range_compatible` meets its contract. Assumes nothing.
use mathlib.Core.Path.{refl}
use Rattle.zone.specs.Zone.{lon_range_compatible}
use Rattle.zone.proofs.Zone.is_lon_range_compatible.Goals as goal

pub returns : goal.returns
unfolding lon_range_compatible
returns c = refl
