-- `zone::raise` meets its contract. Assumes nothing.
use Rattle.zone.specs.Zone.{raised}
use Rattle.zone.proofs.raise.Goals as goal

pub returns-then-lat_max : goal.returns-then-lat_max
unfolding raised
returns-then-lat_max c = simp c.if-lat_max.true

pub returns-else-lat_max : goal.returns-else-lat_max
unfolding raised
returns-else-lat_max c = simp c.if-lat_max.false
