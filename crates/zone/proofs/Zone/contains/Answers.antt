-- `zone::Zone::contains` meets its contract. Assumes nothing.
use Rattle.zone.specs.Zone.{zone_contains}
use Rattle.zone.proofs.Zone.contains.Goals as goal

pub returns-then-self : goal.returns-then-self
unfolding zone_contains
returns-then-self c = simp (c.if-self.true, c.within_half_open-is_lat_compatible.ensures)

pub returns-else-self : goal.returns-else-self
unfolding zone_contains
returns-else-self c = simp (c.if-self.false, c.within_half_open-is_lat_compatible.ensures)
