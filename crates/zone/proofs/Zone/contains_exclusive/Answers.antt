-- `zone::Zone::contains_exclusive` meets its contract. Assumes nothing.
use Rattle.zone.specs.Zone.{zone_contains_exclusive}
use Rattle.zone.proofs.Zone.contains_exclusive.Goals as goal

pub returns-then-self : goal.returns-then-self
unfolding zone_contains_exclusive
returns-then-self c = simp c.if-self.true

pub returns-else-self : goal.returns-else-self
unfolding zone_contains_exclusive
returns-else-self c = simp c.if-self.false
