-- `zone::Zone::dlon` meets its contract. Assumes nothing.
use Rattle.zone.specs.Zone.{dlon_of}
use Rattle.zone.proofs.Zone.dlon.Goals as goal

pub returns-then-self : goal.returns-then-self
unfolding dlon_of
returns-then-self c = simp c.if-self.true

pub returns-else-self : goal.returns-else-self
unfolding dlon_of
returns-else-self c = simp c.if-self.false
