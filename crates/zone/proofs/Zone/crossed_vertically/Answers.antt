-- `zone::Zone::crossed_vertically` meets its contract. Assumes nothing.
use Rattle.zone.specs.Zone.{crossed_vertically}
use Rattle.zone.proofs.Zone.crossed_vertically.Goals as goal

pub returns-then-self : goal.returns-then-self
unfolding crossed_vertically
returns-then-self c = simp c.if-self.true

pub returns-else-self : goal.returns-else-self
unfolding crossed_vertically
returns-else-self c = simp c.if-self.false
