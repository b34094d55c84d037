-- `zone::Zone::new` meets its contract. Assumes nothing.
use mathlib.Core.Path.{sym}
use Rattle.zone.specs.Zone.{zone_of}
use Rattle.zone.proofs.Zone.new.Goals as goal

pub returns-then-bounds_hold : goal.returns-then-bounds_hold
unfolding zone_of
returns-then-bounds_hold c = simp (c.raise.ensures, sym c.bounds_hold.ensures, c.if-bounds_hold.true)

pub returns-else-bounds_hold : goal.returns-else-bounds_hold
unfolding zone_of
returns-else-bounds_hold c = simp (sym c.bounds_hold.ensures, c.if-bounds_hold.false)
