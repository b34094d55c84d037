-- `region::is_in_lon_range` meets its contract. Assumes nothing.
use Rattle.region.specs.Edges.{in_lon_range}
use Rattle.region.proofs.is_in_lon_range.Goals as goal

pub returns-then-dlon : goal.returns-then-dlon
unfolding in_lon_range
returns-then-dlon c = simp (c.if-dlon.true, c.within_half_open.ensures)

pub returns-else-dlon : goal.returns-else-dlon
unfolding in_lon_range
returns-else-dlon c = simp (c.if-dlon.false, c.within_half_open-else-dlon.ensures)
