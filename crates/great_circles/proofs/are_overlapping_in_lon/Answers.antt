-- `great_circles::are_overlapping_in_lon` meets its contract. Assumes nothing. The check finds it; without it a wrong edit is refused only where its search ends.
use Rattle.great_circles.specs.Arcs.{overlap_in_lon}
use Rattle.great_circles.proofs.are_overlapping_in_lon.Goals as goal

pub returns-then-pb-pa : goal.returns-then-pb-pa
unfolding overlap_in_lon
returns-then-pb-pa c = simp (c.if-b-a.true, c.if-pb-pa.true)

pub returns-else-pb-pa : goal.returns-else-pb-pa
unfolding overlap_in_lon
returns-else-pb-pa c = simp (c.if-b-a.true, c.if-pb-pa.false)

pub returns-then-pb-pa-2 : goal.returns-then-pb-pa-2
unfolding overlap_in_lon
returns-then-pb-pa-2 c = simp (c.if-b-a.false, c.if-pb-pa-2.true)

pub returns-else-pb-pa-2 : goal.returns-else-pb-pa-2
unfolding overlap_in_lon
returns-else-pb-pa-2 c = simp (c.if-b-a.false, c.if-pb-pa-2.false)
