-- `great_circles::GreatCircleCurve::crossing` meets its contract. Assumes nothing. The check finds it; without it a wrong edit is refused only where its search ends.
use mathlib.Core.Path.{sym}
use Rattle.great_circles.specs.Circles.{circle_crossing}
use Rattle.great_circles.proofs.GreatCircleCurve.crossing.Goals as goal

pub returns-then-is_beyond : goal.returns-then-is_beyond
unfolding circle_crossing
returns-then-is_beyond c = rw (sym c.cross_product-v.ensures, sym c.normalized-i.ensures, sym c.if-is_beyond.ensures)

pub returns-then-is_beyond-2 : goal.returns-then-is_beyond-2
unfolding circle_crossing
returns-then-is_beyond-2 c = rw (sym c.cross_product-v.ensures, sym c.normalized-i.ensures, sym c.if-is_beyond.ensures, sym c.opposite-o.ensures, sym c.if-is_beyond-2.ensures)

pub returns-else-is_beyond-2 : goal.returns-else-is_beyond-2
unfolding circle_crossing
returns-else-is_beyond-2 c = rw (sym c.cross_product-v.ensures, sym c.normalized-i.ensures, sym c.if-is_beyond.ensures, sym c.opposite-o.ensures, sym c.if-is_beyond-2.ensures)
