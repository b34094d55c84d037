-- `great_circles::is_intersecting_great_circle_arc` meets its contract. Assumes nothing. The check finds it; without it a wrong edit is refused only where its search ends.
use mathlib.Core.Path.{ap, ◌∙◌}
use Rattle.crossings.specs.Crossings.{intersecting_of}
use Rattle.great_circles.proofs.is_intersecting_great_circle_arc.Goals as goal

pub returns : goal.returns
returns c = c.is_intersecting.ensures ∙ ap intersecting_of c.intersect_great_circle_arc.ensures
