-- `great_circles::intersect_great_circle_arc` meets its contract. Assumes nothing. The check finds it; without it a wrong edit is refused only where its search ends.
use mathlib.Core.Path.{◌∙◌}
use Rattle.crossings.specs.Crossings.{first_of, crossings_of}
use Rattle.region.specs.View.{view_of, edges_of}
use Rattle.great_circles.specs.Arcs.{arc_crossing}
use Rattle.great_circles.specs.Queries.{arc_first_of}
use Rattle.great_circles.proofs.Given.{given_arc}
use Rattle.great_circles.proofs.intersect_great_circle_arc.Goals as goal

pub returns : goal.returns
unfolding arc_first_of
returns c = c.first_crossing_in.ensures ∙ given_arc (view_of c.args.r).count c.args.a c.args.b _ (λ k. first_of (crossings_of (arc_crossing k.west k.east) (edges_of (view_of c.args.r)))) c.new.ensures
