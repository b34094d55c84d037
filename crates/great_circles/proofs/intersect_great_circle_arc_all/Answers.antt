-- `great_circles::intersect_great_circle_arc_all` meets its contract. Assumes nothing.
use mathlib.Core.Path.{subst}
use Rattle.crossings.specs.Crossings.{all_of, crossings_of, Lists}
use Rattle.region.specs.View.{view_of, edges_of}
use Rattle.great_circles.specs.Arcs.{arc_crossing}
use Rattle.great_circles.specs.Queries.{arc_all_of}
use Rattle.great_circles.proofs.Given.{given_arc}
use Rattle.great_circles.proofs.intersect_great_circle_arc_all.Goals as goal

pub returns : goal.returns
unfolding arc_all_of
returns c = subst (Lists _) (given_arc (view_of c.args.r).count c.args.a c.args.b _ (λ k. all_of (crossings_of (arc_crossing k.west k.east) (edges_of (view_of c.args.r)))) c.new.ensures) c.all_crossings_in.ensures
