-- `parallels::intersect_parallel_all` meets its contract. Assumes nothing.
use mathlib.Core.Path.{subst}
use Rattle.crossings.specs.Crossings.{all_of, crossings_of, Lists}
use Rattle.region.specs.View.{view_of, edges_of}
use Rattle.parallels.specs.Parallels.{parallel_crossing}
use Rattle.parallels.specs.Queries.{parallel_all_of}
use Rattle.parallels.proofs.Given.{given_parallel}
use Rattle.parallels.proofs.intersect_parallel_all.Goals as goal

pub returns : goal.returns
unfolding parallel_all_of
returns c = subst (Lists _) (given_parallel (view_of c.args.r) _ _ _ _ (λ p. all_of (crossings_of (parallel_crossing p.lat p.sin p.cos) (edges_of (view_of c.args.r)))) c.new.ensures) c.all_crossings_in.ensures
