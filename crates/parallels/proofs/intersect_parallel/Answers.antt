-- `parallels::intersect_parallel` meets its contract. Assumes nothing.
use mathlib.Core.Path.{◌∙◌}
use Rattle.crossings.specs.Crossings.{first_of}
use Rattle.region.specs.View.{view_of, edges_of}
use Rattle.parallels.specs.Queries.{first_fit, parallel_first_of}
use Rattle.parallels.proofs.Given.{given_parallel}
use Rattle.parallels.proofs.intersect_parallel.Goals as goal

pub returns : goal.returns
unfolding parallel_first_of
returns c = c.first_fit_in.ensures ∙ given_parallel (view_of c.args.r) _ _ _ _ (λ p. first_of (first_fit p.lat p.sin p.cos (edges_of (view_of c.args.r)))) c.new.ensures
