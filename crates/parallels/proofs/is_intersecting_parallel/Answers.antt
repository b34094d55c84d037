-- `parallels::is_intersecting_parallel` meets its contract. Assumes nothing.
use mathlib.Core.Path.{ap, ◌∙◌}
use Rattle.crossings.specs.Crossings.{intersecting_of}
use Rattle.parallels.proofs.is_intersecting_parallel.Goals as goal

pub returns : goal.returns
returns c = c.is_intersecting.ensures ∙ ap intersecting_of c.intersect_parallel.ensures
