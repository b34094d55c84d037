-- `region::crosses_seam` meets its contract. Assumes nothing.
use mathlib.Core.Path.{ap, ◌∙◌}
use lib.Ieee.{lt}
use Rattle.float.specs.Doubles.{pi}
use Rattle.float.proofs.Magnitude.{beyond_pi}
use Rattle.region.specs.Edges.{crosses_seam}
use Rattle.region.proofs.crosses_seam.Goals as goal

pub returns : goal.returns
unfolding crosses_seam
returns c = ap (lt pi) c.max.ensures ∙ beyond_pi _
