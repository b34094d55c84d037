-- `region::basic` meets its contract. Assumes nothing.
use mathlib.Core.Path.{◌≡◌}
use lib.ListN.{drop}
use Rattle.region.specs.Poles.{basic_from, basic_of}
use Rattle.region.proofs.basic.Given as goal

abbrev pub invariant-loop-to : goal.invariant-loop-to
invariant-loop-to l = basic_from l.sum_delta_lon l.gravity_center_z l.from (drop l.to-index l.corners) ≡ basic_of l.corners
