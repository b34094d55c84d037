-- `cone::gravity_center` meets its contract: the sum so far, and the points that are left. Assumes nothing.
use mathlib.Core.Path.{◌≡◌}
use lib.ListN.{drop}
use Rattle.cone.specs.Cone.{sum_from, gravity_center}
use Rattle.cone.proofs.gravity_center.Given as goal

abbrev pub invariant-loop-p : goal.invariant-loop-p
invariant-loop-p l = sum_from l.sum.x l.sum.y l.sum.z (drop l.p-index l.points) ≡ gravity_center l.points
