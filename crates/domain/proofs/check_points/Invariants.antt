-- `domain::check_points` meets its contract. Assumes nothing.
use mathlib.Core.Path.{◌≡◌}
use lib.ListN.{length, take}
use Rattle.domain.specs.Checks.{points_from}
use Rattle.domain.proofs.Points.{so_far}
use Rattle.domain.proofs.check_points.Given as goal

abbrev pub invariant-loop-i : goal.invariant-loop-i
invariant-loop-i l = (length l.out ≡ 64) × (so_far l.points l.count l.i l.out ≡ points_from 0 (take l.count l.points))
