-- `region_file::checked_corners_at` meets its contract. Assumes nothing.
use mathlib.Core.Path.{◌≡◌}
use lib.ListN.{length}
use Rattle.domain.specs.Checks.{points_from}
use Rattle.domain.proofs.Points.{so_far}
use Rattle.region_file.specs.Bytes.{corners_at}
use Rattle.region_file.proofs.checked_corners_at.Given as goal

abbrev pub invariant-loop-i : goal.invariant-loop-i
invariant-loop-i l = (length l.corners ≡ 64) × (so_far (corners_at l.s l.at l.count) l.count l.i l.corners ≡ points_from 0 (corners_at l.s l.at l.count))
