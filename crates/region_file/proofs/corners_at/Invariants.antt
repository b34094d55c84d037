-- `region_file::corners_at` meets its contract. Assumes nothing.
use Prim.Native.Nat.{◌+◌, ◌-◌, ◌*◌}
use mathlib.Core.Path.{◌≡◌}
use mathlib.Core.List.{◌++◌}
use lib.ListN.{length, take}
use Rattle.region_file.specs.Bytes.{corners_at}
use Rattle.region_file.proofs.corners_at.Given as goal

abbrev pub invariant-loop-i : goal.invariant-loop-i
invariant-loop-i l = (length l.corners ≡ 64) × (take l.i l.corners ++ corners_at l.s (l.at + 40 * l.i) (l.count - l.i) ≡ corners_at l.s l.at l.count)
