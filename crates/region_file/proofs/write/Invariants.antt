-- `region_file::write` meets its contract. Assumes nothing.
use Prim.Native.Nat.{◌*◌}
use mathlib.Core.Path.{◌≡◌}
use lib.ListN.{length, take, drop}
use lib.Seq.{sets}
use Rattle.region_file.specs.Bytes.{corners_bytes}
use Rattle.region_file.proofs.write.Given as goal

abbrev pub invariant-loop-i : goal.invariant-loop-i
invariant-loop-i l = (length l.out ≡ length l.initial.out) × (sets l.out (40 * l.i) (corners_bytes (drop l.i (take l.count l.r.vertices))) ≡ sets l.initial.out 0 (corners_bytes (take l.count l.r.vertices)))
