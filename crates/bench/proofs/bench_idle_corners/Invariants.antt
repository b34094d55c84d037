-- `bench::bench_idle_corners` is safe and ends. Assumes nothing.
use Prim.Native.Nat.{◌<◌}
use mathlib.Core.Path.{◌≡◌}
use lib.ListN.{length}
use Rattle.bench.proofs.bench_idle_corners.Given as goal

abbrev pub invariant-loop-i : goal.invariant-loop-i
invariant-loop-i l = (l.k < 64) × (length l.given ≡ 64)
