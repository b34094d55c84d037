-- `bench::sum_over_flags` is safe and ends. Assumes nothing.
use Prim.Native.Nat.{◌<◌}
use Rattle.bench.proofs.sum_over_flags.Given as goal

abbrev pub invariant-loop-i : goal.invariant-loop-i
invariant-loop-i g l = l.k < 64
