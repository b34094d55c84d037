-- `cost::contains_with_range_count` meets its contract. Assumes nothing.
use Rattle.region.specs.View.{edges_ahead}
use Rattle.cost.proofs.Ranging.{Passing}
use Rattle.cost.proofs.contains_with_range_count.Given as goal

abbrev pub invariant-loop-edge : goal.invariant-loop-edge
invariant-loop-edge l = Passing l.p l.fn.r l.is_inside l.in_range (edges_ahead l.edge-iterator)
