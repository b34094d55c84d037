-- `region::contains` meets its contract. Assumes nothing.
use Rattle.region.proofs.Containing.{Deciding}
use Rattle.region.proofs.contains.Given as goal

abbrev pub invariant-loop-first : goal.invariant-loop-first
invariant-loop-first l = Deciding l.p l.fn.r l.is_inside l.from l.first

abbrev pub invariant-loop-i : goal.invariant-loop-i
invariant-loop-i l = Deciding l.p l.fn.r l.is_inside l.from l.i
