-- `cost::saw` meets its contract. Assumes nothing.
use Rattle.cost.proofs.Drawing.{Drawing}
use Rattle.cost.proofs.saw.Given as goal

abbrev pub invariant-loop-i : goal.invariant-loop-i
invariant-loop-i l = Drawing l.corners l.is_east l.lat l.c l.s l.i
