-- `region::build_flagged` meets its contract. Assumes nothing.
use Rattle.region.proofs.Building.{Checking}
use Rattle.region.proofs.build_flagged.Given as goal

abbrev pub invariant-loop-i : goal.invariant-loop-i
invariant-loop-i l = Checking l.initial.region.vertices l.count l.flag l.region l.i
