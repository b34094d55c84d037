-- `cost::saw` meets its contract. Assumes nothing.
use Rattle.cost.proofs.Drawing.{drawing_starts, drawing_turn, drawing_ends}
use Rattle.cost.proofs.saw.Goals as goal

pub loop-i-init : goal.loop-i-init
loop-i-init c = drawing_starts

pub loop-i-preserved : goal.loop-i-preserved
loop-i-preserved c = drawing_turn c.loop-i.invariant c.loop-i-test.true _ c.tooth.ensures

pub returns : goal.returns
returns c = drawing_ends c.loop-i.invariant c.loop-i-test.false
