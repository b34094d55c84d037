-- `doors_c::jigwandor_hold` meets its contract. Assumes nothing.
use Rattle.doors_c.proofs.jigwandor_hold.Goals as goal

pub returns : goal.returns
returns c = c.jigwandor_hold.ensures
