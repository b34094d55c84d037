-- `doors_c::jigwandor_contains` meets its contract. Assumes nothing.
use Rattle.doors_c.proofs.jigwandor_contains.Goals as goal

pub returns : goal.returns
returns c = c.jigwandor_contains.ensures
