-- `edits::hold_lent` meets its contract. Assumes nothing.
use Rattle.edits.proofs.hold_lent.Goals as goal

pub returns : goal.returns
returns c = c.hold-answer.ensures
