-- `lending::hold_on_lent` meets its contract. Assumes nothing.
use Rattle.lending.proofs.hold_on_lent.Goals as goal

pub returns : goal.returns
returns c = c.hold_lent-outcome.ensures
