-- `crossings::all_crossings` meets its contract. Assumes nothing. The check finds it; without it a wrong edit is refused only where its search ends.
use Rattle.crossings.proofs.Gather.{lists_done}
use Rattle.crossings.proofs.all_crossings.Goals as goal

pub returns-in-Ok : goal.returns-in-Ok
returns-in-Ok g c = lists_done _ _ c.in-Ok.ensures
