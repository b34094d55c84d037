-- `region::odd_at` meets its contract. Assumes nothing.
use Rattle.region.proofs.Rules.{odd_told, never_told}
use Rattle.region.proofs.odd_at.Goals as goal

pub returns-in-Ok : goal.returns-in-Ok
returns-in-Ok c = odd_told _ _ _ c.requires c.in-Ok.ensures

pub returns-in-Err : goal.returns-in-Err
returns-in-Err c = never_told _ _ _ _ c.requires c.in-Err.ensures
