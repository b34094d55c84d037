-- `crossings::refused` meets its contract. Assumes nothing. The check finds it; without it a wrong edit is refused only where its search ends.
use mathlib.Core.Path.{refl}
use Rattle.crossings.proofs.refused.Goals as goal

pub returns : goal.returns
returns c = record { outcome = refl; list = c.none.ensures }
