-- `great_circles::GreatCircle::new` meets its contract. Assumes nothing. The check finds it; without it a wrong edit is refused only where its search ends.
use mathlib.Core.Path.{sym}
use borrow.Author.Rules.{rules}
use Rattle.great_circles.proofs.GreatCircle.new.Goals as goal

pub returns-in_err-m : goal.returns-in_err-m
returns-in_err-m c = rw (sym c.in_err-m.ensures) (search rules)
