-- `region::build_flagged` meets its contract. Assumes nothing.
use mathlib.Core.Path.{refl, sym}
use borrow.Author.Rules.{rules}
use Rattle.region.proofs.Building.{checking_starts, checking_good, checking_bad, not_built, uncounted, ends}
use Rattle.region.proofs.build_flagged.Goals as goal

pub returns-in-Err : goal.returns-in-Err
returns-in-Err c = not_built _ _ _ _ _ _ c.refused.ensures (uncounted _ _ c.in-Err.ensures.answer)

pub loop-i-init : goal.loop-i-init
loop-i-init c = checking_starts _ _ _ _ refl (search rules) refl refl

pub returns-in-Err-check_point : goal.returns-in-Err-check_point
returns-in-Err-check_point c = not_built _ _ _ _ _ _ c.refused-in-Err-check_point.ensures (checking_bad c.loop-i.invariant (search rules) c.in_default.ensures.few c.loop-i-test.true _ _ c.in-Err-check_point.ensures)

pub loop-i-preserved : goal.loop-i-preserved
loop-i-preserved c = checking_good c.loop-i.invariant (search rules) c.in_default.ensures.few.1 c.loop-i-test.true _ (sym c.in-Ok.ensures)

pub returns : goal.returns
returns c = ends c.loop-i.invariant (search rules) c.in_default.ensures.few (search rules) c.draw_edges-outcome.ensures.answer
