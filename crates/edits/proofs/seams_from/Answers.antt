-- `edits::seams_from` meets its contract. Assumes nothing.
use mathlib.Core.Path.{refl}
use borrow.Author.Rules.{rules}
use Rattle.region.proofs.Seam.{counting_starts, counting_turn, counting_ends}
use Rattle.edits.proofs.seams_from.Goals as goal

pub loop-end-init : goal.loop-end-init
loop-end-init c = counting_starts _ _

pub loop-end-preserved : goal.loop-end-preserved
loop-end-preserved c = counting_turn c.loop-end.invariant _ c.loop-end-test.true refl _ c.crosses_seam-crosses.ensures

pub returns : goal.returns
returns c = counting_ends c.loop-end.invariant (search rules)
