-- `region::add_step` meets its contract. Assumes nothing.
use mathlib.Core.Path.{sym}
use Rattle.region.specs.Poles.{step_of}
use Rattle.region.proofs.add_step.Goals as goal

pub returns-then-size : goal.returns-then-size
unfolding step_of
returns-then-size c = simp (sym c.abs-size.ensures, c.if-size.true)

pub returns-then-step : goal.returns-then-step
unfolding step_of
returns-then-step c = simp (sym c.abs-size.ensures, c.if-size.false, c.if-step.true)

pub returns-else-step : goal.returns-else-step
unfolding step_of
returns-else-step c = simp (sym c.abs-size.ensures, c.if-size.false, c.if-step.false)
