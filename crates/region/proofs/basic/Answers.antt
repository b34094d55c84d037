-- `region::basic` meets its contract. Assumes nothing.
use borrow.Author.Rules.{rules}
use mathlib.Core.Path.{sym, ◌∙◌}
use Rattle.region.proofs.Corners.{basic_start, basic_turn, basic_done}
use Rattle.region.proofs.basic.Goals as goal

pub loop-to-init : goal.loop-to-init
loop-to-init c = basic_start _ _ c.requires

pub loop-to-preserved : goal.loop-to-preserved
loop-to-preserved c =
    let l = c.loop-to in
    rw c.add_step-sum_delta_lon.ensures (sym (basic_turn _ l.sum_delta_lon l.gravity_center_z l.from l.to-index _ c.loop-to-test.true) ∙ l.invariant)

pub returns : goal.returns
returns c =
    let l = c.loop-to in
    rw c.abs.ensures (sym (basic_done _ l.sum_delta_lon l.gravity_center_z l.from l.to-index (search rules)) ∙ l.invariant)
