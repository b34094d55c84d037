-- `cost::contains_with_range_count` meets its contract. Assumes nothing.
use native.Mathlib.Omega.{arith}
use mathlib.Core.Path.{refl, sym, ap, ◌∙◌}
use Rattle.region.specs.View.{view_of, edges_ahead}
use Rattle.cost.proofs.Ranging.{not_ranged, ranged, passing_starts, passing_in_range, passing_out_of_range, passing_few, all_ranged}
use Rattle.cost.proofs.contains_with_range_count.Goals as goal

pub returns-in-Err : goal.returns-in-Err
returns-in-Err c = not_ranged _ _ _ c.in-Err.ensures.answer c.refused.ensures

pub loop-edge-init : goal.loop-edge-init
loop-edge-init c = passing_starts (ap edges_ahead c.into_iter-edge-iterator.ensures.into_iter_gives ∙ c.edges-edge-items.ensures)

pub overflow_add-in_range : goal.overflow_add-in_range
overflow_add-in_range c =
    let few = passing_few c.loop-edge.invariant c.in-Some.ensures.steps c.in-Ok.ensures.few.1 (sym c.is_in_range.ensures ∙ c.if-is_in_range.true) in
    record { fits = omega (arith, few) }

pub loop-edge-preserved-then-is_in_range : goal.loop-edge-preserved-then-is_in_range
loop-edge-preserved-then-is_in_range c = passing_in_range c.loop-edge.invariant c.in-Some.ensures.steps _ (sym c.is_in_range.ensures ∙ c.if-is_in_range.true) c.dot_product.ensures

pub loop-edge-preserved : goal.loop-edge-preserved
loop-edge-preserved c = passing_out_of_range c.loop-edge.invariant c.in-Some.ensures.steps (sym c.is_in_range.ensures ∙ c.if-is_in_range.false)

pub returns : goal.returns
returns c = ranged _ (view_of c.args.r) _ c.in-Ok.ensures.answer refl (all_ranged c.loop-edge.invariant c.in-None.ensures.steps.0)
