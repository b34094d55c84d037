-- `region::draw_edges` meets its contract. Assumes nothing.
use mathlib.Core.Path.{◌≡◌, refl}
use lib.ListN.{length}
use borrow.Author.Rules.{rules}
use Rattle.std.proofs.lemmas.Result.{err_from_is_err_and}
use Rattle.region.proofs.Building.{working_starts, working_turn, seams_first, seams_next, drawn, drawn_is, undrawn}
use Rattle.region.proofs.draw_edges.Goals as goal

pub returns-in_err-check_count-clause-answer : goal.returns-in_err-check_count-clause-answer
returns-in_err-check_count-clause-answer c = let p = err_from_is_err_and c.from_residual.result c.from_residual.ensures.1 in rw (p.1, p.2) (undrawn c.args.region.now c.in_err-check_count.ensures.answer)

-- The check finds it; without it a wrong edit is refused only where its search ends.
pub returns-in_err-check_count-clause-kept : goal.returns-in_err-check_count-clause-kept
returns-in_err-check_count-clause-kept c = let p = err_from_is_err_and c.from_residual.result c.from_residual.ensures.1 in rw p.1 refl

pub loop-k-init : goal.loop-k-init
loop-k-init c =
    let r = c.args.region.now in
    let few = c.in_ok-check_count.ensures.few in
    (working_starts r few (search rules) (search rules), seams_first r few (search rules))

pub loop-k-preserved : goal.loop-k-preserved
loop-k-preserved c =
    let inv = c.loop-k.invariant in
    let full : length c.args.region.now.vertices ≡ 64 = search rules in
    let few = c.in_ok-check_count.ensures.few.1 in
    let below = c.loop-k-test.true in
    (working_turn inv.0 full few below _ c.edge_normal.ensures, seams_next inv.0 inv.1 full few below _ c.crosses_seam.ensures)

pub returns-clause-answer : goal.returns-clause-answer
returns-clause-answer c =
    let full : length c.args.region.now.vertices ≡ 64 = search rules in
    let few = c.in_ok-check_count.ensures.few in
    drawn_is c.args.region.now few (drawn c.loop-k.invariant.0 c.loop-k.invariant.1 full few.1 (search rules))
