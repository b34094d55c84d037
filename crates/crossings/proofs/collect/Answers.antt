-- `crossings::collect` meets its contract. Assumes nothing.
use mathlib.Core.Path.{◌≡◌, sym, ap, ◌∙◌}
use borrow.Author.Rules.{rules}
use Rattle.std.specs.declared.result.Result.TheVariants.{Ok}
use Rattle.refusal.specs.Answer.{and_then}
use Rattle.region.specs.View.{view_of}
use Rattle.crossings.specs.Crossings.{all_of, all_crossings_of}
use Rattle.crossings.proofs.Turns.{points_of, by_points, few_given}
use Rattle.crossings.proofs.Gather.{gathered_start, gathered_len, gathered_at, gathered_refused, gathered_done}
use Rattle.crossings.proofs.collect.Given.{Over}
use Rattle.crossings.proofs.collect.Goals as goal
use Rattle.crossings.proofs.collect.Goals.{At-loop-crossing}

pub loop-crossing-init : goal.loop-crossing-init
loop-crossing-init g c = (tt, tt, gathered_start (few_given g.C.Curve.crossing_of c.args.r.now c.args.curve _ (rw c.into_iter-crossing-iterator.ensures.into_iter_gives c.in_ok-crossing-items.ensures)) c.requires)

pub push-requires : goal.push-requires
push-requires g c = gathered_len c.loop-crossing.invariant.2 _ _ c.in-Some.ensures.steps

pub loop-crossing-preserved-in-Some-2 : goal.loop-crossing-preserved-in-Some-2
loop-crossing-preserved-in-Some-2 g c = (tt, tt, gathered_at c.loop-crossing.invariant.2 _ _ c.in-Some.ensures.steps _ (c.in_ok-point.was ∙ ap Ok c.in-Some-2.is) c.push.ensures)

-- the answer, by the points
whole : (g : Over) (c : At-loop-crossing g) → all_crossings_of g.C.Curve.crossing_of (view_of c.args.r.now) c.args.curve ≡ all_of (points_of c.into_iter-crossing-iterator.result)
whole g c = by_points g.C.Curve.crossing_of (view_of c.args.r.now) c.args.curve all_of ∙ sym (rw c.into_iter-crossing-iterator.ensures.into_iter_gives (ap (λ a. and_then a (λ cs. all_of (points_of cs))) c.in_ok-crossing-items.ensures))

pub returns-in_err-point : goal.returns-in_err-point
returns-in_err-point g c =
    let e = whole g (goal.at.returns-in_err-point g c).At-loop-crossing ∙ gathered_refused c.loop-crossing.invariant.2 _ _ c.in-Some.ensures.steps _ c.in_err-point.was in
    rw e (search rules)

pub returns : goal.returns
returns g c = sym (rw (whole g (goal.at.returns g c).At-loop-crossing) (gathered_done c.loop-crossing.invariant.2 c.in-None.ensures.steps.0))
