-- `crossings::first_crossing` meets its contract. Assumes nothing.
use mathlib.Core.Path.{◌≡◌, sym, ap, ◌∙◌}
use mathlib.Core.List.{[], ◌∷◌}
use borrow.Author.Rules.{rules}
use Rattle.std.proofs.Common.{map}
use Rattle.refusal.specs.Answer.{answered, refused_for, and_then}
use Rattle.region.specs.View.{view_of}
use Rattle.crossings.specs.Crossings.{first_of, first_crossing_of, tested_of}
use Rattle.crossings.proofs.Turns.{points_of, by_points}
use Rattle.crossings.proofs.First.{first_by, first_is}
use Rattle.crossings.proofs.first_crossing.Given.{Over}
use Rattle.crossings.proofs.first_crossing.Goals as goal
use Rattle.crossings.proofs.first_crossing.Goals.{At-loop-crossing}

pub loop-crossing-init : goal.loop-crossing-init
loop-crossing-init g c = (tt, tt, first_is c.into_iter-crossing-iterator.result)

-- the answer, by what is left
whole : (g : Over) (c : At-loop-crossing g) → first_crossing_of g.C.Curve.crossing_of (view_of c.args.r.now) c.args.curve ≡ first_by (map tested_of c.loop-crossing.crossing-iterator)
whole g c =
    by_points g.C.Curve.crossing_of (view_of c.args.r.now) c.args.curve first_of
    ∙ sym (rw c.into_iter-crossing-iterator.ensures.into_iter_gives (ap (λ a. and_then a (λ cs. first_of (points_of cs))) c.in_ok-crossing-items.ensures))
    ∙ c.loop-crossing.invariant.2

pub returns-in_err-point : goal.returns-in_err-point
returns-in_err-point g c =
    let e : first_by (map tested_of c.loop-crossing.crossing-iterator) ≡ refused_for c.in_err-point.field-0.0 = rw (c.in-Some.ensures.steps, c.in_err-point.was) in
    rw (whole g (goal.at.returns-in_err-point g c).At-loop-crossing ∙ e) (search rules)

pub returns-in-Some-2 : goal.returns-in-Some-2
returns-in-Some-2 g c =
    let e : first_by (map tested_of c.loop-crossing.crossing-iterator) ≡ answered (c.in-Some-2.point ∷ []) = rw (c.in-Some.ensures.steps, c.in_ok-point.was, c.in-Some-2.is) in
    sym (whole g (goal.at.returns-in-Some-2 g c).At-loop-crossing ∙ e)

pub returns : goal.returns
returns g c = sym (whole g (goal.at.returns g c).At-loop-crossing ∙ rw c.in-None.ensures.steps.0)
