-- `crossings::all_crossings_in` meets its contract. Assumes nothing. The check finds it; without it a wrong edit is refused only where its search ends.
use mathlib.Core.Path.{sym, ap, subst}
use Rattle.domain.proofs.Counts.{count_passed}
use Rattle.domain.specs.Checks.{with_count}
use Rattle.refusal.specs.Answer.{and_then}
use Rattle.region.specs.View.{view_of, edges_of}
use Rattle.crossings.specs.Crossings.{all_of, crossings_of, Lists}
use Rattle.crossings.proofs.all_crossings_in.Goals as goal

pub returns-in-Ok : goal.returns-in-Ok
returns-in-Ok g c =
    let v = view_of c.args.r in
    let e = count_passed v.count _ _ (sym c.in-Ok.ensures) in
    subst (Lists _) (sym (ap (λ a. with_count v.count (and_then a (λ t. all_of (crossings_of (g.C.Curve.crossing_of t) (edges_of v))))) e)) c.all_crossings.ensures
