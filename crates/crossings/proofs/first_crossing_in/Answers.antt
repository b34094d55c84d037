-- `crossings::first_crossing_in` meets its contract. Assumes nothing. The check finds it; without it a wrong edit is refused only where its search ends.
use mathlib.Core.Path.{sym, ap, ◌∙◌}
use Rattle.domain.proofs.Counts.{count_passed}
use Rattle.domain.specs.Checks.{with_count}
use Rattle.refusal.specs.Answer.{and_then}
use Rattle.region.specs.View.{view_of, edges_of}
use Rattle.crossings.specs.Crossings.{first_of, crossings_of}
use Rattle.crossings.proofs.first_crossing_in.Goals as goal

pub returns : goal.returns
returns g c =
    let v = view_of c.args.r in
    let e = count_passed v.count _ _ (sym c.in_ok-taken.ensures) in
    c.first_crossing.ensures ∙ sym (ap (λ a. with_count v.count (and_then a (λ t. first_of (crossings_of (g.C.Curve.crossing_of t) (edges_of v))))) e)
