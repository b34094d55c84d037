-- `crossings::Passing::new` meets its contract. Assumes nothing.
use mathlib.Core.Path.{◌≡◌, sym, ap, ◌∙◌}
use borrow.Author.Rules.{rules}
use lib.ListN.{length}
use Rattle.domain.proofs.Counts.{count_in}
use Rattle.refusal.specs.Answer.{answered}
use Rattle.crossings.proofs.Turns.{given_start}
use Rattle.crossings.proofs.Passing.new.Goals as goal

pub returns : goal.returns
returns g c =
    let r = c.args.r.now in
    let few = c.in_ok-check_count.ensures.few in
    let v : length r.vertices ≡ 64 = search rules in
    let n : length r.cross_products ≡ 64 = search rules in
    ap answered (sym (given_start (g.C.Curve.crossing_of c.in_ok-curve.curve) r v n few.1 few.0)) ∙ sym (count_in _ _ few ∙ rw c.in_ok-curve.was)
