-- `crossings::Passing::next` meets its contract. Assumes nothing.
use Prim.Native.Nat.{◌+◌}
use mathlib.Core.Path.{◌≡◌, refl, sym, ap, ◌∙◌}
use mathlib.Core.List.{◌∷◌}
use borrow.Author.Rules.{rules}
use lib.ListN.{length}
use Rattle.std.proofs.Common.{map}
use Rattle.crossings.specs.Crossings.{given_from, tested_of}
use Rattle.crossings.proofs.Turns.{given_turn, given_none, goes}
use Rattle.crossings.proofs.PassingIterator.next.Given.{Over}
use Rattle.crossings.proofs.PassingIterator.next.Goals as goal
use Rattle.crossings.proofs.PassingIterator.next.Goals.{After-test_finite}

here : (g : Over) (c : After-test_finite g) → c.args.self.now ≡ c.crossing-crossing.result ∷ given_from (g.C.Curve.crossing_of c.self.inside.curve) c.self.inside.r.now c.self.inside.i (c.self.inside.i + 1)
here g c =
    let r = c.self.inside.r.now in
    let v : length r.vertices ≡ 64 = search rules in
    let n : length r.cross_products ≡ 64 = search rules in
    sym c.self.view_is ∙ given_turn _ r v n c.self.invariant.1 c.self.inside.before c.self.inside.i c.if-i-r.true c.crossing-crossing.ensures

pub returns-then-i-r-clause-steps : goal.returns-then-i-r-clause-steps
returns-then-i-r-clause-steps g c = rw (here g (goal.at.returns-then-i-r-clause-steps g c).After-test_finite, c.test_finite.ensures) refl

pub returns-then-i-r-clause-goes : goal.returns-then-i-r-clause-goes
returns-then-i-r-clause-goes g c = goes _ (λ l. tt) c.test_finite.result c.crossing-crossing.result (here g (goal.at.returns-then-i-r-clause-goes g c).After-test_finite)

pub returns-else-i-r-clause-steps : goal.returns-else-i-r-clause-steps
returns-else-i-r-clause-steps g c =
    let none = ap (map tested_of) (sym c.self.view_is ∙ given_none _ c.self.inside.r.now _ _ c.if-i-r.false) in
    (none, none)
