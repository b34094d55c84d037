-- `region::EdgeIter::next` meets its contract. Assumes nothing.
use Rattle.std.proofs.Common.{rules}
use Rattle.region.proofs.Edges.{none_ahead, none_there, next_ahead}
use Rattle.region.proofs.EdgeIterIterator.next.Goals as goal

pub returns-in_err-to-clause-steps : goal.returns-in_err-to-clause-steps
returns-in_err-to-clause-steps c =
    let s = c.args.self.now in
    let none = none_ahead s.from s.corners.now s.normals.now c.in_err-to.ensures.cases in
    rw c.from_residual.ensures (none, none)

pub returns-in_err-normal-clause-steps : goal.returns-in_err-normal-clause-steps
returns-in_err-normal-clause-steps c =
    let s = c.args.self.now in
    let none = none_there s.from s.corners.now s.normals.now c.in_err-normal.ensures.cases in
    rw c.from_residual-in_err-normal.ensures (none, none)

pub returns-clause-steps : goal.returns-clause-steps
returns-clause-steps c = next_ahead c.args.self.now.from c.in_ok-to.ensures.cases.0 c.in_ok-normal.ensures.cases.0

pub returns-clause-goes : goal.returns-clause-goes
returns-clause-goes c = search (rules, next_ahead)
