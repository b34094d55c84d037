-- `crossings::collect` meets its contract. Assumes nothing.
use Rattle.crossings.proofs.Gather.{Gathered}
use Rattle.crossings.proofs.collect.Given as goal

abbrev pub invariant-loop-crossing : goal.invariant-loop-crossing
invariant-loop-crossing g l =
    (goal.iterator-loop-crossing g).can_next l.crossing-iterator
    × (goal.iterator-loop-crossing g).is_finite l.crossing-iterator
    × Gathered l.initial.crossing-iterator l.crossing-iterator l.found
