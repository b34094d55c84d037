-- `crossings::first_crossing` meets its contract. Assumes nothing.
use mathlib.Core.Path.{◌≡◌}
use Rattle.std.proofs.Common.{map}
use Rattle.crossings.specs.Crossings.{first_of, tested_of}
use Rattle.crossings.proofs.Turns.{points_of}
use Rattle.crossings.proofs.First.{first_by}
use Rattle.crossings.proofs.first_crossing.Given as goal

abbrev pub invariant-loop-crossing : goal.invariant-loop-crossing
invariant-loop-crossing g l =
    (goal.iterator-loop-crossing g).can_next l.crossing-iterator
    × (goal.iterator-loop-crossing g).is_finite l.crossing-iterator
    × first_of (points_of l.initial.crossing-iterator) ≡ first_by (map tested_of l.crossing-iterator)
