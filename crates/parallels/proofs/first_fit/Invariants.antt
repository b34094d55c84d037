-- `parallels::first_fit` meets its contract. Assumes nothing.
use Prim.Native.Nat.{◌<◌}
use mathlib.Core.Path.{◌≡◌}
use lib.Ieee.{le}
use lib.ListN.{get_or}
use Rattle.region.specs.View.{nowhere, view_of, edges_of}
use Rattle.region.proofs.Edges.{edges_left}
use Rattle.parallels.specs.Queries.{first_fit}
use Rattle.parallels.proofs.first_fit.Given as goal

abbrev pub invariant-loop-i : goal.invariant-loop-i
invariant-loop-i l =
    let fit = first_fit l.parallel.lat l.parallel.sin l.parallel.cos in
    (l.before < l.count) × (l.from_below ≡ le (get_or l.r.vertices l.before nowhere).lat l.parallel.lat) × (fit (edges_of (view_of l.r)) ≡ fit (edges_left l.r (get_or l.r.vertices l.before nowhere) l.i))
