-- `cone::d2_max` meets its contract: the largest so far, and the points that are left. Assumes nothing.
use mathlib.Core.Path.{◌≡◌}
use lib.ListN.{drop}
use Rattle.float.specs.Doubles.{nought}
use Rattle.cone.specs.Cone.{d2_max_from}
use Rattle.cone.proofs.d2_max.Given as goal

abbrev pub invariant-loop-p : goal.invariant-loop-p
invariant-loop-p l = d2_max_from l.d2 l.c (drop l.p-index l.points) ≡ d2_max_from nought l.c l.points
