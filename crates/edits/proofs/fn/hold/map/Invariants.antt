-- The flag, turned where the point isn't contained. Assumes nothing.
use mathlib.Core.Path.{◌≡◌}
use mathlib.Core.Bool.{cond, not}
use Rattle.edits.proofs.fn.hold.map.Given as goal

abbrev pub ensures : goal.ensures
ensures l r = r ≡ cond l.is_inside l.flag (not l.flag)
