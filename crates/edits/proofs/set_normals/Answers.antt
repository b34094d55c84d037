-- `edits::set_normals` meets its contract. Assumes nothing.
use mathlib.Core.Path.{◌∙◌}
use Rattle.edits.proofs.Moved.{one_normal}
use Rattle.edits.proofs.set_normals.Goals as goal

pub returns-else-i-j : goal.returns-else-i-j
returns-else-i-j c = c.set_normal.ensures ∙ one_normal c.args.region.now c.args.i c.args.j c.if-i-j.false
