-- `cone::center_of` meets its contract. Assumes nothing.
use Rattle.cone.specs.Cone.{center_of}
use Rattle.cone.proofs.center_of.Goals as goal

pub returns : goal.returns
unfolding center_of
returns c = simp (c.new.ensures, c.norm-norm.ensures)
