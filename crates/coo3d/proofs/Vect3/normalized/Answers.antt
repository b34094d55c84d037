-- `coo3d::Vect3::normalized` meets its contract. Assumes nothing.
use Rattle.coo3d.specs.Vectors.{normalized_of}
use Rattle.coo3d.proofs.Vect3.normalized.Goals as goal

pub returns : goal.returns
unfolding normalized_of
returns c = simp (c.scaled_by.ensures, c.norm.ensures)
