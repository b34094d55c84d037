-- `coo3d::dot_product` meets its contract. Assumes nothing.
use Rattle.coo3d.specs.Vectors.{dot_of}
use Rattle.coo3d.proofs.dot_product.Goals as goal

pub returns : goal.returns
unfolding dot_of
returns g c = simp (c.x.ensures, c.x-2.ensures, c.y.ensures, c.y-2.ensures, c.z.ensures, c.z-2.ensures)
