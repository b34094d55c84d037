-- `coo3d::Vect3::squared_euclidean_dist` meets its contract. Assumes nothing.
use Rattle.coo3d.specs.Vectors.{squared_norm, squared_dist_of}
use Rattle.coo3d.proofs.Vect3.squared_euclidean_dist.Goals as goal

pub returns : goal.returns
unfolding squared_norm squared_dist_of
returns g c = simp (c.squared_norm_of.ensures, c.x.ensures, c.y.ensures, c.z.ensures)
