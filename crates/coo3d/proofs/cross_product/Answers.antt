-- `coo3d::cross_product` meets its contract. Assumes nothing.
use Rattle.coo3d.specs.Vectors.{cross_of}
use Rattle.coo3d.proofs.cross_product.Goals as goal

pub returns : goal.returns
unfolding cross_of
returns g c =
    simp (
      c.x.ensures,
      c.x-2.ensures,
      c.x-3.ensures,
      c.x-4.ensures,
      c.y.ensures,
      c.y-2.ensures,
      c.y-3.ensures,
      c.y-4.ensures,
      c.z.ensures,
      c.z-2.ensures,
      c.z-3.ensures,
      c.z-4.ensures,
    )
