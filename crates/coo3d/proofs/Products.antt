-- A product of vectors does not go by their order.
use mathlib.Core.Path.{◌≡◌, refl}
use Rattle.float.proofs.Products.{times_comm}
use Rattle.coo3d.specs.declared.Vect3.{Vect3}
use Rattle.coo3d.specs.Vectors.{dot_of}

pub dot_comm : (v w : Vect3) → dot_of v w ≡ dot_of w v
unfolding dot_of
dot_comm v w = rw (times_comm v.x w.x, times_comm v.y w.y, times_comm v.z w.z) refl
