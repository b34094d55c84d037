-- One stored normal worked out from the corners as they are.
use Rattle.std.specs.Prelude.{ℕ, List, get_or, set}
use Rattle.coo3d.specs.declared.Coo3D.{Coo3D}
use Rattle.coo3d.specs.declared.Vect3.{Vect3}
use Rattle.lists.specs.Cyclic.{prev_of}
use Rattle.region.specs.declared.Region.{Region}
use Rattle.region.specs.Edges.{normal_of}
use Rattle.region.specs.View.{nowhere}

-- of the edge that ends at corner i, of n
abbrev pub normal_at : List Coo3D → ℕ → ℕ → Vect3
normal_at vs n i = normal_of (get_or vs (prev_of n i) nowhere) (get_or vs i nowhere)

abbrev pub with_normal : Region → ℕ → Region
with_normal r i = record r { cross_products = set r.cross_products i (normal_at r.vertices r.count i) }
