-- `region::is_counted` meets its contract. Assumes nothing.
use mathlib.Core.Path.{refl}
use Rattle.region.specs.Edges.{is_counted}
use Rattle.region.proofs.is_counted.Goals as goal

pub returns : goal.returns
unfolding is_counted
returns c = rw (c.is_in_lon_range.ensures, c.dot_product.ensures) refl
