-- `region::edge_normal` meets its contract. Assumes nothing.
use mathlib.Core.Path.{◌≡◌, sym, ap, ◌∙◌}
use mathlib.Core.Bool.{true, false}
use lib.Ieee.{lt}
use Rattle.coo3d.specs.declared.Coo3D.{Coo3D}
use Rattle.coo3d.specs.declared.Vect3.{Vect3}
use Rattle.coo3d.specs.Vectors.{vect_of_point, cross_of, opposite_of}
use Rattle.float.specs.Doubles.{nought}
use Rattle.region.specs.Edges.{northward, normal_of}
use Rattle.region.proofs.edge_normal.Goals as goal

south : (v : Vect3) → lt v.z nought ≡ true → northward v ≡ opposite_of v
unfolding northward
south v h = simp h

north : (v : Vect3) → lt v.z nought ≡ false → northward v ≡ v
unfolding northward
north v h = simp h

crossed : (from to : Coo3D) (v : Vect3) → v ≡ cross_of (vect_of_point from) (vect_of_point to) → northward v ≡ normal_of from to
unfolding normal_of
crossed from to v e = ap northward e

pub returns-then-v : goal.returns-then-v
returns-then-v c = c.opposite.ensures ∙ sym (south _ c.if-v.true) ∙ crossed _ _ _ c.cross_product-v.ensures

pub returns-else-v : goal.returns-else-v
returns-else-v c = sym (north _ c.if-v.false) ∙ crossed _ _ _ c.cross_product-v.ensures
