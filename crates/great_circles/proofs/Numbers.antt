-- The crossing of an edge with an arc, by the numbers that are compared: the ends of the edge count in either order.
use mathlib.Core.Path.{◌≡◌, refl, sym, ◌∙◌}
use mathlib.Core.Bool.{Bool, true, false, cond}
use lib.Ieee.{Float, lt}
use Rattle.std.proofs.Math.Bool.{and_comm}
use Rattle.std.specs.declared.option.Option.{Option}
use Rattle.std.specs.declared.option.Option.TheVariants.{None}
use Rattle.coo3d.specs.declared.Coo3D.{Coo3D}
use Rattle.coo3d.specs.declared.UnitVect3.{UnitVect3}
use Rattle.coo3d.proofs.Products.{dot_comm}
use Rattle.coo3d.specs.Vectors.{vect_of_point, vect_of_unit, dot_of}
use Rattle.float.specs.Doubles.{nought, abs_of}
use Rattle.lists.specs.Counts.{exactly_one}
use Rattle.region.specs.declared.Edge.{Edge}
use Rattle.great_circles.specs.Arcs.{west_of, east_of, overlap_in_lon, intersect_point, in_edge, crossing_of, arc_crossing}

in_edge_either : (i : UnitVect3) (pa pb : Coo3D) → in_edge i pa pb ≡ in_edge i pb pa
unfolding in_edge
in_edge_either i pa pb =
    let va = vect_of_point pa in
    let vb = vect_of_point pb in
    rw (dot_comm va vb, and_comm (lt (dot_of vb va) (abs_of (dot_of va (vect_of_unit i)))) (lt (dot_of vb va) (abs_of (dot_of vb (vect_of_unit i)))))

-- what the calls answered of the edge's longitudes, the lower one first
module _ (a b : Coo3D) (e : Edge) {lons : Float × Float} (lons_are : lons ≡ (cond (lt e.to.lon e.from.lon) e.to.lon e.from.lon, cond (lt e.to.lon e.from.lon) e.from.lon e.to.lon)) where
  by_heights : Float → Float → Option UnitVect3
  by_heights ha hb = cond (exactly_one (lt nought ha) (lt nought hb)) (in_edge (intersect_point a b ha hb) e.from e.to) None

  by_numbers : arc_crossing a b e ≡ cond (overlap_in_lon a.lon b.lon lons.0 lons.1) (by_heights (dot_of (vect_of_point a) e.normal) (dot_of (vect_of_point b) e.normal)) None
  unfolding arc_crossing crossing_of west_of east_of by_heights
  by_numbers = rw lons_are (go (lt e.to.lon e.from.lon))
    where
      ua : Float
      ua = dot_of (vect_of_point a) e.normal

      ub : Float
      ub = dot_of (vect_of_point b) e.normal

      go : (t : Bool) → crossing_of a b (cond t e.to e.from) (cond t e.from e.to) e.normal ≡ cond (overlap_in_lon a.lon b.lon (cond t e.to.lon e.from.lon) (cond t e.from.lon e.to.lon)) (by_heights ua ub) None
      go true = rw (in_edge_either (intersect_point a b ua ub) e.to e.from)
      go false = refl

  pub apart : false ≡ overlap_in_lon a.lon b.lon lons.0 lons.1 → None ≡ arc_crossing a b e
  apart t = sym (by_numbers ∙ rw (sym t))

  module _ (over : true ≡ overlap_in_lon a.lon b.lon lons.0 lons.1) {ha hb : Float} (a_is : ha ≡ dot_of (vect_of_point a) e.normal) (b_is : hb ≡ dot_of (vect_of_point b) e.normal) where
    pub one_side : exactly_one (lt nought ha) (lt nought hb) ≡ false → None ≡ arc_crossing a b e
    unfolding by_heights
    one_side h = sym (by_numbers ∙ rw (sym over, sym a_is, sym b_is, h))

    pub crossed : exactly_one (lt nought ha) (lt nought hb) ≡ true → {i : UnitVect3} {x : Option UnitVect3} → i ≡ intersect_point a b ha hb → x ≡ in_edge i e.from e.to → x ≡ arc_crossing a b e
    unfolding by_heights
    crossed h i_is x_is = x_is ∙ rw i_is (sym (by_numbers ∙ rw (sym over, sym a_is, sym b_is, h)))
