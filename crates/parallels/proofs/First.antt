-- Laws of `first_fit` for the loop that passes a region's edges.
use Prim.Native.Nat.{ℕ, ◌+◌, ◌-◌, ◌≤◌, ◌<◌}
use mathlib.Core.Path.{◌≡◌, sym, ap}
use mathlib.Core.Bool.{true, false}
use mathlib.Core.List.{[]}
use lib.Ieee.{Float}
use lib.ListN.{length, get_or}
use Rattle.std.specs.declared.option.Option.{Option}
use Rattle.coo3d.specs.declared.UnitVect3.{UnitVect3}
use Rattle.coo3d.specs.declared.Coo3D.{Coo3D}
use Rattle.crossings.specs.Crossings.{listed}
use Rattle.region.specs.declared.Region.{Region}
use Rattle.region.specs.View.{view_of, nowhere, edges_of}
use Rattle.region.proofs.Containing.{room}
use Rattle.region.proofs.Edges.{nothing, edges_left, start, turn, done}
use Rattle.parallels.specs.Parallels.{spans_lat, point_of}
use Rattle.parallels.specs.Queries.{first_fit}

module _ (r : Region) (lat sin cos : Float) (all_vertices : length r.vertices ≡ 64) (few : (0 < r.count) × (r.count ≤ 64)) where
  pub fit_start : first_fit lat sin cos (edges_of (view_of r)) ≡ first_fit lat sin cos (edges_left r (get_or r.vertices (r.count - 1) nowhere) 0)
  fit_start = ap (first_fit lat sin cos) (start r few.0 (room _ _ all_vertices few.1))

  module _ (from : Coo3D) (i : ℕ) where
    module _ (all_normals : length r.cross_products ≡ 64) (below : i < r.count) where
      -- an edge that does not fit is passed
      pub fit_not : false ≡ spans_lat from (get_or r.vertices i nowhere) lat → first_fit lat sin cos (edges_left r from i) ≡ first_fit lat sin cos (edges_left r (get_or r.vertices i nowhere) (i + 1))
      unfolding first_fit
      fit_not h = rw (turn r from i (room _ _ all_vertices few.1) (room _ _ all_normals few.1) below, sym h)

      -- the crossing of the first that fits decides
      pub fit_here : (x : Option UnitVect3) → true ≡ spans_lat from (get_or r.vertices i nowhere) lat → x ≡ point_of (record { from = from; to = get_or r.vertices i nowhere; normal = get_or r.cross_products i nothing }) sin cos → first_fit lat sin cos (edges_left r from i) ≡ listed x
      unfolding first_fit
      fit_here x h e = rw (turn r from i (room _ _ all_vertices few.1) (room _ _ all_normals few.1) below, sym h, e)

    pub fit_nowhere : r.count ≤ i → first_fit lat sin cos (edges_left r from i) ≡ []
    unfolding first_fit
    fit_nowhere passed = rw (done r from i (room _ _ all_vertices few.1) passed)
