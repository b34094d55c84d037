-- What a region is to every call: its count, the corners and normals below it, the flag, and how many of its edges cross the seam.
use Rattle.std.specs.Prelude.{ℕ, ◌+◌, Bool, cond, List, [], ◌∷◌, length, take}
use Rattle.std.specs.Float.{nan}
use Rattle.coo3d.specs.declared.Coo3D.{Coo3D}
use Rattle.coo3d.specs.declared.Vect3.{Vect3}
use Rattle.lists.specs.Counts.{exactly_one, odd_many, how_many}
use Rattle.lists.specs.Cyclic.{last_of, along}
use Rattle.region.specs.declared.EdgeIter.{EdgeIter}
use Rattle.region.specs.declared.Region.{Region}
use Rattle.region.specs.Edges.{Edge, normal_of, crosses_seam, is_in_range, is_counted}

-- the last corner; `nowhere` is read only where there is none
abbrev pub nowhere : Coo3D
nowhere = record { x = nan; y = nan; z = nan; lon = nan; lat = nan }

-- ---- the seam

-- how many of the edges cross the seam, each from the corner before to the next, the first from `from`
unfoldable pub seams_from : Coo3D → List Coo3D → ℕ
seams_from from [] = 0
seams_from from (c ∷ cs) = cond (crosses_seam from.lon c.lon) 1 0 + seams_from c cs

-- edge 0 starts at the last corner
unfoldable pub seams_of : List Coo3D → ℕ
seams_of cs = seams_from (last_of nowhere cs) cs

-- ---- the view

pub record View : Type 0 where
  pub count : ℕ
  pub corners : List Coo3D
  pub normals : List Vect3
  pub flag : Bool
  pub seam_count : ℕ

abbrev pub view_of : Region → View
view_of r =
    record {
      count = r.count;
      corners = take r.count r.vertices;
      normals = take r.count r.cross_products;
      flag = r.contains_south_pole;
      seam_count = r.seam_count;
    }

abbrev pub with_flag : View → Bool → View
with_flag v flag = record { count = v.count; corners = v.corners; normals = v.normals; flag = flag; seam_count = v.seam_count }

-- a view once its corners and normals are these: what else a region keeps of its corners is worked out of all of them, whatever it was before
abbrev pub with_corners : View → List Coo3D → List Vect3 → View
with_corners v cs ns = record { count = length cs; corners = cs; normals = ns; flag = v.flag; seam_count = seams_of cs }

-- no corners, and a flag
abbrev pub empty : Bool → View
empty flag = record { count = 0; corners = []; normals = []; flag = flag; seam_count = 0 }

-- ---- edges

-- each edge runs from the corner before to the next, the first from `from`
unfoldable pub edges_from : Coo3D → List Coo3D → List Vect3 → List Edge
edges_from from [] normals = []
edges_from from (c ∷ cs) [] = []
edges_from from (c ∷ cs) (n ∷ ns) = record { from = from; to = c; normal = n } ∷ edges_from c cs ns

-- edge 0 starts at the last corner
unfoldable pub edges_of : View → List Edge
edges_of v = edges_from (last_of nowhere v.corners) v.corners v.normals

-- what is left of the edges that a loop passes
abbrev pub edges_ahead : EdgeIter → List Edge
edges_ahead s = edges_from s.from s.corners.now s.normals.now

-- how many edges are in range at the point
unfoldable pub in_range_count : Coo3D → View → ℕ
in_range_count p v = how_many (is_in_range p) (edges_of v)

-- an odd number of edges is counted at the point
unfoldable pub odd_at : Coo3D → View → Bool
odd_at p v = odd_many (is_counted p) (edges_of v)

-- exactly one of these holds: the flag is set; an odd number of edges is counted
unfoldable pub contained : Coo3D → View → Bool
contained p v = exactly_one v.flag (odd_at p v)

-- ---- a region made of a list of corners

-- each edge's normal, by its start and end
unfoldable pub normals_of : List Coo3D → List Vect3
normals_of cs = along normal_of (last_of nowhere cs) cs

-- the corners with their edges' normals and seam count, and a flag
abbrev pub made : List Coo3D → Bool → View
made cs flag = with_corners (empty flag) cs (normals_of cs)
