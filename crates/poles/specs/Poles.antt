-- The poles explained by the seam count: theorems about every made region, of what `contains` and `seam_count` answer.
use Rattle.refusal.specs.declared.Cause.{Cause}
use Rattle.std.specs.Prelude.{ℕ, ◌≡◌, Bool, true, ◌||◌, cond, Float, Result}
use Rattle.std.specs.Float.Ieee.{neg, lt, eq}
use Rattle.float.specs.Doubles.{nought, one}
use Rattle.coo3d.specs.declared.Coo3D.{Coo3D}
use Rattle.coo3d.specs.declared.Vect3.{Vect3}
use Rattle.domain.specs.Checks.{point_at}
use Rattle.domain.specs.Domain.{in_domain}
use Rattle.lists.specs.Counts.{exactly_one, is_odd, every}
use Rattle.refusal.specs.Answer.{answered, answer_of}
use Rattle.region.specs.declared.Region.{Region}
use Rattle.region.specs.declared.Edge.{Edge}
use Rattle.region.specs.Region.{contains_of, seam_count_of}
use Rattle.region.specs.View.{view_of, edges_of, in_range_count}

-- 0, as −0 where its sign is set
abbrev pub zero_of : Bool → Float
zero_of sign = cond sign (neg nought) nought

-- (0, 0, −1) and (0, 0, 1), each 0 with either sign
abbrev pub south_pole_point : Bool → Bool → Float → Float → Coo3D
south_pole_point s t lon lat = record { x = zero_of s; y = zero_of t; z = neg one; lon = lon; lat = lat }

abbrev pub north_pole_point : Bool → Bool → Float → Float → Coo3D
north_pole_point s t lon lat = record { x = zero_of s; y = zero_of t; z = one; lon = lon; lat = lat }

-- the normal has z above 0
abbrev pub is_north : Vect3 → Bool
is_north n = lt nought n.z

-- or the edge runs along a meridian: its corners have equal longitudes
abbrev pub is_north_or_meridian : Edge → Bool
is_north_or_meridian e = is_north e.normal || eq e.from.lon e.to.lon

-- (0, 0, 1), with any legal longitude and latitude, is contained exactly when exactly one of these holds: the flag is set; the seam count is odd
abbrev pub NorthByCount : Region → Type 0
NorthByCount r =
    (s t : Bool) (lon lat : Float) → in_domain (north_pole_point s t lon lat) ≡ true
    → (n : Result ℕ Cause) → answer_of n ≡ seam_count_of (view_of r) → (d : Result Bool Cause) → answer_of d ≡ contains_of (view_of r) (north_pole_point s t lon lat)
    → (k : ℕ) × (answer_of n ≡ answered k) × (answer_of d ≡ answered (exactly_one (view_of r).flag (is_odd k)))

-- whatever answers meet the calls' contracts: `seam_count` answers a number, `contains` yes or no, and they are such
pub record Poles (r : Region) : Type 0 where
  -- at every legal point the number of edges in range is odd exactly when the seam count is; the point is the one that the check hands back
  pub in_range :
      (x q : Coo3D) → point_at 0 x ≡ answered q → (n : Result ℕ Cause) → answer_of n ≡ seam_count_of (view_of r)
      → (k : ℕ) × (answer_of n ≡ answered k) × (is_odd (in_range_count q (view_of r)) ≡ is_odd k)
  -- (0, 0, −1), with any legal longitude and latitude, is contained exactly when the flag is set
  pub south_pole :
      (s t : Bool) (lon lat : Float) → in_domain (south_pole_point s t lon lat) ≡ true → (d : Result Bool Cause) → answer_of d ≡ contains_of (view_of r) (south_pole_point s t lon lat)
      → answer_of d ≡ answered (view_of r).flag
  -- where every stored normal has z above 0, the northern pole goes by flag and seam count
  pub north_pole : every is_north (view_of r).normals ≡ true → NorthByCount r
  -- and so it does where some edges run along a meridian, as two sides of a box do, and the normal of every other has z above 0
  pub north_pole_box : every is_north_or_meridian (edges_of (view_of r)) ≡ true → NorthByCount r
