-- The outline's corners: doubles of the domain, on three meridians of which no two are more than half a turn apart, east and west of the point in turn.
use Prim.Native.Nat.{ℕ, zero, suc}
use mathlib.Core.Path.{◌≡◌, refl}
use mathlib.Core.Bool.{Bool, true, false, not}
use lib.Ieee.{Float, add, sub, mul, neg, le, lt, fits, of_bits}
use lib.ListN.{length}
use Rattle.coo3d.specs.declared.Coo3D.{Coo3D}
use Rattle.coo3d.specs.Points.{are_doubles}
use Rattle.domain.specs.Domain.{in_domain}
use Rattle.float.specs.Doubles.{◌⊕◌, ◌⊖◌, ◌⊗◌, nought, abs_of}
use Rattle.lists.specs.Counts.{every}
use Rattle.lists.proofs.All.{All, none, more}
use Rattle.lists.proofs.Alternating.{Alternates, ends, next}
use Rattle.region.specs.Edges.{crosses_seam}
use Rattle.cost.specs.Outline.{degree, cos_degree, sin_degree, west, east, tooth, teeth, saw, abreast}

-- ---- all 64: doubles of the domain

pub saw_in : every in_domain saw ≡ true
unfolding every in_domain saw teeth tooth add sub mul neg le lt of_bits
saw_in = refl

pub saw_doubles : are_doubles saw ≡ true
unfolding are_doubles saw teeth tooth add sub mul neg fits of_bits
saw_doubles = refl

pub saw_length : length saw ≡ 64
unfolding saw teeth
saw_length = refl

pub abreast_in : in_domain abreast ≡ true
unfolding in_domain abreast neg le lt of_bits
abreast_in = refl

-- ---- where they lie: on three meridians, east of the point's and west of it in turn

pub data Meridian : Type 0 where
  primary : Meridian
  western : Meridian
  eastern : Meridian

abbrev pub lon_of : Meridian → Float
lon_of primary = nought
lon_of western = west
lon_of eastern = east

abbrev pub Lies : Coo3D → Type 0
Lies c = (m : Meridian) × (c.lon ≡ lon_of m)

abbrev pub is_eastward : Coo3D → Bool
is_eastward c = lt abreast.lon c.lon

tooth_lies : (isEast : Bool) (lat c s : Float) → Lies (tooth isEast lat c s)
unfolding tooth
tooth_lies true lat c s = (eastern, refl)
tooth_lies false lat c s = (western, refl)

tooth_side : (isEast : Bool) (lat c s : Float) → is_eastward (tooth isEast lat c s) ≡ isEast
unfolding tooth abreast lt of_bits
tooth_side true lat c s = refl
tooth_side false lat c s = refl

teeth_lie : (k : ℕ) (isEast : Bool) (lat c s : Float) → All Lies (teeth k isEast lat c s)
unfolding teeth
teeth_lie zero isEast lat c s = none
teeth_lie (suc k) isEast lat c s = more (tooth_lies isEast lat c s) (teeth_lie k (not isEast) (lat ⊕ degree) (c ⊗ cos_degree ⊖ s ⊗ sin_degree) (s ⊗ cos_degree ⊕ c ⊗ sin_degree))

teeth_alternate : (k : ℕ) (isEast : Bool) (lat c s : Float) → Alternates is_eastward isEast (teeth k isEast lat c s)
unfolding teeth
teeth_alternate zero isEast lat c s = ends
teeth_alternate (suc k) isEast lat c s = next (tooth_side isEast lat c s) (teeth_alternate k (not isEast) (lat ⊕ degree) (c ⊗ cos_degree ⊖ s ⊗ sin_degree) (s ⊗ cos_degree ⊕ c ⊗ sin_degree))

in_front : lt abreast.lon nought ≡ false
unfolding abreast lt of_bits
in_front = refl

pub saw_lies : All Lies saw
unfolding saw
saw_lies = more (primary, refl) (teeth_lie 63 true degree cos_degree sin_degree)

pub saw_alternates : Alternates is_eastward false saw
unfolding saw
saw_alternates = next in_front (teeth_alternate 63 true degree cos_degree sin_degree)

-- no step from one of the meridians to another crosses the seam
no_step : (m n : Meridian) → crosses_seam (lon_of m) (lon_of n) ≡ false
unfolding crosses_seam abs_of sub lt of_bits
no_step primary primary = refl
no_step primary western = refl
no_step primary eastern = refl
no_step western primary = refl
no_step western western = refl
no_step western eastern = refl
no_step eastern primary = refl
no_step eastern western = refl
no_step eastern eastern = refl

pub never_crosses : (a b : Coo3D) → Lies a → Lies b → crosses_seam a.lon b.lon ≡ false
never_crosses a b (m, p) (n, q) = rw (p, q) (no_step m n)
