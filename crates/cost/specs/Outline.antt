-- The outline that costs most: a saw whose teeth lie between two meridians, and a point on a meridian between these.
use Rattle.std.specs.Prelude.{ℕ, zero, suc, ◌≡◌, Bool, true, not, cond, List, [], ◌∷◌, Float}
use Rattle.std.specs.Float.{binary64}
use Rattle.std.specs.Float.Ieee.{neg, of_bits}
use Rattle.float.specs.Doubles.{◌⊕◌, ◌⊖◌, ◌⊗◌, nought, half, one}
use Rattle.coo3d.specs.declared.Coo3D.{Coo3D}
use Rattle.refusal.specs.Answer.{Answer}
use Rattle.region.specs.declared.ContainsSouthPoleMethod.TheVariants.{DoNotContainsSouthPole}
use Rattle.region.specs.Region.{build_of, Builds}
use Rattle.region.specs.View.{View}
use Rattle.cost.specs.declared.CostliestOutline.{CostliestOutline}

-- ---- a degree, its cosine and its sine

abbrev pub degree : Float
degree = of_bits binary64 0x3F91_DF46_A252_9D39

abbrev pub cos_degree : Float
cos_degree = of_bits binary64 0x3FEF_FEC0_97F5_AF8A

abbrev pub sin_degree : Float
sin_degree = of_bits binary64 0x3F91_DF0B_2B89_DD1E

-- ---- the meridians of 60 and of 120 degrees east: their longitudes, and the sine of both; the cosines are a half and its opposite

abbrev pub west : Float
west = of_bits binary64 0x3FF0_C152_382D_7365

abbrev pub east : Float
east = of_bits binary64 0x4000_C152_382D_7365

abbrev pub sin60 : Float
sin60 = of_bits binary64 0x3FEB_B67A_E858_4CAA

-- ---- the outline

-- the corner on one of the two meridians at this latitude, whose cosine and sine are c and s
unfoldable pub tooth : Bool → Float → Float → Float → Coo3D
tooth isEast lat c s = record { x = c ⊗ cond isEast (neg half) half; y = c ⊗ sin60; z = s; lon = cond isEast east west; lat = lat }

-- so many corners, on the two meridians in turn, each a degree further north than the one before
unfoldable pub teeth : ℕ → Bool → Float → Float → Float → List Coo3D
teeth zero isEast lat c s = []
teeth (suc more) isEast lat c s = tooth isEast lat c s ∷ teeth more (not isEast) (lat ⊕ degree) (c ⊗ cos_degree ⊖ s ⊗ sin_degree) (s ⊗ cos_degree ⊕ c ⊗ sin_degree)

-- corner 0 is where the equator meets the meridian of 0
unfoldable pub saw : List Coo3D
saw = record { x = one; y = nought; z = nought; lon = nought; lat = nought } ∷ teeth 63 true degree cos_degree sin_degree

-- 75 degrees east, 31 degrees north
unfoldable pub abreast : Coo3D
abreast =
    record {
      x = of_bits binary64 0x3FCC_659E_F018_0C47;
      y = of_bits binary64 0x3FEA_7EA6_0A1F_7749;
      z = of_bits binary64 0x3FE0_7B31_20FD_DF13;
      lon = of_bits binary64 0x3FF4_F1A6_C638_D03F;
      lat = of_bits binary64 0x3FE1_504C_6D40_084F;
    }

-- the first n corners of the saw, with a clear flag; 0 corners are refused as 2 and more than 64 as 3, as every build does
unfoldable pub outline_of : ℕ → Answer View
outline_of n = build_of saw n DoNotContainsSouthPole

-- a call's answer, a region and an outcome beside a point, is the outline of n corners; the point is the same for every n
pub record Outlines (o : CostliestOutline) (n : ℕ) : Type 0 where
  pub built : Builds o.built (outline_of n)
  pub point : o.point ≡ abreast
