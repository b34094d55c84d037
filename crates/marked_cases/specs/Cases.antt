-- Document 01's marked cases, as facts about the definitions. Every region here is what the build answers, so each case goes through it.
use Rattle.std.specs.Prelude.{◌≡◌, Bool, true, false, List, [], ◌∷◌, map, Float, drop}
use Rattle.std.specs.Float.{binary64}
use Rattle.std.specs.Float.Ieee.{of_bits}
use Rattle.coo3d.specs.declared.Coo3D.{Coo3D}
use Rattle.coo3d.specs.declared.UnitVect3.{UnitVect3}
use Rattle.coo3d.specs.Vectors.{vect_of_point, dot_of}
use Rattle.domain.specs.Domain.{in_domain}
use Rattle.edits.specs.Edits.{put, edit_of}
use Rattle.float.specs.Doubles.{nought, half, one, pi}
use Rattle.parallels.specs.Queries.{parallel_first_of, parallel_all_of}
use Rattle.refusal.specs.Answer.{Answer, answered, and_then}
use Rattle.region.specs.declared.ContainsSouthPoleMethod.TheVariants.{Default, ContainsSouthPole}
use Rattle.region.specs.declared.Edge.{Edge}
use Rattle.region.specs.Edges.{in_lon_range, is_in_range, is_counted}
use Rattle.region.specs.View.{View, edges_of, made}
use Rattle.region.specs.Region.{build_of, contains_of}
use Rattle.region_file.specs.File.{file_of}
use Rattle.root.specs.Root.{sqrt_of}

-- ---- doubles, by their bits

abbrev pub quarter : Float
quarter = of_bits binary64 0x3FD0_0000_0000_0000

-- the double nearest to 0.3; the others are exact
abbrev pub three_tenths : Float
three_tenths = of_bits binary64 0x3FD3_3333_3333_3333

abbrev pub three_quarters : Float
three_quarters = of_bits binary64 0x3FE8_0000_0000_0000

abbrev pub one_and_half : Float
one_and_half = of_bits binary64 0x3FF8_0000_0000_0000

abbrev pub three : Float
three = of_bits binary64 0x4008_0000_0000_0000

abbrev pub four : Float
four = of_bits binary64 0x4010_0000_0000_0000

abbrev pub four_and_half : Float
four_and_half = of_bits binary64 0x4012_0000_0000_0000

abbrev pub minus_nought : Float
minus_nought = of_bits binary64 0x8000_0000_0000_0000

abbrev pub minus_one : Float
minus_one = of_bits binary64 0xBFF0_0000_0000_0000

abbrev pub minus_one_and_half : Float
minus_one_and_half = of_bits binary64 0xBFF8_0000_0000_0000

-- ---- points, regions and what is asked of them

-- (x, y, z; lon, lat)
abbrev pub point : Float → Float → Float → Float → Float → Coo3D
point x y z lon lat = record { x = x; y = y; z = z; lon = lon; lat = lat }

-- S has corners (1,0,0;0,0), (0,1,0;1.5,0), (−1,0,0;3,0), (0,−1,0;4.5,0), rule Default: build_of corners 4 Default
abbrev pub corners : List Coo3D
corners =
    point one nought nought nought nought
    ∷ point nought one nought one_and_half nought
    ∷ point minus_one nought nought three nought
    ∷ point nought minus_one nought four_and_half nought
    ∷ []

-- case 7's: one corner, flag set
abbrev pub one_corner : Coo3D → Answer View
one_corner c = build_of (c ∷ []) 1 ContainsSouthPole

-- case 11's
abbrev pub quarter_arc : Answer View
quarter_arc = build_of (point one nought nought nought nought ∷ point nought nought one nought one_and_half ∷ []) 2 Default

abbrev pub contains : Answer View → Coo3D → Answer Bool
contains region p = and_then region (λ v. contains_of v p)

-- what is said of each edge, in order
abbrev pub at_edges : {A : Type 0} → Answer View → (Edge → A) → Answer (List A)
at_edges region f = and_then region (λ v. answered (map f (edges_of v)))

-- whether each edge is in range, whether it is counted, and the dot product with its normal
abbrev pub ranges_at : Answer View → Coo3D → Answer (List Bool)
ranges_at region p = at_edges region (is_in_range p)

abbrev pub counts_at : Answer View → Coo3D → Answer (List Bool)
counts_at region p = at_edges region (is_counted p)

abbrev pub dots_at : Answer View → Coo3D → Answer (List Float)
dots_at region p = at_edges region (λ e. dot_of (vect_of_point p) e.normal)

abbrev pub first_at : Answer View → Float → Float → Float → Answer (List UnitVect3)
first_at region lat sin cos = and_then region (λ v. parallel_first_of v lat sin cos)

abbrev pub all_at : Answer View → Float → Float → Float → Answer (List UnitVect3)
all_at region lat sin cos = and_then region (λ v. parallel_all_of v lat sin cos)

-- ---- the cases

-- of S, which is what the build answers
pub record MarkedCases (s : Answer View) : Type 0 where
  -- 1. S: flag clear.
  pub flag_clear : s ≡ answered (made corners false)
  -- 2. (0,0,1;0,1.5): contained.
  pub north_in : contains s (point nought nought one nought one_and_half) ≡ answered true
  -- 3. (0,0,−1;0,−1.5): not.
  pub south_out : contains s (point nought nought minus_one nought minus_one_and_half) ≡ answered false
  -- 4. (1,0,0;0,0): not; dot product 0. Edge 1 is in range, so it is the 0 that leaves it out.
  pub corner_out :
      (contains s (point one nought nought nought nought) ≡ answered false)
      × (ranges_at s (point one nought nought nought nought) ≡ answered (false ∷ true ∷ false ∷ false ∷ []))
      × (dots_at s (point one nought nought nought nought) ≡ answered (nought ∷ nought ∷ nought ∷ nought ∷ []))
  -- 5. (0,0.5,0.5;1.5,0.5): contained; edge 2 alone counts.
  pub edge_2_alone :
      (contains s (point nought half half one_and_half half) ≡ answered true)
      × (counts_at s (point nought half half one_and_half half) ≡ answered (false ∷ false ∷ true ∷ false ∷ []))
  -- 6. Put (0,1,1;1.5,0.5) at 1: (0.5,0.5,0.25;0.75,0.3) goes from contained to not.
  pub put_takes_out :
      (contains s (point half half quarter three_quarters three_tenths) ≡ answered true)
      × (contains (and_then s (edit_of (put 1 (point nought one one one_and_half half)))) (point half half quarter three_quarters three_tenths) ≡ answered false)
  -- 7. One corner, flag set: all contained. Any corner and any point of the domain.
  pub one_corner_lem : (c p : Coo3D) → in_domain c ≡ true → in_domain p ≡ true → contains (one_corner c) p ≡ answered true
  -- 8. Longitudes 0 to PI: in range at 1, not at 4.
  pub up_to_pi : (in_lon_range one nought pi ≡ true) × (in_lon_range four nought pi ≡ false)
  -- 9. Longitudes 0 to 4: in range at 4, not at 3.
  pub over_the_seam : (in_lon_range four nought four ≡ true) × (in_lon_range three nought four ≡ false)
  -- 10. S at latitude 0, sine 0, cosine 1: no crossing (half-open).
  pub equator_none : (first_at s nought nought one ≡ answered []) × (all_at s nought nought one ≡ answered [])
  -- 11. Corners (1,0,0;0,0), (0,0,1;0,1.5); latitude 0.5, sine 0.5, cosine 0.75: first crossing (0.75, −0, 0.5).
  pub first_crossing : first_at quarter_arc half half three_quarters ≡ answered (record { x = three_quarters; y = minus_nought; z = half } ∷ [])
  -- 12. Root of 2^−1074 is 2^−537; of −0, −0.
  pub roots : (sqrt_of (of_bits binary64 1) ≡ of_bits binary64 0x1E60_0000_0000_0000) × (sqrt_of minus_nought ≡ minus_nought)
  -- 13. S's trailer: 01 00 00 00 00 00 00 00 04 00 00 00 B0 00 00 00. It follows the four corners' 160 bytes.
  pub trailer : and_then s (λ v. answered (drop 160 (file_of v))) ≡ answered (1 ∷ 0 ∷ 0 ∷ 0 ∷ 0 ∷ 0 ∷ 0 ∷ 0 ∷ 4 ∷ 0 ∷ 0 ∷ 0 ∷ 0xB0 ∷ 0 ∷ 0 ∷ 0 ∷ [])
