-- Zones, as upstream's src/sph_geom/zone.rs has them, for every double.
use Rattle.std.specs.Prelude.{Bool, false, not, ◌&&◌, ◌||◌, cond, List, [], ◌∷◌, Float}
use Rattle.std.specs.Bool.{beq}
use Rattle.std.specs.Float.{binary64}
use Rattle.std.specs.Float.Ieee.{neg, lt, le, eq, of_bits}
use Rattle.coo3d.specs.declared.LonLat.{LonLat}
use Rattle.float.specs.Doubles.{◌⊕◌, ◌⊖◌, nought, half_pi, two_pi, half_open}
use Rattle.refusal.specs.Answer.{Answer, answered, refuse_if}
use Rattle.zone.specs.declared.Zone.{Zone}

-- ---- new

-- the three assertions; a NaN fails each that names it
unfoldable pub bounds_hold : Float → Float → Float → Float → Bool
bounds_hold lonMin latMin lonMax latMax =
    (half_open nought lonMin two_pi && lt nought lonMax && le lonMax two_pi)
    && (half_open (neg half_pi) latMin half_pi && lt (neg half_pi) latMax && le latMax half_pi)
    && lt latMin latMax

-- a north edge at the pole is raised by 1e-15
unfoldable pub raised : Float → Float
raised lat = cond (eq lat half_pi) (half_pi ⊕ of_bits binary64 0x3CD2_03AF_9EE7_5616) lat

unfoldable pub zone_of : Float → Float → Float → Float → Answer Zone
zone_of lonMin latMin lonMax latMax =
    refuse_if (not (bounds_hold lonMin latMin lonMax latMax)) 9 []
    (answered
    (record {
      lon_min = lonMin;
      lat_min = latMin;
      lon_max = lonMax;
      lat_max = raised latMax;
      cross_primary_meridian = lt lonMax lonMin;
    }))

-- ---- the rest, of a zone's fields as they are

unfoldable pub dlon_of : Zone → Float
dlon_of z = cond z.cross_primary_meridian (two_pi ⊖ z.lon_min ⊕ z.lon_max) (z.lon_max ⊖ z.lon_min)

unfoldable pub crossed_vertically : Zone → Float → Float → Float → Bool
crossed_vertically z lon latDown latUp =
    (lt latDown z.lat_min && le z.lat_max latUp)
    && cond z.cross_primary_meridian (le z.lon_min lon || lt lon z.lon_max) (le z.lon_min lon && lt lon z.lon_max)

unfoldable pub crossed_horizontally : Zone → Float → Float → Float → Bool
crossed_horizontally z lonLeft lonRight lat =
    half_open z.lat_min lat z.lat_max
    && cond z.cross_primary_meridian
    (cond (lt lonRight lonLeft) (lt lonLeft z.lon_min && le z.lon_max lonRight) false)
    (cond (lt lonRight lonLeft) (lt lonLeft z.lon_min || le z.lon_max lonRight) (lt lonLeft z.lon_min && le z.lon_max lonRight))

unfoldable pub lon_range_compatible : Zone → Float → Float → Bool
lon_range_compatible z lonW lonE = beq z.cross_primary_meridian (lt lonE lonW) && le z.lon_min lonW && lt lonE z.lon_max

unfoldable pub zone_contains : Zone → Float → Float → Bool
zone_contains z lon lat =
    half_open z.lat_min lat z.lat_max
    && cond z.cross_primary_meridian (lt lon z.lon_max || le z.lon_min lon) (half_open z.lon_min lon z.lon_max)

unfoldable pub zone_contains_exclusive : Zone → Float → Float → Bool
zone_contains_exclusive z lon lat =
    (lt z.lat_min lat && lt lat z.lat_max)
    && cond z.cross_primary_meridian (lt lon z.lon_max || lt z.lon_min lon) (lt z.lon_min lon && lt lon z.lon_max)

-- SW, NW, NE, SE
unfoldable pub vertices_of : Zone → List LonLat
vertices_of z =
    record { lon = z.lon_min; lat = z.lat_min }
    ∷ record { lon = z.lon_min; lat = z.lat_max }
    ∷ record { lon = z.lon_max; lat = z.lat_max }
    ∷ record { lon = z.lon_max; lat = z.lat_min }
    ∷ []
