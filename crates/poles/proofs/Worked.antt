-- Document 01's S is made, its seam count is odd and its normals all have z above 0: the theorems speak of something.
use mathlib.Core.Path.{◌≡◌, refl, sym, subst}
use mathlib.Core.Bool.{true, false}
use lib.Ieee.{sub, mul, neg, lt, le, fits, of_bits}
use Rattle.std.specs.declared.result.Result.TheVariants.{Ok}
use Rattle.coo3d.specs.Points.{are_doubles}
use Rattle.coo3d.specs.Vectors.{cross_of, opposite_of}
use Rattle.domain.specs.Domain.{in_domain}
use Rattle.float.specs.Doubles.{nought, abs_of}
use Rattle.lists.specs.Counts.{how_many, every}
use Rattle.lists.specs.Cyclic.{last_of, along}
use Rattle.making.specs.Made.{Made, built}
use Rattle.marked_cases.specs.Cases.{corners, one_and_half}
use Rattle.marked_cases.proofs.Cases.{marked_cases}
use Rattle.region.specs.declared.Built.{Built}
use Rattle.region.specs.declared.ContainsSouthPoleMethod.TheVariants.{Default}
use Rattle.region.specs.declared.Region.{Region}
use Rattle.region.specs.Edges.{northward, normal_of, crosses_seam, in_lon_range}
use Rattle.region.specs.Region.{Builds}
use Rattle.region.specs.View.{view_of, seams_from, seams_of, edges_from, edges_of, normals_of, made, in_range_count}
use Rattle.poles.specs.Poles.{is_north, north_pole_point}

abbrev s : Region
s = record { vertices = corners; cross_products = normals_of corners; count = 4; contains_south_pole = false; seam_count = seams_of corners }

abbrev by_build : Built
by_build = record { region = s; outcome = (Ok tt) }

doubles : are_doubles corners ≡ true
unfolding are_doubles fits of_bits
doubles = refl

s_is : view_of s ≡ made corners false
unfolding normals_of along
s_is = refl

s_made : Made s
s_made = built corners 4 Default by_build doubles (subst (Builds by_build) (sym marked_cases.flag_clear) (record { outcome = refl; view = s_is })) refl

one_crosses : (view_of s).seam_count ≡ 1
unfolding seams_of seams_from crosses_seam last_of abs_of sub lt of_bits
one_crosses = refl

all_north : every is_north (view_of s).normals ≡ true
unfolding every normals_of along last_of normal_of northward cross_of opposite_of sub mul lt of_bits
all_north = refl

legal : in_domain (north_pole_point true false nought one_and_half) ≡ true
unfolding in_domain neg le lt of_bits
legal = refl

one_in_range : in_range_count (north_pole_point true false nought one_and_half) (view_of s) ≡ 1
unfolding in_range_count how_many edges_of edges_from normals_of along last_of normal_of northward cross_of opposite_of in_lon_range sub mul neg lt le of_bits
one_in_range = refl
