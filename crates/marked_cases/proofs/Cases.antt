-- The marked cases, by working them out; case 7, which is about every point, by its own law.
use mathlib.Core.Path.{refl}
use lib.Ieee.{sub, mul, div, le, of_bits}
use Rattle.coo3d.specs.Vectors.{dot_of, cross_of}
use Rattle.crossings.specs.Crossings.{crossings_of, all_finite, all_of, first_of}
use Rattle.domain.specs.Domain.{in_domain}
use Rattle.domain.specs.Checks.{point_at, points_from, points_of}
use Rattle.edits.specs.Edits.{checked, changed, edit_of}
use Rattle.float.specs.Doubles.{abs_of}
use Rattle.lists.specs.Counts.{odd_many}
use Rattle.lists.specs.Cyclic.{last_of, along, next_of, put_along}
use Rattle.parallels.specs.Parallels.{is_parallel, south_of, north_of, spans_lat, straddles, either_of, case_b, point_of, parallel_crossing}
use Rattle.parallels.specs.Queries.{first_fit, parallel_first_of, parallel_all_of}
use Rattle.region.specs.declared.ContainsSouthPoleMethod.TheVariants.{Default}
use Rattle.region.specs.Edges.{northward, normal_of, in_lon_range, is_counted}
use Rattle.region.specs.View.{edges_from, edges_of, odd_at, contained, normals_of}
use Rattle.region.specs.Poles.{step_of, basic_from, basic_of, rule_flag}
use Rattle.region.specs.Region.{contains_of, rule_at, flag_of, build_of}
use Rattle.region_file.specs.Bytes.{bytes_of, corner_bytes, corners_bytes}
use Rattle.region_file.specs.File.{trailer_bytes, file_of}
use Rattle.root.specs.Root.{sqrt_of}
use Rattle.marked_cases.specs.Cases.{corners, MarkedCases}
use Rattle.marked_cases.proofs.OneCorner.{one_corner_lem}

pub marked_cases : MarkedCases (build_of corners 4 Default)
unfolding sub mul div le of_bits abs_of sqrt_of dot_of cross_of in_domain point_at points_from points_of last_of along next_of put_along northward normal_of in_lon_range is_counted edges_from edges_of odd_many odd_at contained normals_of step_of basic_from basic_of rule_flag rule_at flag_of build_of contains_of checked changed edit_of is_parallel south_of north_of spans_lat straddles either_of case_b point_of parallel_crossing first_fit parallel_first_of parallel_all_of crossings_of all_finite all_of first_of bytes_of corner_bytes corners_bytes trailer_bytes file_of
marked_cases =
    record {
      flag_clear = refl;
      north_in = refl;
      south_out = refl;
      corner_out = (refl, refl, refl);
      edge_2_alone = (refl, refl);
      put_takes_out = (refl, refl);
      one_corner_lem = one_corner_lem;
      up_to_pi = (refl, refl);
      over_the_seam = (refl, refl);
      equator_none = (refl, refl);
      first_crossing = refl;
      roots = (refl, refl);
      trailer = refl;
    }
