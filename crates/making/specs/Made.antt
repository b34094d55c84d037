-- The ways in which a region is made: built, read, edited in any list. It speaks of the calls by nothing but their contracts. The numbers handed in are
-- doubles, as the code's types have them.
use Rattle.std.specs.Prelude.{ℕ, ◌≡◌, true, List, take, Ok}
use Rattle.coo3d.specs.declared.Coo3D.{Coo3D}
use Rattle.coo3d.specs.Points.{are_doubles}
use Rattle.edit_theorem.specs.Doubles.{edits_of_doubles}
use Rattle.edit_theorem.specs.Theorem.{Run}
use Rattle.edits.specs.Edits.{Edit}
use Rattle.region.specs.declared.Built.{Built}
use Rattle.region.specs.declared.ContainsSouthPoleMethod.{ContainsSouthPoleMethod}
use Rattle.region.specs.declared.Region.{Region}
use Rattle.region.specs.Region.{build_of, Builds}
use Rattle.region_file.specs.File.{read_of}

pub data Made : Region → Type 0 where
  -- by a build that was not refused
  built : (points : List Coo3D) (count : ℕ) (rule : ContainsSouthPoleMethod) (b : Built) → are_doubles (take count points) ≡ true → Builds b (build_of points count rule) → b.outcome ≡ Ok tt → Made b.region
  -- by a read that was not refused
  read : (s : List ℕ) (b : Built) → Builds b (read_of s) → b.outcome ≡ Ok tt → Made b.region
  -- by a list of edits of a made region, refused ones included
  edited : (r last : Region) (es : List Edit) → Made r → edits_of_doubles es ≡ true → Run r es last → Made last
