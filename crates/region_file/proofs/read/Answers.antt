-- `region_file::read` meets its contract. Assumes nothing.
use native.Mathlib.Omega.{arith}
use mathlib.Core.Path.{sym}
use Rattle.region.proofs.Answered.{builds_same}
use Rattle.region_file.proofs.Trailers.{Accepted, accepted}
use Rattle.region_file.proofs.Reading.{read_refused, read_built}
use Rattle.region_file.proofs.read.Goals as goal
use Rattle.region_file.proofs.read.Goals.{In-Ok}

known : (c : In-Ok) → Accepted c.args.file.now c.in-Ok.field-0
known c = accepted _ _ (sym c.in-Ok.ensures)

pub file_length-requires : goal.file_length-requires
file_length-requires c = let a = (known c).few in omega (arith, a)

pub overflow_sub-file : goal.overflow_sub-file
overflow_sub-file c = let w = (known (goal.at.overflow_sub-file c).In-Ok).whole in omega (arith, w, c.file_length.ensures)

pub corners_at-corners-requires : goal.corners_at-corners-requires
corners_at-corners-requires c = let k = known (goal.at.corners_at-corners-requires c).In-Ok in let w = k.whole in (k.few, omega (arith, w, c.file_length.ensures))

pub returns-in-Err : goal.returns-in-Err
returns-in-Err c = builds_same _ _ _ (read_refused _ _ _ c.in-Err.ensures) c.refused.ensures

pub returns-in-Ok : goal.returns-in-Ok
returns-in-Ok c = builds_same _ _ _ (read_built _ _ _ _ c.in-Ok.ensures c.file_length.ensures c.corners_at-corners.ensures) c.build_flagged.ensures
