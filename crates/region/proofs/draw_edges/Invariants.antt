-- `region::draw_edges` meets its contract. Assumes nothing.
use lib.ListN.{take}
use Rattle.region.specs.View.{seams_of}
use Rattle.region.proofs.Building.{Working}
use Rattle.region.proofs.Seam.{Counting}
use Rattle.region.proofs.draw_edges.Given as goal

abbrev pub invariant-loop-k : goal.invariant-loop-k
invariant-loop-k l = Working l.initial.region.vertices l.count l.initial.region.contains_south_pole l.region l.from l.k × Counting (seams_of (take l.count l.initial.region.vertices)) (take l.count l.initial.region.vertices) l.seam_count l.from l.k
