-- `edits::seams_from` meets its contract. Assumes nothing.
use Rattle.region.specs.View.{seams_from}
use Rattle.region.proofs.Seam.{Counting}
use Rattle.edits.proofs.seams_from.Given as goal

abbrev pub invariant-loop-end : goal.invariant-loop-end
invariant-loop-end l = Counting (seams_from l.fn.from l.corners) l.corners l.seam_count l.start l.end-index
