-- `zone::Zone::vertices` meets its contract. Assumes nothing.
use Rattle.zone.specs.Zone.{vertices_of}
use Rattle.zone.proofs.Zone.vertices.Goals as goal

pub returns : goal.returns
unfolding vertices_of
returns c = simp (c.corner.ensures, c.corner-2.ensures, c.corner-3.ensures, c.corner-4.ensures)
