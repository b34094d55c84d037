-- `domain::vector_in_domain` meets its contract. Assumes nothing.
use Rattle.domain.specs.Domain.{vector_in_domain}
use Rattle.domain.proofs.vector_in_domain.Goals as goal

pub returns : goal.returns
unfolding vector_in_domain
returns c = simp (c.within.ensures, c.within-2.ensures, c.within-3.ensures)
