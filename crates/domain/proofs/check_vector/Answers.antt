-- `domain::check_vector` meets its contract. Assumes nothing.
use Rattle.domain.specs.Checks.{vector_at}
use Rattle.domain.proofs.check_vector.Goals as goal

pub returns : goal.returns
unfolding vector_at
returns c = simp (c.if_inside.ensures, c.vector_in_domain.ensures)
