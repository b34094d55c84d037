-- `parallels::Parallel::point_of` meets its contract. Assumes nothing.
use lib.Ieee.{ne}
use Rattle.parallels.proofs.Ends.{in_order}
use Rattle.parallels.specs.Parallels.{point_of}
use Rattle.parallels.proofs.Parallel.point_of.Goals as goal

pub returns-then-n : goal.returns-then-n
unfolding point_of ne
returns-then-n c =
    let a = c.args in
    simp (c.case_a.ensures, in_order a.from a.to a.n a.self.now.sin a.self.now.cos, c.if-n.true)

pub returns-else-n : goal.returns-else-n
unfolding point_of ne
returns-else-n c = simp (c.case_b.ensures, c.by_latitude.ensures, c.if-n.false)
