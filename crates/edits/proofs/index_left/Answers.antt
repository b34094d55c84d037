-- `edits::index_left` meets its contract. Assumes nothing.
use native.Mathlib.Omega.{arith}
use borrow.Author.Tests.{eq-eqb, ne_eqb}
use Rattle.lists.specs.Cyclic.{there_of}
use Rattle.edits.proofs.index_left.Goals as goal

pub returns-then-i-n : goal.returns-then-i-n
unfolding there_of
returns-then-i-n c = (simp (eq-eqb _ _ c.if-i-n.true), omega arith)

pub returns-else-i-n : goal.returns-else-i-n
unfolding there_of
returns-else-i-n c = (simp (ne_eqb _ _ c.if-i-n.false), omega arith)
