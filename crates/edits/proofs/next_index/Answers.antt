-- `edits::next_index` meets its contract. Assumes nothing.
use native.Mathlib.Omega.{arith}
use borrow.Author.Tests.{eq-eqb, ne_eqb}
use Rattle.lists.specs.Cyclic.{next_of}
use Rattle.edits.proofs.next_index.Goals as goal

pub returns-then-i-n : goal.returns-then-i-n
unfolding next_of
returns-then-i-n c = (simp (eq-eqb _ _ c.if-i-n.true), omega arith)

pub returns-else-i-n : goal.returns-else-i-n
unfolding next_of
returns-else-i-n c = (simp (ne_eqb _ _ c.if-i-n.false), omega arith)
