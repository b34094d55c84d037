-- `edits::index_before` meets its contract. Assumes nothing.
use native.Mathlib.Omega.{arith}
use borrow.Author.Tests.{eq-eqb, ne_eqb}
use Rattle.lists.specs.Cyclic.{prev_of}
use Rattle.edits.proofs.index_before.Goals as goal

pub returns-then-i-eq0 : goal.returns-then-i-eq0
unfolding prev_of
returns-then-i-eq0 c = (simp (eq-eqb _ _ c.if-i-eq0.true), omega arith)

pub returns-else-i-eq0 : goal.returns-else-i-eq0
unfolding prev_of
returns-else-i-eq0 c = (simp (ne_eqb _ _ c.if-i-eq0.false), omega arith)
