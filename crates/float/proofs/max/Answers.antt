use Rattle.float.proofs.max.Goals as goal

-- `float::max` meets its contract. Assumes nothing.

pub returns-then-a-b : goal.returns-then-a-b
returns-then-a-b c = simp c.if-a-b.true

pub returns-else-a-b : goal.returns-else-a-b
returns-else-a-b c = simp c.if-a-b.false
