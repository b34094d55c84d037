-- `cost::tooth` meets its contract. Assumes nothing.
use Rattle.cost.specs.Outline.{tooth}
use Rattle.cost.proofs.tooth.Goals as goal

pub returns : goal.returns
unfolding tooth
returns c =
    elim c.if-is_east.branch [
      | goal.then-is_east t ↦ rw (t.if-is_east.true, t.cos_lon-is)
      | goal.else-is_east t ↦ rw (t.if-is_east.false, t.cos_lon-is)
    ]
