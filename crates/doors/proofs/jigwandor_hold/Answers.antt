-- `doors::jigwandor_hold` meets its contract. Assumes nothing.
use mathlib.Core.Path.{◌∙◌}
use Rattle.doors.proofs.Codes.{code_of_outcome}
use Rattle.doors.proofs.jigwandor_hold.Goals as goal

pub returns-clause-answer : goal.returns-clause-answer
returns-clause-answer c = c.code.ensures ∙ rw c.and.ensures (code_of_outcome _ _ c.hold.ensures.answer)
