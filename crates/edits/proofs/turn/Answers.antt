-- `edits::turn` meets its contract. Assumes nothing.
use Rattle.edits.proofs.Checked.{turn_by}
use Rattle.edits.proofs.turn.Goals as goal

pub returns : goal.returns
returns c = record { answer = rw (turn_by _ _ c.check_count.ensures.answer) (rw c.and.ensures at c.flagged.ensures.answer); kept = c.flagged.ensures.kept }
