-- `edits::rule` meets its contract. Assumes nothing.
use Rattle.edits.proofs.Checked.{rule_by}
use Rattle.edits.proofs.rule.Goals as goal

pub returns : goal.returns
returns c = record { answer = rw (rule_by _ _, ← c.contains_south_pole.ensures) c.flagged.ensures.answer; kept = c.flagged.ensures.kept }
