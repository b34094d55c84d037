-- `edits::hold` meets its contract. Assumes nothing.
use mathlib.Core.Bool.{cond, not}
use Rattle.edits.proofs.Checked.{hold_by, mapped}
use Rattle.edits.proofs.hold.Goals as goal

pub returns : goal.returns
returns c =
    let flag = c.args.r.contains_south_pole in
    let set = mapped c.contains.result c.map.result _ (λ b. cond b flag (not flag)) c.map.ensures.cases (λ a b post. post) in
    record { answer = rw (hold_by _ _, ← c.contains.ensures, ← set) c.flagged.ensures.answer; kept = c.flagged.ensures.kept }
