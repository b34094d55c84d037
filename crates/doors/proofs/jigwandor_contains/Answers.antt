-- `doors::jigwandor_contains` meets its contract. Assumes nothing.
use mathlib.Core.Path.{ap, ◌∙◌}
use Rattle.doors.specs.Doors.{code_of, in_or_out, contains_code}
use Rattle.doors.proofs.Codes.{mapped}
use Rattle.doors.proofs.jigwandor_contains.Goals as goal

pub returns : goal.returns
unfolding contains_code
returns c = c.code.ensures ∙ mapped _ _ c.map.ensures.cases ∙ ap (code_of in_or_out) c.contains.ensures
