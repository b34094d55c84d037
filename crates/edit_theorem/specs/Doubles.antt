-- Edits whose points are doubles, as the code's types have them.
use Rattle.std.specs.Prelude.{Bool, true, ◌&&◌, List, [], ◌∷◌}
use Rattle.coo3d.specs.Points.{of_doubles}
use Rattle.region.specs.declared.ContainsSouthPoleMethod.{ContainsSouthPoleMethod}
use Rattle.region.specs.declared.ContainsSouthPoleMethod.TheVariants.{Default, DefaultComplement, ContainsSouthPole, DoNotContainsSouthPole, ControlPointIn, ControlPointOut}
use Rattle.edits.specs.Edits.{Edit, put, insert, remove, turn, hold, rule}

abbrev pub rule_of_doubles : ContainsSouthPoleMethod → Bool
rule_of_doubles Default = true
rule_of_doubles DefaultComplement = true
rule_of_doubles ContainsSouthPole = true
rule_of_doubles DoNotContainsSouthPole = true
rule_of_doubles (ControlPointIn p) = of_doubles p
rule_of_doubles (ControlPointOut p) = of_doubles p

abbrev pub edit_of_doubles : Edit → Bool
edit_of_doubles (put i p) = of_doubles p
edit_of_doubles (insert i p) = of_doubles p
edit_of_doubles (remove i) = true
edit_of_doubles turn = true
edit_of_doubles (hold p) = of_doubles p
edit_of_doubles (rule m) = rule_of_doubles m

unfoldable pub edits_of_doubles : List Edit → Bool
edits_of_doubles [] = true
edits_of_doubles (e ∷ es) = edit_of_doubles e && edits_of_doubles es
