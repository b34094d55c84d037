-- `region::flag_by_rule` meets its contract. Assumes nothing.
use mathlib.Core.Path.{ap}
use mathlib.Core.Bool.{not}
use Rattle.region.specs.declared.ContainsSouthPoleMethod.TheVariants.{ControlPointIn, ControlPointOut}
use Rattle.region.specs.Poles.{rule_flag}
use Rattle.region.proofs.Rules.{by_point_in, by_point_out, one_point_in, one_point_out, point_of}
use Rattle.region.proofs.flag_by_rule.Goals as goal

pub odd_at-requires : goal.odd_at-requires
odd_at-requires c = let p = c.requires in (p.0, p.1, point_of ControlPointIn by_point_in one_point_in 0 _ _ c.in-ControlPointIn.is p.2)

pub odd_at-requires-in-ControlPointOut : goal.odd_at-requires-in-ControlPointOut
odd_at-requires-in-ControlPointOut c = let p = c.requires in (p.0, p.1, point_of ControlPointOut by_point_out one_point_out 0 _ _ c.in-ControlPointOut.is p.2)

pub returns-in-Default : goal.returns-in-Default
unfolding rule_flag
returns-in-Default c = rw c.in-Default.is c.is_basic.ensures

pub returns-in-DefaultComplement : goal.returns-in-DefaultComplement
unfolding rule_flag
returns-in-DefaultComplement c = rw c.in-DefaultComplement.is (ap not c.is_basic-in-DefaultComplement.ensures)

pub returns-in-ContainsSouthPole : goal.returns-in-ContainsSouthPole
unfolding rule_flag
returns-in-ContainsSouthPole c = rw c.in-ContainsSouthPole.is

pub returns-in-DoNotContainsSouthPole : goal.returns-in-DoNotContainsSouthPole
unfolding rule_flag
returns-in-DoNotContainsSouthPole c = rw c.in-DoNotContainsSouthPole.is

pub returns-in-ControlPointIn : goal.returns-in-ControlPointIn
unfolding rule_flag
returns-in-ControlPointIn c = rw c.in-ControlPointIn.is (ap not c.odd_at.ensures)

pub returns-in-ControlPointOut : goal.returns-in-ControlPointOut
unfolding rule_flag
returns-in-ControlPointOut c = rw c.in-ControlPointOut.is c.odd_at-in-ControlPointOut.ensures
