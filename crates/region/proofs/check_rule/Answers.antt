-- `region::check_rule` meets its contract. Assumes nothing.
use Rattle.std.proofs.Common.{rules}
use mathlib.Core.Path.{refl}
use Rattle.region.specs.declared.ContainsSouthPoleMethod.TheVariants.{ControlPointIn, ControlPointOut}
use Rattle.region.specs.Region.{rule_at}
use Rattle.region.proofs.Rules.{by_point_in, by_point_out, point_inside}
use Rattle.region.proofs.check_rule.Goals as goal

pub returns-in_err-q-in-ControlPointIn : goal.returns-in_err-q-in-ControlPointIn
unfolding rule_at
returns-in_err-q-in-ControlPointIn c = search rules

pub returns-in_err-q-in-ControlPointOut : goal.returns-in_err-q-in-ControlPointOut
unfolding rule_at
returns-in_err-q-in-ControlPointOut c = search rules

pub returns-in-Default : goal.returns-in-Default
unfolding rule_at
returns-in-Default c = rw c.in-Default.is refl

pub returns-in-DefaultComplement : goal.returns-in-DefaultComplement
unfolding rule_at
returns-in-DefaultComplement c = rw c.in-DefaultComplement.is refl

pub returns-in-ContainsSouthPole : goal.returns-in-ContainsSouthPole
unfolding rule_at
returns-in-ContainsSouthPole c = rw c.in-ContainsSouthPole.is refl

pub returns-in-DoNotContainsSouthPole : goal.returns-in-DoNotContainsSouthPole
unfolding rule_at
returns-in-DoNotContainsSouthPole c = rw c.in-DoNotContainsSouthPole.is refl

pub returns-in_ok-q-in-ControlPointIn : goal.returns-in_ok-q-in-ControlPointIn
returns-in_ok-q-in-ControlPointIn c = point_inside ControlPointIn by_point_in _ _ _ _ c.in-ControlPointIn.is c.in_ok-q-in-ControlPointIn.ensures

pub returns-in_ok-q-in-ControlPointOut : goal.returns-in_ok-q-in-ControlPointOut
returns-in_ok-q-in-ControlPointOut c = point_inside ControlPointOut by_point_out _ _ _ _ c.in-ControlPointOut.is c.in_ok-q-in-ControlPointOut.ensures
