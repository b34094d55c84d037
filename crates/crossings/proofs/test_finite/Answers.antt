-- `crossings::test_finite` meets its contract. Assumes nothing. The check finds it; without it a wrong edit is refused only where its search ends.
use mathlib.Core.Path.{◌≡◌, sym, ◌∙◌}
use mathlib.Core.Bool.{Bool, true, false}
use mathlib.Core.List.{[]}
use Rattle.std.specs.declared.option.Option.{Option}
use Rattle.std.specs.declared.option.Option.TheVariants.{None, Some}
use Rattle.coo3d.specs.declared.UnitVect3.{UnitVect3}
use Rattle.coo3d.specs.Vectors.{is_finite_unit}
use Rattle.refusal.specs.Answer.{answered, refused}
use Rattle.crossings.specs.Crossings.{tested_of}
use Rattle.crossings.proofs.test_finite.Goals as goal

at_finite : (c : Option UnitVect3) (p : UnitVect3) (b : Bool) → c ≡ Some p → b ≡ is_finite_unit p → b ≡ true → answered (Some p) ≡ tested_of c
at_finite c p b e f t = rw (e, sym f ∙ t)

at_other : (c : Option UnitVect3) (p : UnitVect3) (b : Bool) → c ≡ Some p → b ≡ is_finite_unit p → b ≡ false → refused 6 [] ≡ tested_of c
at_other c p b e f t = rw (e, sym f ∙ t)

none : (c : Option UnitVect3) → c ≡ None → answered c ≡ tested_of c
none c e = rw e

pub returns-then-is_finite : goal.returns-then-is_finite
returns-then-is_finite c = at_finite _ _ _ c.in-Some.is c.is_finite.ensures c.if-is_finite.true

pub returns-else-is_finite : goal.returns-else-is_finite
returns-else-is_finite c = at_other _ _ _ c.in-Some.is c.is_finite.ensures c.if-is_finite.false

pub returns-in-None : goal.returns-in-None
returns-in-None c = none _ c.in-None.is
