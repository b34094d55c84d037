-- `crossings::is_intersecting` meets its contract. Assumes nothing. The check finds it; without it a wrong edit is refused only where its search ends.
use mathlib.Core.Path.{◌≡◌, refl, sym, ap, ◌∙◌}
use Rattle.std.specs.Option.{is_some}
use Rattle.std.specs.declared.option.Option.{Option}
use Rattle.std.specs.declared.option.Option.TheVariants.{None, Some}
use Rattle.std.specs.declared.result.Result.TheVariants.{Ok}
use Rattle.coo3d.specs.declared.UnitVect3.{UnitVect3}
use Rattle.refusal.specs.Answer.{answered}
use Rattle.crossings.specs.Crossings.{first_answer, intersecting_of}
use Rattle.crossings.proofs.is_intersecting.Goals as goal

told : (x : Option UnitVect3) → answered (is_some x) ≡ intersecting_of (first_answer (Ok x))
told None = refl
told (Some p) = refl

pub returns : goal.returns
returns c = ap answered c.is_some.ensures ∙ told _ ∙ ap (λ f. intersecting_of (first_answer f)) (sym c.in_ok-first.was)
