-- `cost::costliest_outline` meets its contract. Assumes nothing.
use mathlib.Core.Path.{subst}
use mathlib.Core.List.{List}
use mathlib.Core.Bool.{false}
use Rattle.coo3d.specs.declared.Coo3D.{Coo3D}
use Rattle.region.specs.Poles.{fixed_rule}
use Rattle.region.specs.Region.{build_of, Builds}
use Rattle.cost.specs.Outline.{outline_of}
use Rattle.cost.proofs.costliest_outline.Goals as goal

pub returns : goal.returns
unfolding outline_of
returns c = record { built = subst (λ (l : List Coo3D). Builds c.build_flagged-built.result (build_of l c.args.count (fixed_rule false))) c.saw-corners.ensures c.build_flagged-built.ensures; point = c.abreast-point.ensures }
