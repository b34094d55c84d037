-- `coo3d::UnitVect3::new` meets its contract. Assumes nothing.
use mathlib.Core.Path.{sym}
use Rattle.coo3d.specs.Vectors.{unit_of}
use Rattle.coo3d.proofs.UnitVect3.new.Goals as goal

pub returns-then-is_unit_from_norm : goal.returns-then-is_unit_from_norm
unfolding unit_of
returns-then-is_unit_from_norm c = simp (sym c.squared_norm_of-norm2.ensures, sym c.is_unit_from_norm.ensures, c.if-is_unit_from_norm.true)

pub returns-else-is_unit_from_norm : goal.returns-else-is_unit_from_norm
unfolding unit_of
returns-else-is_unit_from_norm c =
    simp (
      c.scaled_by.ensures,
      c.sqrt.ensures,
      sym c.squared_norm_of-norm2.ensures,
      sym c.is_unit_from_norm.ensures,
      c.if-is_unit_from_norm.false,
    )
