-- Points as the code's type has them: the logic's floats have any width, the code's are doubles.
use Rattle.std.specs.Prelude.{Bool, true, ◌&&◌, List, [], ◌∷◌}
use Rattle.std.specs.Float.{binary64}
use Rattle.std.specs.Float.Ieee.{fits}
use Rattle.coo3d.specs.declared.Coo3D.{Coo3D}

-- the five numbers are doubles
abbrev pub of_doubles : Coo3D → Bool
of_doubles p = fits binary64 p.x && fits binary64 p.y && fits binary64 p.z && fits binary64 p.lon && fits binary64 p.lat

unfoldable pub are_doubles : List Coo3D → Bool
are_doubles [] = true
are_doubles (p ∷ ps) = of_doubles p && are_doubles ps
