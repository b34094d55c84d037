-- The rules that set the flag: document 01, 'Pole rules'.
use Rattle.std.specs.Prelude.{Bool, true, false, not, ◌&&◌, cond, List, [], ◌∷◌, Float}
use Rattle.std.specs.Float.Ieee.{lt, le}
use Rattle.coo3d.specs.declared.Coo3D.{Coo3D}
use Rattle.float.specs.Doubles.{◌⊕◌, ◌⊖◌, nought, pi, two_pi, abs_of}
use Rattle.lists.specs.Cyclic.{last_of}
use Rattle.region.specs.declared.ContainsSouthPoleMethod.{ContainsSouthPoleMethod}
use Rattle.region.specs.declared.ContainsSouthPoleMethod.TheVariants.{Default, DefaultComplement, ContainsSouthPole, DoNotContainsSouthPole, ControlPointIn, ControlPointOut}
use Rattle.region.specs.View.{View, nowhere, odd_at}

-- `Basic`: the sum of longitude steps, one that crosses the seam taken the short way round
unfoldable pub step_of : Float → Float → Float
step_of sum step =
    cond (le (abs_of step) pi) (sum ⊕ step)
    (cond (lt nought step) (sum ⊖ (two_pi ⊖ abs_of step)) (sum ⊕ (two_pi ⊖ abs_of step)))

unfoldable pub basic_from : Float → Float → Coo3D → List Coo3D → Bool
basic_from sum z from [] = lt pi (abs_of sum) && lt z nought
basic_from sum z from (c ∷ cs) = basic_from (step_of sum (c.lon ⊖ from.lon)) (z ⊕ c.z) c cs

-- the outline goes round a pole, and its corners lie south on the whole
unfoldable pub basic_of : List Coo3D → Bool
basic_of cs = basic_from nought nought (last_of nowhere cs) cs

-- the flag that the rule sets for a region's corners and normals; with a control point, such that the point is, or is not, contained
unfoldable pub rule_flag : ContainsSouthPoleMethod → View → Bool
rule_flag Default v = basic_of v.corners
rule_flag DefaultComplement v = not (basic_of v.corners)
rule_flag ContainsSouthPole v = true
rule_flag DoNotContainsSouthPole v = false
rule_flag (ControlPointIn p) v = not (odd_at p v)
rule_flag (ControlPointOut p) v = odd_at p v

-- the rule that sets the flag as it is
abbrev pub fixed_rule : Bool → ContainsSouthPoleMethod
fixed_rule true = ContainsSouthPole
fixed_rule false = DoNotContainsSouthPole
