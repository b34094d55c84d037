-- Laws of made regions.
use Prim.Native.Nat.{ℕ}
use mathlib.Core.Path.{◌≡◌, refl, sym, ap, subst}
use mathlib.Core.Bool.{Bool, true}
use mathlib.Core.List.{List}
use lib.ListN.{length, take}
use Rattle.coo3d.specs.declared.Coo3D.{Coo3D}
use Rattle.coo3d.specs.Points.{are_doubles}
use Rattle.domain.proofs.Inside.{Good, points_good, points_back, back_in, back_doubles}
use Rattle.domain.proofs.Points.{points_count}
use Rattle.refusal.specs.Answer.{answered}
use Rattle.region.specs.declared.ContainsSouthPoleMethod.{ContainsSouthPoleMethod}
use Rattle.region.specs.View.{View, seams_of, made}
use Rattle.region.specs.Region.{build_of}
use Rattle.region.specs.Made.{IsMade}
use Rattle.region.proofs.Builds.{build_answered, built_good}

-- its corners are 1 to 64, and the check hands each back as it is
pub made_good : (v : View) → IsMade v → Good v.corners
made_good v m =
    let cs = v.corners in
    let c = points_count cs (length cs) cs m.legal in
    record { inside = back_in (points_back cs (length cs) cs m.legal); some = c.0; few = c.1 }

pub good_made : (cs : List Coo3D) (flag : Bool) → Good cs → are_doubles cs ≡ true → IsMade (made cs flag)
good_made cs flag g d = record { legal = points_good cs g; doubles = d; view = refl }

-- the seam count that it stores is that of its corners
pub seams_made : (v : View) → IsMade v → v.seam_count ≡ seams_of v.corners
seams_made v m = ap (λ (w : View). w.seam_count) m.view

-- a build that was not refused, of points that are doubles
pub build_made : (points : List Coo3D) (count : ℕ) (rule : ContainsSouthPoleMethod) (v : View) → are_doubles (take count points) ≡ true → build_of points count rule ≡ answered v → IsMade v
build_made points count rule v d e =
    let b = build_answered points count rule v e in
    subst IsMade (sym b.view) (good_made b.corners b.flag (built_good b) (back_doubles (points_back points count b.corners b.taken) d))
