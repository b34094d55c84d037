-- What a made region is: one that was built, edited in any list, or read from a file (region/proofs/Made.antt has the law for the build).
use Rattle.std.specs.Prelude.{◌≡◌, true, length}
use Rattle.coo3d.specs.Points.{are_doubles}
use Rattle.domain.specs.Checks.{points_of}
use Rattle.refusal.specs.Answer.{answered}
use Rattle.region.specs.View.{View, made}

pub record IsMade (v : View) : Type 0 where
  -- its corners are 1 to 64 and in the domain: the check takes them, and hands them back as they are
  pub legal : points_of v.corners (length v.corners) ≡ answered v.corners
  -- they are doubles
  pub doubles : are_doubles v.corners ≡ true
  -- and the rest is what these corners and the flag make
  pub view : v ≡ made v.corners v.flag
