-- `zone::Zone::crossed_horizontally` meets its contract. Assumes nothing.
use mathlib.Core.Path.{◌≡◌, refl, ap}
use lib.Ieee.{lt, le}
use Rattle.float.specs.Doubles.{half_open}
use mathlib.Core.Bool.{Bool, true, false, ◌&&◌, cond}
use Rattle.zone.specs.Zone.{crossed_horizontally}
use Rattle.zone.proofs.Zone.crossed_horizontally.Goals as goal

and_cond : (a b : Bool) → (a && b) ≡ cond a b false
and_cond true b = refl
and_cond false b = refl

pub returns-then-self : goal.returns-then-self
unfolding crossed_horizontally
returns-then-self c =
    let a = c.args in
    let z = a.self in
    simp (c.if-self.true, c.within_half_open-is_lat_compatible.ensures)
    (ap (λ (b : Bool). half_open z.lat_min a.lat z.lat_max && b) (and_cond (lt a.lon_right a.lon_left) (lt a.lon_left z.lon_min && le z.lon_max a.lon_right)))

pub returns-then-crosses : goal.returns-then-crosses
unfolding crossed_horizontally
returns-then-crosses c = simp (c.if-self.false, c.if-crosses.true, c.within_half_open-is_lat_compatible.ensures)

pub returns-else-crosses : goal.returns-else-crosses
unfolding crossed_horizontally
returns-else-crosses c = simp (c.if-self.false, c.if-crosses.false, c.within_half_open-is_lat_compatible.ensures)
