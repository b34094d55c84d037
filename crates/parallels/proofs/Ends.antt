-- Case A does not turn on which end of the edge is the southern one, as a product does not on the order of its factors.
use mathlib.Core.Path.{◌≡◌, refl, ap}
use mathlib.Core.Bool.{Bool, true, false, cond}
use lib.Ieee.{Float, lt}
use Rattle.std.specs.declared.option.Option.TheVariants.{Some}
use Rattle.coo3d.specs.declared.Coo3D.{Coo3D}
use Rattle.coo3d.specs.declared.Vect3.{Vect3}
use Rattle.coo3d.specs.declared.UnitVect3.{UnitVect3}
use Rattle.coo3d.proofs.Products.{dot_comm}
use Rattle.float.specs.Doubles.{nought}
use Rattle.parallels.specs.Parallels.{south_of, north_of, straddles, either_of, second_degree, case_a}

straddles_comm : (p : UnitVect3) (a b : Coo3D) → straddles p a b ≡ straddles p b a
unfolding straddles
straddles_comm p a b = ap (λ (d : Float). lt d nought) (dot_comm _ _)

either_comm : (p q : UnitVect3) (a b : Coo3D) → either_of p q a b ≡ either_of p q b a
unfolding either_of
either_comm p q a b = ap (λ (s : Bool). cond s (Some p) (Some q)) (straddles_comm p a b)

case_a_comm : (a b : Coo3D) (n : Vect3) (z cos : Float) → case_a a b n z cos ≡ case_a b a n z cos
unfolding case_a second_degree
case_a_comm a b n z cos = rw (either_comm _ _ a b) refl

by_order : (a b : Coo3D) (n : Vect3) (z cos : Float) (s : Bool) → case_a a b n z cos ≡ case_a (cond s b a) (cond s a b) n z cos
by_order a b n z cos true = case_a_comm a b n z cos
by_order a b n z cos false = refl

pub in_order : (a b : Coo3D) (n : Vect3) (z cos : Float) → case_a a b n z cos ≡ case_a (south_of a b) (north_of a b) n z cos
unfolding south_of north_of
in_order a b n z cos = by_order a b n z cos (lt b.lat a.lat)
