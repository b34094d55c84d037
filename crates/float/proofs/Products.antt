-- A product of doubles does not go by the order of its factors.
use Prim.Native.Nat.{◌*◌}
use native.Mathlib.Nat.{mul_comm}
use mathlib.Core.Path.{◌≡◌, refl, ap}
use mathlib.Core.Bool.{Bool, true, false, cond}
use lib.Dec.{eqb}
use lib.Ieee.{Float, nan, inf, fin, up, down, unlike, mul}
use Rattle.float.specs.Doubles.{◌⊗◌}

unlike_comm : (s t : Bool) → unlike s t ≡ unlike t s
unlike_comm true true = refl
unlike_comm true false = refl
unlike_comm false true = refl
unlike_comm false false = refl

pub times_comm : (x y : Float) → x ⊗ y ≡ y ⊗ x
unfolding mul
times_comm nan nan = refl
times_comm nan (inf t) = refl
times_comm nan (fin t n d) = refl
times_comm (inf s) nan = refl
times_comm (inf s) (inf t) = ap inf (unlike_comm s t)
times_comm (inf s) (fin t n d) = ap (λ (u : Bool). cond (eqb n 0) nan (inf u)) (unlike_comm s t)
times_comm (fin s m e) nan = refl
times_comm (fin s m e) (inf t) = ap (λ (u : Bool). cond (eqb m 0) nan (inf u)) (unlike_comm s t)
times_comm (fin s m e) (fin t n d) = rw (unlike_comm s t, mul_comm (m * up e) (n * up d), mul_comm (down e) (down d)) refl
