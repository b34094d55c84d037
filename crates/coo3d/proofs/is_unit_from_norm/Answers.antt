-- `coo3d::is_unit_from_norm` meets its contract. Assumes nothing.
use Prim.Native.Nat.{ℕ, ◌+◌, ◌*◌}
use native.Mathlib.Nat.{lt_irrefl, eq-zero-or-pos, mul-pos, zero-mul, zero-add}
use native.Mathlib.Omega.{arith}
use mathlib.Core.Path.{◌≡◌, refl, ap}
use mathlib.Core.Bool.{Bool, true, false, ◌||◌, cond}
use mathlib.Core.Logic.{⊎_elim}
use borrow.Author.Tests.{le-ltb, ltb-false}
use lib.Dec.{ltb}
use lib.IntN.{ℤ}
use lib.Ieee.{Float, nan, inf, fin, up, down, below, level, neg, lt, eq, le}
use lib.Ieee.Fits.{down_pos}
use Rattle.float.specs.Doubles.{abs_of, max_of}
use Rattle.coo3d.specs.Vectors.{is_unit}
use Rattle.coo3d.proofs.is_unit_from_norm.Goals as goal

-- no comparison sees the sign of a zero
below_zero : (t : Bool) (b : ℕ) → below true 0 t b ≡ below false 0 t b
below_zero false b = ap (ltb 0) (zero-add b)
below_zero true b = le-ltb b 0 (omega arith)

at_most_zero : (t : Bool) (b : ℕ) → below true 0 t b || level true 0 t b ≡ below false 0 t b || level false 0 t b
at_most_zero true b = ap (λ (x : Bool). x || level true 0 true b) (below_zero true b)
at_most_zero false b = ap (λ (x : Bool). x || level true 0 false b) (below_zero false b)

unsigned : (m : ℕ) (e : ℤ) (y : Float) → m * up e ≡ 0 → le (fin true m e) y ≡ le (fin false m e) y
unfolding le lt eq
unsigned m e nan z = refl
unsigned m e (inf t) z = refl
unsigned m e (fin t n d) z = rw (z, zero-mul (down d)) (at_most_zero t (n * up d * down e))

-- the larger of a number and its opposite compares as the magnitude
larger_is_abs : (x y : Float) → le (max_of x (neg x)) y ≡ le (abs_of x) y
unfolding lt neg abs_of
larger_is_abs nan y = refl
larger_is_abs (inf true) y = refl
larger_is_abs (inf false) y = refl
larger_is_abs (fin false m e) y = refl
larger_is_abs (fin true m e) y = by_size (ltb 0 (m * up e * down e + m * up e * down e)) refl
  where
    by_size : (b : Bool) → ltb 0 (m * up e * down e + m * up e * down e) ≡ b → le (cond b (fin false m e) (fin true m e)) y ≡ le (fin false m e) y
    by_size true h = refl
    by_size false h = unsigned m e y (⊎_elim (λ z. z) (λ q. absurd (lt_irrefl 0 (omega (arith, mul-pos q (down_pos e), ltb-false 0 (m * up e * down e + m * up e * down e) h)))) (eq-zero-or-pos (m * up e)))

pub returns : goal.returns
unfolding is_unit
returns c = rw c.max.ensures (larger_is_abs _ _)
