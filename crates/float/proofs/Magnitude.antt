-- The larger of a double and its opposite is its magnitude, but for the sign of a zero: beyond PI both lie or neither.
use Prim.Native.Nat.{ℕ, ◌+◌, ◌*◌, ◌≤◌, ◌<◌}
use native.Mathlib.Nat.{eq-zero-or-pos, mul-pos, zero-mul}
use native.Mathlib.Omega.{arith}
use mathlib.Core.Path.{◌≡◌, refl, sym, ap, ◌∙◌}
use mathlib.Core.Bool.{Bool, true, false, not, cond, false≢true, true≢false}
use mathlib.Core.Logic.{⊎_elim}
use lib.Dec.{ltb}
use borrow.Author.Tests.{ltb-false, le-ltb}
use lib.Ieee.{Float, nan, inf, fin, up, down, is_nan, lt, le, eq, neg, of_bits}
use lib.Ieee.Fits.{down_pos}
use Rattle.float.specs.Doubles.{nought, abs_of, max_of, pi, is_finite}
use Rattle.float.proofs.Ordered.{at_least}
use Rattle.float.proofs.Signs.{below_nought, turned}

-- a product that is not above 0 has no part of its first factor
no_part : (a d : ℕ) → 0 < d → ltb 0 (a * d + a * d) ≡ false → a ≡ 0
no_part a d h e =
    let z : a * d + a * d ≤ 0 = ltb-false 0 (a * d + a * d) e in
    ⊎_elim (λ (n : a ≡ 0). n) (λ (p : 0 < a). let m : 0 < a * d = mul-pos p h in absurd (omega (arith, m, z))) (eq-zero-or-pos a)

not_above : (p a c : ℕ) → a ≡ 0 → ltb p (a * c) ≡ false
not_above p a c e = le-ltb p (a * c) (rw e (omega arith))

pub beyond_pi : (x : Float) → lt pi (max_of x (neg x)) ≡ lt pi (abs_of x)
unfolding lt neg abs_of of_bits
beyond_pi nan = refl
beyond_pi (inf true) = refl
beyond_pi (inf false) = refl
beyond_pi (fin false m e) = refl
beyond_pi (fin true m e) = go (ltb 0 (m * up e * down e + m * up e * down e)) refl
  where
    go : (b : Bool) → ltb 0 (m * up e * down e + m * up e * down e) ≡ b → lt pi (cond b (fin false m e) (fin true m e)) ≡ lt pi (fin false m e)
    go true k = refl
    go false k = sym (not_above _ (m * up e) _ (no_part (m * up e) (down e) (down_pos e) k))

-- ---- a step and PI

pub finite_pi : (is_finite pi ≡ true) × (is_finite (neg pi) ≡ true)
unfolding neg of_bits
finite_pi = (refl, refl)

-- a step below 0 is at least -PI unless it is beyond PI in size, and one that is not below 0 is PI at most
pub short_back : (x : Float) → lt x nought ≡ true → le (neg pi) x ≡ not (lt pi (abs_of x))
unfolding neg abs_of lt le eq of_bits
short_back nan h = absurd (false≢true h)
short_back (inf true) h = refl
short_back (inf false) h = absurd (false≢true h)
short_back (fin true m e) h = at_least (neg pi) (fin true m e) finite_pi.1 refl ∙ ap not (turned (fin false m e) pi)
short_back (fin false m e) h = absurd (false≢true (sym (below_nought (fin false m e)) ∙ h))

pub short_on : (x : Float) → is_nan x ≡ false → lt x nought ≡ false → le x pi ≡ not (lt pi (abs_of x))
unfolding neg abs_of lt le eq of_bits is_nan
short_on nan r h = absurd (true≢false r)
short_on (inf true) r h = absurd (true≢false h)
short_on (inf false) r h = refl
short_on (fin false m e) r h = at_least (fin false m e) pi refl finite_pi.0
short_on (fin true m e) r h = at_least (fin true m e) pi refl finite_pi.0 ∙ ap not (sym (not_above _ (m * up e) _ (none m (up e) (ltb-false 0 m (sym (below_nought (fin true m e)) ∙ h)))))
  where
    none : (m u : ℕ) → m ≤ 0 → m * u ≡ 0
    none m u k = let z : m ≡ 0 = omega (arith, k) in rw z (zero-mul u)
