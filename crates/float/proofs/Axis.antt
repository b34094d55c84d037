-- Products with 0, 1 and -1 in sums of three: what is left of a vector on the axis is the sign of z.
use Prim.Native.Nat.{ℕ, ◌*◌, ◌<◌}
use native.Mathlib.Nat.{one-mul, zero-mul}
use mathlib.Core.Path.{◌≡◌, refl, sym, ap, ◌∙◌, subst}
use mathlib.Core.Bool.{Bool, true, false, not, false≢true}
use lib.Dec.{T, ltb}
use lib.IntN.{ℤ, pos}
use lib.Ieee.{Float, nan, inf, fin, binary64, up, down, unlike, round, add, mul, neg, lt, fits, of_bits}
use lib.Ieee.Fits.{down_pos, add-fits, mul-fits}
use lib.Ieee.Positive.{above}
use Rattle.float.specs.Doubles.{◌⊕◌, ◌⊗◌, nought, one, is_finite}
use Rattle.float.proofs.Finite.{Zero, zero_over}
use Rattle.float.proofs.Signs.{above_zero, above_nought, below_nought, sum_above, held_above, round_below}

zero_by : (t : Bool) (x : Float) → is_finite x ≡ true → Zero (fin t 0 (pos 0) ⊗ x)
unfolding mul
zero_by t nan h = absurd (false≢true h)
zero_by t (inf s) h = absurd (false≢true h)
zero_by t (fin s m e) h = (unlike t s, rw (zero-mul (m * up e)) (zero_over binary64 (unlike t s) (1 * down e) (subst (λ (n : ℕ). 0 < n) (sym (one-mul (down e))) (down_pos e))))

zero_times : (a x : Float) → Zero a → is_finite x ≡ true → Zero (a ⊗ x)
zero_times a x (t, z) h = rw z (zero_by t x h)

zeros_added : (s t : Bool) → Zero (fin s 0 (pos 0) ⊕ fin t 0 (pos 0))
unfolding add
zeros_added true true = (true, refl)
zeros_added true false = (false, refl)
zeros_added false true = (false, refl)
zeros_added false false = (false, refl)

zero_plus : (x y : Float) → Zero x → Zero y → Zero (x ⊕ y)
zero_plus x y (s, p) (t, q) = rw (p, q) (zeros_added s t)

-- a sum that begins with a zero is above 0 exactly when what is added to it is
beyond_zero : (x y : Float) → Zero x → lt (neg x) y ≡ lt nought y
unfolding neg
beyond_zero x y (s, p) = ap (λ (z : Float). lt (neg z) y) p ∙ above_zero (not s) y ∙ sym (above_nought y)

module _ (a b x y u z : Float) (o : Zero a) (w : Zero b) (p : is_finite x ≡ true) (q : is_finite y ≡ true) where
  pub on_axis : lt nought (a ⊗ x ⊕ b ⊗ y ⊕ u ⊗ z) ≡ lt nought (u ⊗ z)
  on_axis =
      sum_above (a ⊗ x ⊕ b ⊗ y) (u ⊗ z) (add-fits binary64 (a ⊗ x) (b ⊗ y)) (mul-fits binary64 u z)
      ∙ beyond_zero (a ⊗ x ⊕ b ⊗ y) (u ⊗ z) (zero_plus (a ⊗ x) (b ⊗ y) (zero_times a x o p) (zero_times b y w q))

-- ---- by 1 and by -1

held_once : (s : Bool) (m : ℕ) (e : ℤ) → T (fits binary64 (fin s m e)) → above (round binary64 false (1 * (m * up e)) (1 * down e)) ≡ ltb 0 m
held_once s m e h = rw (one-mul (m * up e), one-mul (down e)) (held_above binary64 s m e h)

once_sides : (z : Float) → T (fits binary64 z) → (above (one ⊗ z) ≡ above z) × (above (neg one ⊗ z) ≡ above (neg z))
unfolding mul neg of_bits
once_sides nan h = (refl, refl)
once_sides (inf true) h = (refl, refl)
once_sides (inf false) h = (refl, refl)
once_sides (fin true m e) h = (round_below binary64 (1 * (m * up e)) (1 * down e), held_once true m e h)
once_sides (fin false m e) h = (held_once false m e h, round_below binary64 (1 * (m * up e)) (1 * down e))

module _ (z : Float) (h : T (fits binary64 z)) where
  pub once : lt nought (one ⊗ z) ≡ lt nought z
  once = above_nought (one ⊗ z) ∙ (once_sides z h).0 ∙ sym (above_nought z)

  pub once_back : lt nought (neg one ⊗ z) ≡ lt z nought
  once_back = above_nought (neg one ⊗ z) ∙ (once_sides z h).1 ∙ sym (below_nought z)
