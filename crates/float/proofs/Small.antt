-- Products of numbers from -2 to 2, and differences of such products, are finite.
use Prim.Native.Nat.{ℕ, ◌+◌, ◌-◌, ◌*◌, ◌^◌, ◌≤◌, ◌<◌}
use native.Mathlib.Nat.{mul-one, mul_comm, mul_assoc, mul-pos, mul-le-mul, mul-le-mul_right, le_of_eq, le_trans}
use native.Mathlib.Omega.{arith}
use mathlib.Core.Path.{◌≡◌, refl, sym, ap, ◌∙◌, subst}
use mathlib.Core.Bool.{Bool, true, false, not, ◌&&◌, beq, cond, false≢true, true≢false}
use borrow.Author.Tests.{ltb-false}
use lib.Dec.{T, ltb}
use lib.IntN.{ℤ, pos}
use lib.Ieee.{Float, nan, inf, fin, binary64, up, down, unlike, round, sum, add, sub, mul, neg, lt, le, eq, of_bits}
use lib.Ieee.Bits.{is_true}
use lib.Ieee.Fits.{down_pos, and_l, and_r}
use lib.Ieee.Order.{round_mono}
use lib.Ieee.Positive.{above}
use Rattle.float.specs.Doubles.{◌⊖◌, ◌⊗◌, two, is_finite, inclusive}
use Rattle.float.proofs.Ordered.{not_beyond}
use Rattle.float.proofs.Signs.{round_neg, round_turned, turned}

-- finite, and at most k in size
abbrev pub Within : ℕ → Float → Type 0
Within k nan = ⊥
Within k (inf s) = ⊥
Within k (fin s m e) = m * up e ≤ k * down e

pub within_finite : (k : ℕ) (x : Float) → Within k x → is_finite x ≡ true
within_finite k nan h = absurd h
within_finite k (inf s) h = absurd h
within_finite k (fin s m e) h = refl

pub within_neg : (k : ℕ) (x : Float) → Within k x → Within k (neg x)
unfolding neg
within_neg k nan h = h
within_neg k (inf s) h = h
within_neg k (fin s m e) h = h

up_to_two : (m : ℕ) (e : ℤ) → lt two (fin false m e) ≡ false → m * up e ≤ 2 * down e
unfolding lt of_bits
up_to_two m e h = let k = ltb-false _ _ h in least (m * up e) (down e) k
  where
    least : (a d : ℕ) → a * 1 ≤ 1 * 2 * d → a ≤ 2 * d
    least a d k = omega (arith, k)

finite_two : (is_finite two ≡ true) × (is_finite (neg two) ≡ true)
unfolding neg of_bits
finite_two = (refl, refl)

pub within_two : (x : Float) → inclusive (neg two) x two ≡ true → Within 2 x
unfolding neg lt le eq of_bits
within_two nan h = absurd (false≢true h)
within_two (inf true) h = absurd (false≢true h)
within_two (inf false) h = absurd (false≢true h)
within_two (fin true m e) h =
    up_to_two m e (sym (turned (fin false m e) two) ∙ not_beyond (neg two) (fin true m e) finite_two.1 refl (is_true _ (and_l (le (neg two) (fin true m e)) (le (fin true m e) two) (subst T (sym h) tt))))
within_two (fin false m e) h =
    up_to_two m e (not_beyond (fin false m e) two refl finite_two.0 (is_true _ (and_r (le (neg two) (fin false m e)) (le (fin false m e) two) (subst T (sym h) tt))))

-- ---- what is rounded

-- 2 ^ j is held as it is
abbrev Held : ℕ → Type 0
Held j = round binary64 false (2 ^ j) 1 ≡ fin false 1 (pos j)

held_4 : Held 2
unfolding round
held_4 = refl

held_8 : Held 3
unfolding round
held_8 = refl

no_more : (j : ℕ) (z : Float) → above (neg z) ≡ false → le z (fin false 1 (pos j)) ≡ true → Within (2 ^ j) z
unfolding neg lt le eq
no_more j nan g h = absurd (false≢true h)
no_more j (inf true) g h = absurd (true≢false g)
no_more j (inf false) g h = absurd (false≢true h)
no_more j (fin true m e) g h = let k = ltb-false 0 m g in none m (up e) (2 ^ j * down e) k
  where
    none : (m u w : ℕ) → m ≤ 0 → m * u ≤ w
    none m u w k = le_trans (mul-le-mul_right u k) (omega arith)
no_more j (fin false m e) g h =
    least (m * up e) (2 ^ j) (down e) (ltb-false _ _ (not_beyond (fin false m e) (fin false 1 (pos j)) refl refl h))
  where
    least : (a p d : ℕ) → a * 1 ≤ 1 * p * d → a ≤ p * d
    least a p d k = omega (arith, k)

module _ (j : ℕ) (held : Held j) (a c : ℕ) (C : 0 < c) (h : a ≤ 2 ^ j * c) where
  above_within : Within (2 ^ j) (round binary64 false a c)
  above_within =
      no_more j (round binary64 false a c) (round_turned binary64 a c)
      (subst (λ (z : Float). le (round binary64 false a c) z ≡ true) held (is_true _ (round_mono binary64 a c (2 ^ j) 1 C (omega arith) (subst (λ (n : ℕ). n ≤ 2 ^ j * c) (sym (mul-one a)) h))))

  round_within : (s : Bool) → Within (2 ^ j) (round binary64 s a c)
  round_within false = above_within
  round_within true = subst (Within (2 ^ j)) (round_neg binary64 false a c) (within_neg (2 ^ j) (round binary64 false a c) above_within)

-- ---- products and differences

pub product_within : (x y : Float) → Within 2 x → Within 2 y → Within 4 (x ⊗ y)
unfolding mul
product_within nan y p q = absurd p
product_within (inf s) y p q = absurd p
product_within (fin s m e) nan p q = absurd q
product_within (fin s m e) (inf t) p q = absurd q
product_within (fin s m e) (fin t n d) p q =
    round_within 2 held_4 (m * up e * (n * up d)) (down e * down d) (mul-pos (down_pos e) (down_pos d)) (le_trans (mul-le-mul p q) (le_of_eq (four (down e) (down d)))) (unlike s t)
  where
    four : (a b : ℕ) → 2 * a * (2 * b) ≡ 4 * (a * b)
    four a b = omega arith

sum_within : (s t : Bool) (a b c : ℕ) → 0 < c → a ≤ 4 * c → b ≤ 4 * c → Within 8 (sum binary64 s a t b c)
unfolding sum
sum_within s t a b c C g h = go (beq s t) (ltb a b) (s && ltb b a)
  where
    go : (x y z : Bool) → Within 8 (cond x (round binary64 s (a + b) c) (cond y (round binary64 t (b - a) c) (round binary64 z (a - b) c)))
    go true y z = round_within 3 held_8 (a + b) c C (omega (arith, g, h)) s
    go false true z = round_within 3 held_8 (b - a) c C (omega (arith, g, h)) t
    go false false z = round_within 3 held_8 (a - b) c C (omega (arith, g, h)) z

scaled : (a d e : ℕ) → a ≤ 4 * d → a * e ≤ 4 * (d * e)
scaled a d e h = le_trans (mul-le-mul_right e h) (le_of_eq (mul_assoc 4 d e))

pub difference_within : (x y : Float) → Within 4 x → Within 4 y → Within 8 (x ⊖ y)
unfolding sub add neg
difference_within nan y p q = absurd p
difference_within (inf s) y p q = absurd p
difference_within (fin s m e) nan p q = absurd q
difference_within (fin s m e) (inf t) p q = absurd q
difference_within (fin s m e) (fin t n d) p q =
    sum_within s (not t) (m * up e * down d) (n * up d * down e) (down e * down d) (mul-pos (down_pos e) (down_pos d)) (scaled (m * up e) (down e) (down d) p) (le_trans (scaled (n * up d) (down d) (down e) q) (le_of_eq (ap (λ (z : ℕ). 4 * z) (mul_comm (down d) (down e)))))
