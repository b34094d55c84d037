-- Steps between two doubles that are not below 0: rounded, a step is no shorter than one inside it, and of two steps in a row to at most TWO_PI only one is beyond PI.
use Prim.Native.Nat.{ℕ, zero, suc, ◌+◌, ◌-◌, ◌*◌, ◌≤◌, ◌<◌}
use native.Mathlib.Nat.{zero-mul, mul_comm, mul-pos, mul-le-mul_right, lt_of_mul-lt-mul_right, sub-add_cancel, mul-lt-mul_of_pos_right}
use native.Mathlib.Omega.{arith}
use mathlib.Core.Path.{◌≡◌, refl, sym, ap, subst, ◌∙◌}
use mathlib.Core.Bool.{Bool, true, false, ◌&&◌, beq, cond, false≢true, true≢false}
use borrow.Author.Tests.{ltb-true, ltb-false, lt-ltb, le-ltb}
use lib.Dec.{T, ltb}
use lib.IntN.{ℤ, negsuc}
use lib.Ieee.{Float, nan, inf, fin, Format, binary64, up, down, round, sum, add, sub, neg, lt, le, eq, of_bits}
use lib.Ieee.Bits.{is_true}
use lib.Ieee.Fits.{down_pos}
use lib.Ieee.Order.{round_mono}
use Rattle.float.specs.Doubles.{◌⊖◌, nought, pi, two_pi, abs_of, is_finite}
use Rattle.float.proofs.Finite.{Signed, round_signed}
use Rattle.float.proofs.Magnitude.{finite_pi}
use Rattle.float.proofs.Ordered.{below_higher, not_beyond}
use Rattle.float.proofs.Signs.{round_neg, below_nought}

-- ---- the size of a rounded sum

abs_plus : (x : Float) → Signed false x → abs_of x ≡ x
unfolding abs_of
abs_plus nan h = refl
abs_plus (inf true) h = absurd (false≢true (sym h))
abs_plus (inf false) h = refl
abs_plus (fin true m e) h = absurd (false≢true (sym h))
abs_plus (fin false m e) h = refl

abs_neg : (x : Float) → abs_of (neg x) ≡ abs_of x
unfolding abs_of neg
abs_neg nan = refl
abs_neg (inf s) = refl
abs_neg (fin s m e) = refl

abs_round : (f : Format) (s : Bool) (n c : ℕ) → abs_of (round f s n c) ≡ round f false n c
abs_round f false n c = abs_plus (round f false n c) (round_signed f false n c)
abs_round f true n c = sym (abs_neg (round f true n c)) ∙ ap abs_of (round_neg f true n c) ∙ abs_plus (round f false n c) (round_signed f false n c)

-- how far apart two numbers are
abbrev apart : ℕ → ℕ → ℕ
apart a b = (a - b) + (b - a)

sum_size : (f : Format) (s t : Bool) (a b c : ℕ) → abs_of (sum f s a t b c) ≡ round f false (cond (beq s t) (a + b) (apart a b)) c
unfolding sum
sum_size f s t a b c = go (beq s t) (ltb a b) refl
  where
    go : (like less : Bool) → ltb a b ≡ less → abs_of (cond like (round f s (a + b) c) (cond less (round f t (b - a) c) (round f (s && ltb b a) (a - b) c))) ≡ round f false (cond like (a + b) (apart a b)) c
    go true less e = abs_round f s (a + b) c
    go false true e = let l = ltb-true a b e in abs_round f t (b - a) c ∙ ap (λ (n : ℕ). round f false n c) (omega (arith, l))
    go false false e = let l = ltb-false a b e in abs_round f (s && ltb b a) (a - b) c ∙ ap (λ (n : ℕ). round f false n c) (omega (arith, l))

-- ---- as fractions: a value that is not below 0 is p / a; a zero may have either sign

pub data Fraction : Float → ℕ → ℕ → Type 0 where
  some : (m : ℕ) (e : ℤ) → Fraction (fin false m e) (m * up e) (down e)
  none : (e : ℤ) → Fraction (fin true 0 e) (0 * up e) (down e)

pub fraction : (x : Float) → is_finite x ≡ true → lt x nought ≡ false → (p : ℕ) × (a : ℕ) × Fraction x p a
unfolding neg
fraction nan f h = absurd (false≢true f)
fraction (inf s) f h = absurd (false≢true f)
fraction (fin false m e) f h = (m * up e, down e, some m e)
fraction (fin true zero e) f h = (0 * up e, down e, none e)
fraction (fin true (suc m) e) f h = absurd (true≢false (sym (below_nought (fin true (suc m) e) ∙ lt-ltb 0 (suc m) (omega arith)) ∙ h))

pub bottom_some : {x : Float} {p a : ℕ} → Fraction x p a → 0 < a
bottom_some (some m e) = down_pos e
bottom_some (none e) = down_pos e

no_part : (u k : ℕ) → 0 * u * k ≡ 0
no_part u k = rw (zero-mul u) (zero-mul k)

order_is : {x y : Float} {p a q b : ℕ} → Fraction x p a → Fraction y q b → lt x y ≡ ltb (p * b) (q * a)
unfolding lt
order_is (some m e) (some n d) = refl
order_is (some m e) (none d) = sym (le-ltb (m * up e * down d) (0 * up d * down e) (rw (no_part (up d) (down e)) (omega arith)))
order_is (none e) (some n d) = rw (no_part (up e) (down d)) (ap (ltb 0) (nothing (n * up d * down e)))
  where
    nothing : (k : ℕ) → 0 + k ≡ k
    nothing k = omega arith
order_is (none e) (none d) = rw (no_part (up e) (down d), no_part (up d) (down e))

-- the size of a difference, rounded
size_is : {x y : Float} {p a q b : ℕ} → Fraction x p a → Fraction y q b → abs_of (y ⊖ x) ≡ round binary64 false (apart (q * a) (p * b)) (b * a)
unfolding sub add neg
size_is (some m e) (some n d) = sum_size binary64 false true (n * up d * down e) (m * up e * down d) (down d * down e)
size_is (some m e) (none d) = sum_size binary64 true true (0 * up d * down e) (m * up e * down d) (down d * down e) ∙ rw (no_part (up d) (down e)) (ap (λ (k : ℕ). round binary64 false k (down d * down e)) (same (m * up e * down d)))
  where
    same : (k : ℕ) → 0 + k ≡ apart 0 k
    same k = omega arith
size_is (none e) (some n d) = sum_size binary64 false false (n * up d * down e) (0 * up e * down d) (down d * down e) ∙ rw (no_part (up e) (down d)) (ap (λ (k : ℕ). round binary64 false k (down d * down e)) (same (n * up d * down e)))
  where
    same : (k : ℕ) → k + 0 ≡ apart k 0
    same k = omega arith
size_is (none e) (none d) = sum_size binary64 true false (0 * up d * down e) (0 * up e * down d) (down d * down e)

-- ---- beyond PI

-- the rounded step from x to y is beyond PI
abbrev pub far : Float → Float → Bool
far x y = lt pi (abs_of (y ⊖ x))

pub far_back : {x y : Float} {p a q b : ℕ} → Fraction x p a → Fraction y q b → far x y ≡ far y x
far_back {p = p} {a = a} {q = q} {b = b} g h =
    ap (lt pi) (size_is g h ∙ ap (λ (k : ℕ). round binary64 false k (b * a)) (turn (q * a) (p * b)) ∙ ap (round binary64 false (apart (p * b) (q * a))) (mul_comm b a) ∙ sym (size_is h g))
  where
    turn : (i j : ℕ) → apart i j ≡ apart j i
    turn i j = omega arith

-- what is below a number is below one that is at least it
below_at_least : (x y z : Float) → is_finite x ≡ true → lt x y ≡ true → T (le y z) → lt x z ≡ true
unfolding lt le eq
below_at_least nan y z f g h = absurd (false≢true f)
below_at_least (inf s) y z f g h = absurd (false≢true f)
below_at_least (fin s m e) nan z f g h = absurd (false≢true g)
below_at_least (fin s m e) (inf true) z f g h = absurd (false≢true g)
below_at_least (fin s m e) (inf false) nan f g h = absurd h
below_at_least (fin s m e) (inf false) (inf true) f g h = absurd h
below_at_least (fin s m e) (inf false) (inf false) f g h = refl
below_at_least (fin s m e) (inf false) (fin u k c) f g h = absurd h
below_at_least (fin s m e) (fin t n d) nan f g h = absurd h
below_at_least (fin s m e) (fin t n d) (inf true) f g h = absurd h
below_at_least (fin s m e) (fin t n d) (inf false) f g h = refl
below_at_least (fin s m e) (fin t n d) (fin u k c) f g h = below_higher (fin s m e) (fin t n d) (fin u k c) refl refl refl g (not_beyond (fin t n d) (fin u k c) refl refl (is_true _ h))

-- a larger fraction is rounded beyond PI where a smaller one is
larger : (n c k d : ℕ) → 0 < c → 0 < d → n * d ≤ k * c → lt pi (round binary64 false n c) ≡ true → lt pi (round binary64 false k d) ≡ true
larger n c k d C D h g = below_at_least pi (round binary64 false n c) (round binary64 false k d) finite_pi.0 g (round_mono binary64 n c k d C D h)

-- PI is P / Q
abbrev P : ℕ
P = 884279719003555

abbrev Q : ℕ
Q = 281474976710656

round_pi : round binary64 false P Q ≡ pi
unfolding round of_bits
round_pi = refl

pi_itself : lt pi pi ≡ false
unfolding lt of_bits
pi_itself = refl

-- what is rounded beyond PI is beyond PI
truly : (n c : ℕ) → 0 < c → lt pi (round binary64 false n c) ≡ true → P * c < n * Q
truly n c C g = go (ltb (P * c) (n * Q)) refl
  where
    go : (b : Bool) → ltb (P * c) (n * Q) ≡ b → P * c < n * Q
    go true e = ltb-true (P * c) (n * Q) e
    go false e =
        let at_most : T (le (round binary64 false n c) (round binary64 false P Q)) = round_mono binary64 n c P Q C (omega arith) (ltb-false (P * c) (n * Q) e) in
        absurd (true≢false (sym (below_at_least pi (round binary64 false n c) pi finite_pi.0 g (subst (λ (u : Float). T (le (round binary64 false n c) u)) round_pi at_most)) ∙ pi_itself))

-- ---- from p / a over q / b to r / c, in this order

module _ (p a q b r c : ℕ) (A : 0 < a) (B : 0 < b) (C : 0 < c) (pq : p * b ≤ q * a) (qr : q * c ≤ r * b) where
  in_order : p * c ≤ r * a
  in_order =
      let l : p * c * b < (r * a + 1) * b = omega (arith, mul-le-mul_right c pq, mul-le-mul_right a qr, B) in
      let m = lt_of_mul-lt-mul_right b l in
      omega (arith, m)

  first_inside : (q * a - p * b) * (c * a) ≤ (r * a - p * c) * (b * a)
  first_inside = inside (q * a - p * b) (r * a - p * c) (sub-add_cancel pq) (sub-add_cancel in_order)
    where
      inside : (u w : ℕ) → u + p * b ≡ q * a → w + p * c ≡ r * a → u * (c * a) ≤ w * (b * a)
      inside u w e f =
          let l : u * c ≤ w * b = omega (arith, ap (λ (z : ℕ). z * c) e, ap (λ (z : ℕ). z * b) f, mul-le-mul_right a qr) in
          omega (arith, mul-le-mul_right a l)

  last_inside : (r * b - q * c) * (c * a) ≤ (r * a - p * c) * (c * b)
  last_inside = inside (r * b - q * c) (r * a - p * c) (sub-add_cancel qr) (sub-add_cancel in_order)
    where
      inside : (v w : ℕ) → v + q * c ≡ r * b → w + p * c ≡ r * a → v * (c * a) ≤ w * (c * b)
      inside v w e f =
          let l : v * a ≤ w * b = omega (arith, ap (λ (z : ℕ). z * a) e, ap (λ (z : ℕ). z * b) f, mul-le-mul_right c pq) in
          omega (arith, mul-le-mul_right c l)

  -- two steps that are both beyond s / t lead beyond twice that
  one_beyond : (s t : ℕ) → s * (b * a) < (q * a - p * b) * t → s * (c * b) < (r * b - q * c) * t → r * t ≤ 2 * s * c → ⊥
  one_beyond s t = beyond (q * a - p * b) (r * b - q * c) (sub-add_cancel pq) (sub-add_cancel qr)
    where
      beyond : (u v : ℕ) → u + p * b ≡ q * a → v + q * c ≡ r * b → s * (b * a) < u * t → s * (c * b) < v * t → r * t ≤ 2 * s * c → ⊥
      beyond u v e f i j k =
          omega (arith, mul-lt-mul_of_pos_right i C, mul-lt-mul_of_pos_right j A, ap (λ (z : ℕ). z * (c * t)) e, ap (λ (z : ℕ). z * (a * t)) f, mul-le-mul_right (b * a) k)

ordered_size : (i j : ℕ) → j ≤ i → apart i j ≡ i - j
ordered_size i j h = omega (arith, h)

module _ {x y z : Float} {p a q b r c : ℕ} (g : Fraction x p a) (h : Fraction y q b) (k : Fraction z r c) (xy : lt y x ≡ false) (yz : lt z y ≡ false) where
  pq : p * b ≤ q * a
  pq = ltb-false (q * a) (p * b) (sym (order_is h g) ∙ xy)

  qr : q * c ≤ r * b
  qr = ltb-false (r * b) (q * c) (sym (order_is k h) ∙ yz)

  pr : p * c ≤ r * a
  pr = in_order p a q b r c (bottom_some g) (bottom_some h) (bottom_some k) pq qr

  first : abs_of (y ⊖ x) ≡ round binary64 false (q * a - p * b) (b * a)
  first = size_is g h ∙ ap (λ (n : ℕ). round binary64 false n (b * a)) (ordered_size (q * a) (p * b) pq)

  last : abs_of (z ⊖ y) ≡ round binary64 false (r * b - q * c) (c * b)
  last = size_is h k ∙ ap (λ (n : ℕ). round binary64 false n (c * b)) (ordered_size (r * b) (q * c) qr)

  whole : abs_of (z ⊖ x) ≡ round binary64 false (r * a - p * c) (c * a)
  whole = size_is g k ∙ ap (λ (n : ℕ). round binary64 false n (c * a)) (ordered_size (r * a) (p * c) pr)

  ba : 0 < b * a
  ba = mul-pos (bottom_some h) (bottom_some g)

  ca : 0 < c * a
  ca = mul-pos (bottom_some k) (bottom_some g)

  cb : 0 < c * b
  cb = mul-pos (bottom_some k) (bottom_some h)

  -- a step is beyond PI where its first or its last part is
  pub far_first : far x y ≡ true → far x z ≡ true
  far_first f = ap (lt pi) whole ∙ larger (q * a - p * b) (b * a) (r * a - p * c) (c * a) ba ca (first_inside p a q b r c (bottom_some g) (bottom_some h) (bottom_some k) pq qr) (sym (ap (lt pi) first) ∙ f)

  pub far_last : far y z ≡ true → far x z ≡ true
  far_last f = ap (lt pi) whole ∙ larger (r * b - q * c) (c * b) (r * a - p * c) (c * a) cb ca (last_inside p a q b r c (bottom_some g) (bottom_some h) (bottom_some k) pq qr) (sym (ap (lt pi) last) ∙ f)

  up_to : lt two_pi z ≡ false → r * Q ≤ 2 * P * c
  unfolding of_bits
  up_to t =
      let l : r * 140737488355328 ≤ P * 1 * c = ltb-false (P * 1 * c) (r * 140737488355328) (sym (order_is (some P (negsuc 46)) k) ∙ t) in
      omega (arith, l)

  -- its two parts are not both, if it ends at TWO_PI at most
  pub far_once : lt two_pi z ≡ false → far x y ≡ true → far y z ≡ true → ⊥
  far_once t f l =
      one_beyond p a q b r c (bottom_some g) (bottom_some h) (bottom_some k) pq qr P Q
      (truly (q * a - p * b) (b * a) ba (sym (ap (lt pi) first) ∙ f))
      (truly (r * b - q * c) (c * b) cb (sym (ap (lt pi) last) ∙ l))
      (up_to t)
