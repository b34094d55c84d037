-- The sign of a rounded sum or difference is that of the exact one, for any doubles: each is a whole number of the smallest, so a sum that is not 0
-- is at least the smallest in size, and no rounding takes that to 0. A NaN, and so a difference of like infinities, is on neither side.
use Prim.Native.Nat.{ℕ, zero, suc, ◌+◌, ◌-◌, ◌*◌, ◌%◌, ◌^◌, ◌≤◌, ◌<◌}
use native.Mathlib.Nat.{le_of_suc-le-suc, le_of_lt, add_comm, add-zero, lt_of_not-le, not-le_of_lt, mul_assoc, mul_comm, mul-one, one-mul, mul_right_comm, zero-mul, mul-pos, sub-add_cancel, mul-le-mul_right, mul-lt-mul_of_pos_right, lt_of_mul-lt-mul_right}
use native.Mathlib.Omega.{arith}
use mathlib.Core.Path.{◌≡◌, refl, sym, ap, ◌∙◌}
use mathlib.Core.Bool.{Bool, true, false, not, ◌&&◌, cond, false≢true}
use borrow.Author.Tests.{ltb-true, ltb-false, lt-ltb, le-ltb}
use lib.Dec.{T, ltb, leb, eqb, leb→le}
use lib.IntN.{ℤ, pos, negsuc}
use lib.Pow.{pow-add, pow_pos, pow-lt}
use lib.Ieee.{Float, nan, inf, fin, Format, binary32, binary64, prec, emax, low, up, down, odd, units, round, sum, add, sub, neg, below, lt, fits, of_bits}
use lib.Ieee.Bits.{is_true}
use lib.Ieee.Fits.{down_pos, up_pos, round_is, and_l, and_r, neg-fits}
use lib.Ieee.Order.{round_mono}
use lib.Ieee.Positive.{positive, above, above_of_le, first_pos}
use Rattle.float.specs.Doubles.{◌⊕◌, ◌⊖◌, nought}
use Rattle.float.proofs.Finite.{zero_over, Signed, round_signed}

same_less : (a b c d : ℕ) → (a < b → c < d) → (c < d → a < b) → ltb a b ≡ ltb c d
same_less a b c d f g = go (ltb a b) (ltb c d) refl refl
  where
    go : (x y : Bool) → ltb a b ≡ x → ltb c d ≡ y → x ≡ y
    go true true p q = refl
    go true false p q = sym (lt-ltb c d (f (ltb-true a b p))) ∙ q
    go false true p q = sym p ∙ lt-ltb a b (g (ltb-true c d q))
    go false false p q = refl

-- ---- above and below 0

pub some_of : (m u : ℕ) → 0 < u → ltb 0 (m * u) ≡ ltb 0 m
some_of m u h = same_less 0 (m * u) 0 m (λ (k : 0 < m * u). first_pos m u k) (λ (k : 0 < m). mul-pos k h)

pub turned : (x y : Float) → lt (neg x) (neg y) ≡ lt y x
unfolding neg lt
turned nan nan = refl
turned nan (inf t) = refl
turned nan (fin t n d) = refl
turned (inf s) nan = refl
turned (inf true) (inf true) = refl
turned (inf true) (inf false) = refl
turned (inf false) (inf true) = refl
turned (inf false) (inf false) = refl
turned (inf true) (fin t n d) = refl
turned (inf false) (fin t n d) = refl
turned (fin s m e) nan = refl
turned (fin s m e) (inf true) = refl
turned (fin s m e) (inf false) = refl
turned (fin s m e) (fin t n d) = go s t (m * up e * down d) (n * up d * down e)
  where
    go : (s t : Bool) (a b : ℕ) → below (not s) a (not t) b ≡ below t b s a
    go true true a b = refl
    go true false a b = refl
    go false true a b = ap (ltb 0) (add_comm a b)
    go false false a b = refl

-- beyond either zero
pub above_zero : (s : Bool) (x : Float) → lt (fin s 0 (pos 0)) x ≡ above x
unfolding lt
above_zero s nan = refl
above_zero s (inf t) = refl
above_zero false (fin true m e) = refl
above_zero false (fin false m e) = rw (zero-mul (down e), mul-one (m * up e)) (some_of m (up e) (up_pos e))
above_zero true (fin true m e) = le-ltb (m * up e * 1) (0 * down e) (least (m * up e) (down e))
  where
    least : (a d : ℕ) → 0 * d ≤ a * 1
    least a d = omega arith
above_zero true (fin false m e) = ap (ltb 0) (whole (m * up e) (down e)) ∙ some_of m (up e) (up_pos e)
  where
    whole : (a d : ℕ) → 0 * d + a * 1 ≡ a
    whole a d = omega arith

pub above_nought : (x : Float) → lt nought x ≡ above x
unfolding of_bits
above_nought x = above_zero false x

pub below_nought : (x : Float) → lt x nought ≡ above (neg x)
unfolding neg of_bits
below_nought x = sym (turned nought x) ∙ above_zero true (neg x)

-- the opposite of what is below 0 is not
pub not_below : (x : Float) → lt x nought ≡ true → lt (neg x) nought ≡ false
unfolding neg lt of_bits
not_below nan h = refl
not_below (inf true) h = refl
not_below (inf false) h = absurd (false≢true h)
not_below (fin true m e) h = below_nought (fin false m e)
not_below (fin false m e) h = absurd (false≢true (sym (below_nought (fin false m e)) ∙ h))

-- ---- a finite value that the format holds is a whole number of its smallest, 2 ^ -low

pow_reflects : (i j : ℕ) → 2 ^ i ≤ 2 ^ j → i ≤ j
pow_reflects i j h = le_of_suc-le-suc (lt_of_not-le (λ (g : suc j ≤ i). not-le_of_lt (pow-lt g) h))

abbrev Whole : Format → ℕ → ℕ → Type 0
Whole f a c = (n : ℕ) × (a * 2 ^ low f ≡ n * c)

scaled : (f : Format) (m : ℕ) (e : ℤ) → down e ≤ 2 ^ low f → Whole f (m * up e) (down e)
scaled f m (pos k) h = (m * 2 ^ k * 2 ^ low f, sym (mul-one (m * 2 ^ k * 2 ^ low f)))
scaled f m (negsuc k) h = (
  m * 1 * 2 ^ (low f - suc k),
  ap (λ (z : ℕ). m * 1 * z) (sym (ap (λ (z : ℕ). 2 ^ z) (sub-add_cancel (pow_reflects (suc k) (low f) h))) ∙ pow-add 2 (low f - suc k) (suc k)) ∙ sym (mul_assoc (m * 1) (2 ^ (low f - suc k)) (2 ^ suc k)),
)

whole : (f : Format) (s : Bool) (m : ℕ) (e : ℤ) → T (fits f (fin s m e)) → Whole f (m * up e) (down e)
unfolding fits
whole f s zero e h = (0, simp zero-mul)
whole f s (suc m) e h =
    let a : Bool = eqb (suc m % 2) 1 && ltb (suc m) (2 ^ prec f) in
    let b : Bool = leb (down e) (2 ^ low f) in
    let c : Bool = ltb (suc m * up e) (2 ^ suc (emax f) * down e) in
    scaled f (suc m) e (leb→le (down e) (2 ^ low f) (and_r a b (and_l (a && b) c h)))

-- ---- what is rounded keeps its sign

units_neg : (f : Format) (s : Bool) (q k : ℕ) → neg (units f s q k) ≡ units f (not s) q k
unfolding units odd neg
units_neg f s zero k = go (ltb (zero * 2 ^ k) (2 ^ (low f + suc (emax f))))
  where
    go : (b : Bool) → neg (cond b (fin s zero (pos zero)) (inf s)) ≡ cond b (fin (not s) zero (pos zero)) (inf (not s))
    go true = refl
    go false = refl
units_neg f s (suc q) k = go (ltb (suc q * 2 ^ k) (2 ^ (low f + suc (emax f))))
  where
    go : (b : Bool) → neg (cond b (odd (suc (prec f)) s (suc q) k (low f)) (inf s)) ≡ cond b (odd (suc (prec f)) (not s) (suc q) k (low f)) (inf (not s))
    go true = refl
    go false = refl

pub round_neg : (f : Format) (s : Bool) (a c : ℕ) → neg (round f s a c) ≡ round f (not s) a c
round_neg f s a c = ap neg (round_is f s a c) ∙ units_neg f s _ _ ∙ sym (round_is f (not s) a c)

signed_below : (x : Float) → Signed true x → above x ≡ false
signed_below nan h = absurd h
signed_below (inf true) h = refl
signed_below (inf false) h = absurd (false≢true h)
signed_below (fin true m e) h = refl
signed_below (fin false m e) h = absurd (false≢true h)

pub round_below : (f : Format) (a c : ℕ) → above (round f true a c) ≡ false
round_below f a c = signed_below (round f true a c) (round_signed f true a c)

smallest : (f : Format) → T (positive (round f false 1 (2 ^ low f)))
unfolding round
smallest binary32 = tt
smallest binary64 = tt

round_above : (f : Format) (a c : ℕ) → 0 < c → (0 < a → c ≤ a * 2 ^ low f) → above (round f false a c) ≡ ltb 0 a
round_above f zero c C h = ap above (zero_over f false c C)
round_above f (suc a) c C h =
    let least : 1 * c ≤ suc a * 2 ^ low f = rw (one-mul c) (h (omega arith)) in
    is_true _ (above_of_le _ _ (smallest f) (round_mono f 1 (2 ^ low f) (suc a) c (pow_pos (low f)) C least)) ∙ sym (lt-ltb 0 (suc a) (omega arith))

pub round_turned : (f : Format) (a c : ℕ) → above (neg (round f false a c)) ≡ false
round_turned f a c = ap above (round_neg f false a c) ∙ round_below f a c

none : (l c : ℕ) → 0 * l ≡ 0 * c
none l c = omega arith

-- what is not 0 of a difference of whole numbers of the smallest is as large as that
apart : (l c a b n i j : ℕ) → n + a ≡ b → a * l ≡ i * c → b * l ≡ j * c → 0 < l → 0 < n → c ≤ n * l
apart l c a b n i j e g h L N =
    let less : i * c < j * c = omega (arith, mul-lt-mul_of_pos_right N L, ap (λ (z : ℕ). z * l) e) in
    let one : suc i * c ≤ j * c = mul-le-mul_right c (lt_of_mul-lt-mul_right c less) in
    omega (arith, one, ap (λ (z : ℕ). z * l) e)

-- a value that the format holds
pub held_above : (f : Format) (s : Bool) (m : ℕ) (e : ℤ) → T (fits f (fin s m e)) → above (round f false (m * up e) (down e)) ≡ ltb 0 m
held_above f s m e h =
    let w = whole f s m e h in
    round_above f (m * up e) (down e) (down_pos e) (apart (2 ^ low f) (down e) 0 (m * up e) (m * up e) 0 w.0 (add-zero (m * up e)) (none (2 ^ low f) (down e)) w.1 (pow_pos (low f))) ∙ some_of m (up e) (up_pos e)

-- ---- sums, of sizes a / c and b / c

module _ (f : Format) (a b c i j : ℕ) (C : 0 < c) (g : a * 2 ^ low f ≡ i * c) (h : b * 2 ^ low f ≡ j * c) where
  abbrev l : ℕ
  l = 2 ^ low f

  together : above (round f false (a + b) c) ≡ ltb 0 (a + b)
  together = round_above f (a + b) c C (apart l c 0 (a + b) (a + b) 0 (i + j) (omega arith) (none l c) (joined l g h) (pow_pos (low f)))
    where
      joined : (l : ℕ) → a * l ≡ i * c → b * l ≡ j * c → (a + b) * l ≡ (i + j) * c
      joined l g h = omega (arith, g, h)

  less : b ≤ a → above (round f false (a - b) c) ≡ ltb b a
  less k = round_above f (a - b) c C (apart l c b a (a - b) j i (sub-add_cancel k) h g (pow_pos (low f))) ∙ same_less 0 (a - b) b a (λ (p : 0 < a - b). omega arith) (λ (p : b < a). omega arith)

  more : a < b → above (round f false (b - a) c) ≡ true
  more k = round_above f (b - a) c C (apart l c a b (b - a) i j (sub-add_cancel (le_of_lt k)) g h (pow_pos (low f))) ∙ lt-ltb 0 (b - a) (omega arith)

  -- where a is not below b
  rest : b ≤ a → (y : Bool) → ltb b a ≡ y → (above (round f y (a - b) c) ≡ false) × (above (neg (round f y (a - b) c)) ≡ y)
  rest k true e = (round_below f (a - b) c, ap above (round_neg f true (a - b) c) ∙ less k ∙ e)
  rest k false e = (less k ∙ e, round_turned f (a - b) c)

  sum_signs : (s t : Bool) → (above (sum f s a t b c) ≡ below (not s) a t b) × (above (neg (sum f s a t b c)) ≡ below t b (not s) a)
  unfolding sum
  sum_signs false false = (together, round_turned f (a + b) c)
  sum_signs true true = (round_below f (a + b) c, ap above (round_neg f true (a + b) c) ∙ together ∙ ap (ltb 0) (add_comm a b))
  sum_signs false true = go (ltb a b) refl
    where
      go : (x : Bool) → ltb a b ≡ x → (above (cond x (round f true (b - a) c) (round f false (a - b) c)) ≡ ltb b a) × (above (neg (cond x (round f true (b - a) c) (round f false (a - b) c))) ≡ ltb a b)
      go true e = let k = ltb-true a b e in (round_below f (b - a) c ∙ sym (le-ltb b a (le_of_lt k)), ap above (round_neg f true (b - a) c) ∙ more k ∙ sym e)
      go false e = (less (ltb-false a b e), round_turned f (a - b) c ∙ sym e)
  sum_signs true false = go (ltb a b) refl
    where
      go : (x : Bool) → ltb a b ≡ x → (above (cond x (round f false (b - a) c) (round f (ltb b a) (a - b) c)) ≡ ltb a b) × (above (neg (cond x (round f false (b - a) c) (round f (ltb b a) (a - b) c))) ≡ ltb b a)
      go true e = let k = ltb-true a b e in (more k ∙ sym e, round_turned f (b - a) c ∙ sym (le-ltb b a (le_of_lt k)))
      go false e = let r = rest (ltb-false a b e) (ltb b a) refl in (r.0 ∙ sym e, r.1)

-- ---- sums and differences of doubles

scales : (a d e i l : ℕ) → a * l ≡ i * d → a * e * l ≡ i * (d * e)
scales a d e i l h = mul_right_comm a e l ∙ ap (λ (z : ℕ). z * e) h ∙ mul_assoc i d e

sum_sides : (x y : Float) → T (fits binary64 x) → T (fits binary64 y) → (above (x ⊕ y) ≡ lt (neg x) y) × (above (neg (x ⊕ y)) ≡ lt y (neg x))
unfolding add neg lt
sum_sides nan nan p q = (refl, refl)
sum_sides nan (inf t) p q = (refl, refl)
sum_sides nan (fin t n d) p q = (refl, refl)
sum_sides (inf s) nan p q = (refl, refl)
sum_sides (inf true) (inf true) p q = (refl, refl)
sum_sides (inf true) (inf false) p q = (refl, refl)
sum_sides (inf false) (inf true) p q = (refl, refl)
sum_sides (inf false) (inf false) p q = (refl, refl)
sum_sides (inf true) (fin t n d) p q = (refl, refl)
sum_sides (inf false) (fin t n d) p q = (refl, refl)
sum_sides (fin s m e) nan p q = (refl, refl)
sum_sides (fin s m e) (inf true) p q = (refl, refl)
sum_sides (fin s m e) (inf false) p q = (refl, refl)
sum_sides (fin s m e) (fin t n d) p q =
    let a = whole binary64 s m e p in
    let b = whole binary64 t n d q in
    let l = 2 ^ low binary64 in
    sum_signs binary64 (m * up e * down d) (n * up d * down e) (down e * down d) a.0 b.0 (mul-pos (down_pos e) (down_pos d)) (scales (m * up e) (down e) (down d) a.0 l a.1) (scales (n * up d) (down d) (down e) b.0 l b.1 ∙ ap (λ (z : ℕ). b.0 * z) (mul_comm (down d) (down e))) s t

module _ (x y : Float) (p : T (fits binary64 x)) (q : T (fits binary64 y)) where
  pub sum_above : lt nought (x ⊕ y) ≡ lt (neg x) y
  sum_above = above_nought (x ⊕ y) ∙ (sum_sides x y p q).0

  pub difference_above : lt nought (x ⊖ y) ≡ lt y x
  unfolding sub
  difference_above = above_nought (x ⊖ y) ∙ (sum_sides x (neg y) p (neg-fits binary64 y q)).0 ∙ turned x y

  pub difference_below : lt (x ⊖ y) nought ≡ lt x y
  unfolding sub
  difference_below = below_nought (x ⊖ y) ∙ (sum_sides x (neg y) p (neg-fits binary64 y q)).1 ∙ turned y x
