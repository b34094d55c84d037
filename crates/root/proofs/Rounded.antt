-- The root of each finite f64 above zero is its rounded root: `sqrt_of a` is R * 2 ^ k and a is A * 2 ^ (2 k), with (2 R - 1) ^ 2 < 4 A < (2 R + 1) ^ 2. Assumes nothing.
use Rattle.std.proofs.Common.{◌≡◌, ℕ, zero, suc, ◌+◌, ◌-◌, ◌*◌, ◌/◌, ◌%◌, ◌^◌, ◌<◌, ◌≤◌, Bool, true, false, cond, not, T, eqb, ltb, leb, ◌⊎◌, ℤ, pos, negsuc, sym, refl, ap, ◌∙◌, subst, inl, inr, true≢false, le_of_suc-le-suc, mul-le-mul_right, mul_assoc, eq-zero-or-pos, le_antisymm, mul-lt-mul_of_pos_right, mul-pos, lt_of_not-le, mul_right_comm, arith, le→leb, ltb→lt, nltb→le, pow_pos, pow_mono, pow-add}
use native.Mathlib.Nat.{mul-mul-mul_comm, eq_of_mul-eq-mul_right, pow-succ'}
use lib.Count.{count_leading_zeros}
use lib.Ieee.{Float, nan, inf, fin, binary64, fits, odd, of_fields, of_bits, to_bits, size, up, down}
use lib.Ieee.Bits.{of_bits-to_bits, is_true}
use lib.Ieee.Positive.{positive}
use lib.Ieee.Fits.{down_pos}
use lib.Ieee.Exact.{HasValue}
use lib.Ieee.Nearest.{div_same}
use Rattle.root.specs.Root.{sqrt_of}
use Rattle.root.specs.Rounded.{Rounded, SqrtRounded, OneRounded}
use Rattle.root.proofs.Bits.{shifted}
use Rattle.root.proofs.Grow.{four_pow, squares_mono}
use Rattle.root.proofs.Units.{of_bits_is, clear, of_normal, of_subnormal, normal_value, subnormal_value, normal_units, units_rounded, rescale}

-- ---- by the bit pattern
pub normal_rounded : (b : ℕ) → 2 ^ 52 ≤ b → b < 2047 * 2 ^ 52 → Rounded (of_bits binary64 b) (sqrt_of (of_bits binary64 b))
normal_rounded b g l =
    let n : ℕ = (2 ^ 52 + b % 2 ^ 52) * 2 ^ (b / 2 ^ 52 - 1) in
    subst (λ (r : Float). Rounded (of_bits binary64 b) r) (sym (of_normal b g l))
    (units_rounded n (2 ^ 52 + b % 2 ^ 52) (b / 2 ^ 52 + 51) (normal_units b g) (omega arith) (omega arith) (omega arith) (of_bits binary64 b) (normal_value b g l))

pub subnormal_rounded : (b : ℕ) → 0 < b → b < 2 ^ 52 → Rounded (of_bits binary64 b) (sqrt_of (of_bits binary64 b))
subnormal_rounded b g l =
    let z = count_leading_zeros 64 b in
    let h = shifted b g l in
    subst (λ (r : Float). Rounded (of_bits binary64 b) r) (sym (of_subnormal b g l))
    (units_rounded b (b * 2 ^ (z - 11)) (63 - z) h.units h.long h.short (omega (arith, h.high)) (of_bits binary64 b) (subnormal_value b l))

-- ---- the patterns that are no number above zero
odd_negative : (d q k l : ℕ) → T (positive (odd d true q k l)) → ⊥
unfolding odd
odd_negative d zero k l p = p
odd_negative d (suc q) k l p = p

fields_negative : (x t : ℕ) → T (positive (of_fields binary64 true x t)) → ⊥
unfolding of_fields
fields_negative zero t p = odd_negative 53 t 0 1074 p
fields_negative (suc x) t p = go (eqb (suc x) 2047) (eqb t 0) p
  where
    go : (b d : Bool) → T (positive (cond b (cond d (inf true) nan) (odd 53 true (2 ^ 52 + t) x 1074))) → ⊥
    go true true p = p
    go true false p = p
    go false d p = odd_negative 53 (2 ^ 52 + t) x 1074 p

bits_negative : (b : ℕ) → 2 ^ 63 ≤ b → T (positive (of_bits binary64 b)) → ⊥
bits_negative b g p =
    fields_negative (b % 2 ^ 63 / 2 ^ 52) (b % 2 ^ 52)
    (subst (λ (x : Float). T (positive x)) (of_bits_is b ∙ ap (λ (s : Bool). of_fields binary64 s (b % 2 ^ 63 / 2 ^ 52) (b % 2 ^ 52)) (is_true (leb (2 ^ 63) b) (le→leb (2 ^ 63) b g))) p)

fields_top : (t : ℕ) → T (positive (of_fields binary64 false 2047 t)) → ⊥
unfolding of_fields
fields_top t p = go (eqb t 0) p
  where
    go : (b : Bool) → T (positive (cond b (inf false) nan)) → ⊥
    go true p = p
    go false p = p

bits_top : (b : ℕ) → 2047 * 2 ^ 52 ≤ b → b < 2 ^ 63 → T (positive (of_bits binary64 b)) → ⊥
bits_top b g l p = fields_top (b % 2 ^ 52) (subst (λ (x : Float). T (positive x)) (clear b l ∙ ap (λ (x : ℕ). of_fields binary64 false x (b % 2 ^ 52)) (field b g l)) p)
  where
    field : (b : ℕ) → 2047 * 2 ^ 52 ≤ b → b < 2 ^ 63 → b / 2 ^ 52 ≡ 2047
    field b g l = omega arith

bits_zero : T (positive (of_bits binary64 0)) → ⊥
unfolding of_bits
bits_zero p = p

below_or : (a b : ℕ) → (a < b) ⊎ (b ≤ a)
below_or a b = go (ltb a b) (ltb→lt a b) (nltb→le a b)
  where
    go : (t : Bool) → (T t → a < b) → (T (not t) → b ≤ a) → (a < b) ⊎ (b ≤ a)
    go true p q = inl (p tt)
    go false p q = inr (q tt)

bits_rounded : (b : ℕ) → T (positive (of_bits binary64 b)) → Rounded (of_bits binary64 b) (sqrt_of (of_bits binary64 b))
bits_rounded b p =
    elim (below_or b (2 ^ 52)) [
      | inl l ↦ elim (eq-zero-or-pos b) [ inl e ↦ absurd (bits_zero (subst (λ (x : ℕ). T (positive (of_bits binary64 x))) e p)) | inr g ↦ subnormal_rounded b g l ]
      | inr g ↦ elim (below_or b (2047 * 2 ^ 52)) [
        | inl l ↦ normal_rounded b g l
        | inr k ↦ elim (below_or b (2 ^ 63)) [ inl l ↦ absurd (bits_top b k l p) | inr k ↦ absurd (bits_negative b k p) ]
      ]
    ]

-- the two inequalities hold of `sqrt_of`
pub sqrt_rounded : SqrtRounded
sqrt_rounded a h p =
    let e = of_bits-to_bits binary64 a h in
    subst (λ (x : Float). Rounded x (sqrt_of x)) e (bits_rounded (to_bits binary64 a) (subst (λ (x : Float). T (positive x)) (sym e) p))

-- ---- a number has one rounded root

four_pos : (j : ℕ) → 0 < 4 ^ j
four_pos j = subst (λ (x : ℕ). 0 < x) (sym (four_pow j)) (mul-pos (pow_pos j) (pow_pos j))

four_mono : {i j : ℕ} → i ≤ j → 4 ^ i ≤ 4 ^ j
four_mono {i} {j} h = subst (λ (x : ℕ). x ≤ 4 ^ j) (sym (four_pow i)) (subst (λ (x : ℕ). 2 ^ i * 2 ^ i ≤ x) (sym (four_pow j)) (squares_mono (pow_mono h)))

-- the power of four is the larger number's
not_less : (A B i j : ℕ) → A < 2 ^ 106 → 2 ^ 104 ≤ B → A * 4 ^ i ≡ B * 4 ^ j → j ≤ i
not_less A B i j a b e = le_of_suc-le-suc (lt_of_not-le (λ (g : suc i ≤ j). no (4 ^ i) (4 ^ j) (mul-lt-mul_of_pos_right a (four_pos i)) (mul-le-mul_right (4 ^ j) b) (subst (λ (x : ℕ). x ≤ 4 ^ j) (pow-succ' 4 i) (four_mono g)) e))
  where
    no : (p q : ℕ) → A * p < 2 ^ 106 * p → 2 ^ 104 * q ≤ B * q → 4 * p ≤ q → A * p ≡ B * q → ⊥
    no p q k l g e = omega arith

-- the nearest whole root is one
at_most : (A R S : ℕ) → (2 * R - 1) * (2 * R - 1) < 4 * A → 4 * A < (2 * S + 1) * (2 * S + 1) → R ≤ S
at_most A R S h k = le_of_suc-le-suc (lt_of_not-le (λ (g : suc S ≤ R). no (squares_mono (up g))))
  where
    up : suc S ≤ R → 2 * S + 1 ≤ 2 * R - 1
    up g = omega arith

    no : (2 * S + 1) * (2 * S + 1) ≤ (2 * R - 1) * (2 * R - 1) → ⊥
    no g = omega arith

-- two fractions of one size
cross : (x : Float) (a c b d : ℕ) → HasValue x false a c → HasValue x false b d → a * d ≡ b * c
cross nan a c b d h k = absurd h
cross (inf s) a c b d h k = absurd h
cross (fin s m e) a c b d h k =
    eq_of_mul-eq-mul_right (down e) (down_pos e) (a * d) (b * c)
    (mul_right_comm a d (down e)
    ∙ ap (λ (y : ℕ). y * d) (sym h.1)
    ∙ mul_right_comm (m * up e) c d
    ∙ ap (λ (y : ℕ). y * c) k.1
    ∙ mul_right_comm b (down e) c)

-- two floats of one size are one, since each is read back from its pattern, which is made from the size
pattern_of : ℕ → ℕ
unfolding size
pattern_of n = 0 + (size n - 53) * 2 ^ 52 + n / 2 ^ (size n - 53)

bits_of : (m : ℕ) (e : ℤ) → to_bits binary64 (fin false m e) ≡ pattern_of (m * up e * 2 ^ 1074 / down e)
unfolding to_bits pattern_of
bits_of m e = refl

same_bits : (x y : Float) (a c : ℕ) → 0 < c → HasValue x false a c → HasValue y false a c → to_bits binary64 x ≡ to_bits binary64 y
same_bits nan y a c p h k = absurd h
same_bits (inf s) y a c p h k = absurd h
same_bits (fin s m e) nan a c p h k = absurd k
same_bits (fin s m e) (inf t) a c p h k = absurd k
same_bits (fin true m e) (fin t n g) a c p h k = absurd (true≢false h.0)
same_bits (fin false m e) (fin true n g) a c p h k = absurd (true≢false k.0)
same_bits (fin false m e) (fin false n g) a c p h k =
    let v : m * up e * down g ≡ n * up g * down e =
    eq_of_mul-eq-mul_right c p (m * up e * down g) (n * up g * down e)
    (mul_right_comm (m * up e) (down g) c
    ∙ ap (λ (y : ℕ). y * down g) h.1
    ∙ mul_right_comm a (down e) (down g)
    ∙ ap (λ (y : ℕ). y * down e) (sym k.1)
    ∙ mul_right_comm (n * up g) c (down e)) in
    let w : m * up e * 2 ^ 1074 * down g ≡ n * up g * 2 ^ 1074 * down e =
    mul_right_comm (m * up e) (2 ^ 1074) (down g) ∙ ap (λ (y : ℕ). y * 2 ^ 1074) v ∙ mul_right_comm (n * up g) (down e) (2 ^ 1074) in
    bits_of m e ∙ ap pattern_of (div_same (m * up e * 2 ^ 1074) (down e) (n * up g * 2 ^ 1074) (down g) (down_pos e) (down_pos g) w) ∙ sym (bits_of n g)

one_float : (x y : Float) (a c : ℕ) → 0 < c → T (fits binary64 x) → T (fits binary64 y) → HasValue x false a c → HasValue y false a c → x ≡ y
one_float x y a c p f g h k = sym (of_bits-to_bits binary64 x f) ∙ ap (λ (b : ℕ). of_bits binary64 b) (same_bits x y a c p h k) ∙ of_bits-to_bits binary64 y g

-- ---- 2 ^ k over the integers, as powers of whole exponents
up_exponent : ℤ → ℕ
up_exponent (pos n) = n
up_exponent (negsuc n) = 0

down_exponent : ℤ → ℕ
down_exponent (pos n) = 0
down_exponent (negsuc n) = suc n

up_is : (k : ℤ) → up k ≡ 2 ^ up_exponent k
unfolding up_exponent
up_is (pos n) = refl
up_is (negsuc n) = refl

down_is : (k : ℤ) → down k ≡ 2 ^ down_exponent k
unfolding down_exponent
down_is (pos n) = refl
down_is (negsuc n) = refl

-- 2 ^ (k - l) and its square, as fractions over whole numbers
scale_is : (k l : ℤ) → up k * down l ≡ 2 ^ (up_exponent k + down_exponent l)
scale_is k l = ap (λ (x : ℕ). x * down l) (up_is k) ∙ ap (λ (x : ℕ). 2 ^ up_exponent k * x) (down_is l) ∙ sym (pow-add 2 (up_exponent k) (down_exponent l))

four_is : (k l : ℤ) → up k * up k * (down l * down l) ≡ 4 ^ (up_exponent k + down_exponent l)
four_is k l = mul-mul-mul_comm (up k) (up k) (down l) (down l) ∙ ap (λ (x : ℕ). x * x) (scale_is k l) ∙ sym (four_pow (up_exponent k + down_exponent l))

pub one_rounded : OneRounded
one_rounded a r t p q (R, A, k, h) (S, B, l, g) =
    let i : ℕ = up_exponent k + down_exponent l in
    let j : ℕ = up_exponent l + down_exponent k in
    let v : A * 4 ^ i ≡ B * 4 ^ j =
    ap (λ (x : ℕ). A * x) (sym (four_is k l))
    ∙ sym (mul_assoc A (up k * up k) (down l * down l))
    ∙ cross a (A * (up k * up k)) (down k * down k) (B * (up l * up l)) (down l * down l) h.operand g.operand
    ∙ mul_assoc B (up l * up l) (down k * down k)
    ∙ ap (λ (x : ℕ). B * x) (four_is l k) in
    let e : i ≡ j = le_antisymm (not_less B A j i g.under h.from (sym v)) (not_less A B i j h.under g.from v) in
    let w : A ≡ B = eq_of_mul-eq-mul_right (4 ^ j) (four_pos j) A B (ap (λ (x : ℕ). A * 4 ^ x) (sym e) ∙ v) in
    let u : R ≡ S = le_antisymm (at_most A R S h.above (subst (λ (x : ℕ). 4 * x < (2 * S + 1) * (2 * S + 1)) (sym w) g.below)) (at_most A S R (subst (λ (x : ℕ). (2 * S - 1) * (2 * S - 1) < 4 * x) (sym w) g.above) h.below) in
    let z : S * up l * down k ≡ R * up k * down l =
    mul_assoc S (up l) (down k) ∙ ap (λ (x : ℕ). S * x) (scale_is l k ∙ ap (λ (x : ℕ). 2 ^ x) (sym e) ∙ sym (scale_is k l)) ∙ ap (λ (x : ℕ). x * (up k * down l)) (sym u) ∙ sym (mul_assoc R (up k) (down l)) in
    one_float r t (R * up k) (down k) (down_pos k) p q h.root (rescale t (S * up l) (down l) (R * up k) (down k) (down_pos l) z g.root)
