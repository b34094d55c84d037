-- Floats of binary64 by their bit patterns, and the root of a number of units. Assumes nothing.
use Rattle.std.proofs.Common.{◌≡◌, ℕ, zero, suc, ◌+◌, ◌-◌, ◌*◌, ◌/◌, ◌%◌, ◌^◌, ◌<◌, ◌≤◌, Bool, true, false, cond, T, eqb, leb, ◌⊎◌, ℤ, sym, refl, ap, ◌∙◌, subst, inl, inr, true≢false, le_trans, lt_of_lt_of_le, le_of_lt, lt_irrefl, mul-le-mul_right, mod-eq_of_lt, mul_assoc, mul_comm, le_antisymm, lt_of_mul-lt-mul_right, mul-lt-mul_of_pos_right, mul-pos, one-mul, lt_of_not-le, zero-mul, mul-one, mul_right_comm, not-le_of_lt, le_of_mul-le-mul_right, mul-div_cancel, mul_left_comm, arith, le→leb, eqb→eq, leb→le, pow_pos, pow_mono, pow-add}
use mathlib.Core.Bool.{false≢true}
use native.Mathlib.Nat.{mul-mul-mul_comm, eq_of_mul-eq-mul_right, div-eq_of_eq-mul_right}
use lib.Dec.{not_T}
use lib.Ieee.{Float, nan, inf, fin, binary64, up, down, minus, size, odd, of_fields, of_bits}
use lib.Ieee.Bits.{is_true, is_false, cond_no}
use lib.Ieee.Digits.{size-lt, size-le, minus_val}
use lib.Ieee.Fits.{down_pos}
use lib.Ieee.Exact.{HasValue, odd_sign}
use Rattle.root.specs.Whole.{near_root}
use Rattle.root.specs.Root.{root_units, sqrt_of}
use Rattle.root.specs.Rounded.{Rounded}
use Rattle.root.proofs.Grow.{pow_next, four_pow}
use Rattle.root.proofs.Laws.{near_range, near_root_lem}

-- ---- patterns with the sign clear, below the infinity's

pub of_bits_is : (b : ℕ) → of_bits binary64 b ≡ of_fields binary64 (leb (2 ^ 63) b) (b % 2 ^ 63 / 2 ^ 52) (b % 2 ^ 52)
unfolding of_bits
of_bits_is b = refl

under_ones : (s : Bool) (t x : ℕ) → suc x < 2047 → of_fields binary64 s (suc x) t ≡ odd 53 s (2 ^ 52 + t) x 1074
unfolding of_fields
under_ones s t x h = cond_no (eqb (suc x) 2047) (cond (eqb t 0) (inf s) nan) (odd 53 s (2 ^ 52 + t) x 1074) (not_T (eqb (suc x) 2047) (λ (u : T (eqb (suc x) 2047)). differ x h (eqb→eq (suc x) 2047 u)))
  where
    differ : (x : ℕ) → suc x < 2047 → suc x ≡ 2047 → ⊥
    differ x h e = omega arith

at_zero : (s : Bool) (t : ℕ) → of_fields binary64 s 0 t ≡ odd 53 s t 0 1074
unfolding of_fields
at_zero s t = refl

pub clear : (b : ℕ) → b < 2 ^ 63 → of_bits binary64 b ≡ of_fields binary64 false (b / 2 ^ 52) (b % 2 ^ 52)
clear b h =
    of_bits_is b
    ∙ ap (λ (s : Bool). of_fields binary64 s (b % 2 ^ 63 / 2 ^ 52) (b % 2 ^ 52)) (is_false (leb (2 ^ 63) b) (not_T (leb (2 ^ 63) b) (λ (u : T (leb (2 ^ 63) b)). not-le_of_lt h (leb→le (2 ^ 63) b u))))
    ∙ ap (λ (x : ℕ). of_fields binary64 false (x / 2 ^ 52) (b % 2 ^ 52)) (mod-eq_of_lt h)

pub normal : (b : ℕ) → 2 ^ 52 ≤ b → b < 2047 * 2 ^ 52 → of_bits binary64 b ≡ odd 53 false (2 ^ 52 + b % 2 ^ 52) (b / 2 ^ 52 - 1) 1074
normal b h k =
    clear b (omega arith)
    ∙ ap (λ (x : ℕ). of_fields binary64 false x (b % 2 ^ 52)) (sym (field b h))
    ∙ under_ones false (b % 2 ^ 52) (b / 2 ^ 52 - 1) (field_lt b h k)
  where
    field : (b : ℕ) → 2 ^ 52 ≤ b → suc (b / 2 ^ 52 - 1) ≡ b / 2 ^ 52
    field b h = omega arith

    field_lt : (b : ℕ) → 2 ^ 52 ≤ b → b < 2047 * 2 ^ 52 → suc (b / 2 ^ 52 - 1) < 2047
    field_lt b h k = omega arith

pub subnormal : (b : ℕ) → b < 2 ^ 52 → of_bits binary64 b ≡ odd 53 false b 0 1074
subnormal b h =
    clear b (omega arith)
    ∙ ap (λ (x : ℕ). of_fields binary64 false x (b % 2 ^ 52)) (none b h)
    ∙ ap (λ (t : ℕ). of_fields binary64 false 0 t) (mod-eq_of_lt h)
    ∙ at_zero false b
  where
    none : (b : ℕ) → b < 2 ^ 52 → b / 2 ^ 52 ≡ 0
    none b h = omega arith

-- ---- the root of n units

pub root_units_is : (n : ℕ) → root_units n ≡ odd 53 false (near_root (n * 2 ^ 106 / 4 ^ ((size n + 1) / 2))) ((size n + 1) / 2 + 484) 1074
unfolding root_units
root_units_is n = refl

-- zero is no number above 0
no_zero : (e : ℤ) (n c : ℕ) → 0 < n → zero * up e * c ≡ n * down e → ⊥
no_zero e n c p h = lt_irrefl 0 (subst (λ (x : ℕ). 0 < x) (sym h ∙ ap (λ (x : ℕ). x * c) (zero-mul (up e)) ∙ zero-mul c) (mul-pos p (down_pos e)))

-- a float that is n units has the root of n units
pub sqrt_units : (a : Float) (n : ℕ) → 0 < n → HasValue a false n (2 ^ 1074) → sqrt_of a ≡ root_units n
unfolding sqrt_of
sqrt_units nan n p h = absurd h
sqrt_units (inf s) n p h = absurd h
sqrt_units (fin true m e) n p h = absurd (true≢false h.0)
sqrt_units (fin false zero e) n p h = absurd (no_zero e n (2 ^ 1074) p h.1)
sqrt_units (fin false (suc m) e) n p h = ap root_units (ap (λ (x : ℕ). x / down e) h.1 ∙ mul-div_cancel n (down_pos e))

-- a float that is a / c is any equal fraction
pub rescale : (x : Float) (a c b d : ℕ) → 0 < c → a * d ≡ b * c → HasValue x false a c → HasValue x false b d
rescale nan a c b d p e h = h
rescale (inf s) a c b d p e h = h
rescale (fin s m g) a c b d p e h =
    (h.0, eq_of_mul-eq-mul_right c p (m * up g * d) (b * down g) (mul_right_comm (m * up g) d c ∙ ap (λ (x : ℕ). x * d) h.1 ∙ mul_right_comm a (down g) d ∙ ap (λ (x : ℕ). x * down g) e ∙ mul_right_comm b c (down g)))

-- where U / D is W / L, and n * L is A * W ^ 2: n / L is A * (U / D) ^ 2
squared : (n A L U D W : ℕ) → 0 < L → U * L ≡ W * D → n * L ≡ A * (W * W) → n * (D * D) ≡ A * (U * U) * L
squared n A L U D W p e h =
    eq_of_mul-eq-mul_right L p (n * (D * D)) (A * (U * U) * L)
    (mul_right_comm n (D * D) L
    ∙ ap (λ (x : ℕ). x * (D * D)) h
    ∙ mul_assoc A (W * W) (D * D)
    ∙ ap (λ (x : ℕ). A * x) (mul-mul-mul_comm W W D D ∙ ap (λ (x : ℕ). x * x) (sym e) ∙ mul-mul-mul_comm U L U L)
    ∙ sym (mul_assoc A (U * U) (L * L))
    ∙ sym (mul_assoc (A * (U * U)) L L))

-- n units are m * 2 ^ f / 2 ^ 52, with m of 53 digits
module _ (n m f : ℕ) (v : n * 2 ^ 52 ≡ m * 2 ^ f) (g : 2 ^ 52 ≤ m) (l : m < 2 ^ 53) (k : f ≤ 2097) where
  short : n < 2 ^ (f + 1)
  short = lt_of_mul-lt-mul_right (2 ^ 52) (subst (λ (x : ℕ). x < 2 ^ (f + 1) * 2 ^ 52) (sym v) (subst (λ (x : ℕ). m * 2 ^ f < x) (grow (2 ^ f) (pow_next 2 f)) (mul-lt-mul_of_pos_right l (pow_pos f))))
    where
      grow : (p : ℕ) → 2 ^ (f + 1) ≡ 2 * p → 2 ^ 53 * p ≡ 2 ^ (f + 1) * 2 ^ 52
      grow p e = omega arith

  long : 2 ^ f ≤ n
  long = le_of_mul-le-mul_right (subst (λ (x : ℕ). 2 ^ f * 2 ^ 52 ≤ x) (sym v) (subst (λ (x : ℕ). x ≤ m * 2 ^ f) (mul_comm (2 ^ 52) (2 ^ f)) (mul-le-mul_right (2 ^ f) g))) (pow_pos 52)

  sized : size n ≡ f + 1
  sized = le_antisymm (size-le n (f + 1) short) (over (lt_of_not-le (λ (k : size n ≤ f). lt_irrefl n (lt_of_lt_of_le (size-lt n) (le_trans (pow_mono k) long)))))
    where
      over : f < size n → f + 1 ≤ size n
      over k = omega arith

  half : (size n + 1) / 2 ≡ f / 2 + 1
  half = omega (arith, sized)

  split : 2 ^ f ≡ 4 ^ (f / 2) * 2 ^ (f % 2)
  split =
      ap (λ (x : ℕ). 2 ^ x) (whole f)
      ∙ pow-add 2 (f / 2 + f / 2) (f % 2)
      ∙ ap (λ (x : ℕ). x * 2 ^ (f % 2)) (pow-add 2 (f / 2) (f / 2) ∙ sym (four_pow (f / 2)))
    where
      whole : (f : ℕ) → f ≡ f / 2 + f / 2 + f % 2
      whole f = omega arith

  exact : n * 2 ^ 106 ≡ 4 ^ (f / 2 + 1) * (m * 2 ^ (f % 2) * 2 ^ 52)
  exact =
      let Q : ℕ = 4 ^ (f / 2) in
      let P : ℕ = 2 ^ (f % 2) in
      sym (mul_assoc n (2 ^ 52) (2 ^ 54))
      ∙ ap (λ (x : ℕ). x * 2 ^ 54) (v ∙ ap (λ (x : ℕ). m * x) split ∙ mul_left_comm m Q P)
      ∙ four (Q * (m * P))
      ∙ ap (λ (x : ℕ). 4 * x) (mul_assoc Q (m * P) (2 ^ 52))
      ∙ sym (mul_assoc 4 Q (m * P * 2 ^ 52))
      ∙ ap (λ (x : ℕ). x * (m * P * 2 ^ 52)) (sym (pow_next 4 (f / 2)))
    where
      four : (w : ℕ) → w * 2 ^ 54 ≡ 4 * (w * 2 ^ 52)
      four w = omega arith

  scaled : n * 2 ^ 106 / 4 ^ (f / 2 + 1) ≡ m * 2 ^ (f % 2) * 2 ^ 52
  scaled = div-eq_of_eq-mul_right (subst (λ (x : ℕ). 0 < x) (sym (four_pow (f / 2 + 1))) (mul-pos (pow_pos (f / 2 + 1)) (pow_pos (f / 2 + 1)))) exact

  -- m, or 2 m
  ways : (m * 2 ^ (f % 2) ≡ m) ⊎ (m * 2 ^ (f % 2) ≡ m * 2)
  ways = go (f % 2) (two f)
    where
      two : (f : ℕ) → f % 2 < 2
      two f = omega arith

      go : (x : ℕ) → x < 2 → (m * 2 ^ x ≡ m) ⊎ (m * 2 ^ x ≡ m * 2)
      go zero h = inl (mul-one m)
      go (suc zero) h = inr refl
      go (suc (suc x)) h = absurd (no x h)
        where
          no : (x : ℕ) → suc (suc x) < 2 → ⊥
          no x h = omega arith

  sizes : (2 ^ 104 ≤ m * 2 ^ (f % 2) * 2 ^ 52) × (m * 2 ^ (f % 2) * 2 ^ 52 ≤ 2 ^ 106 - 2 ^ 53)
  sizes = elim ways [ inl e ↦ (omega (arith, e), omega (arith, e)) | inr e ↦ (omega (arith, e), omega (arith, e)) ]

  range : (2 ^ 52 ≤ near_root (m * 2 ^ (f % 2) * 2 ^ 52)) × (near_root (m * 2 ^ (f % 2) * 2 ^ 52) < 2 ^ 53)
  range = near_range (m * 2 ^ (f % 2) * 2 ^ 52) sizes.0 sizes.1

  root_odd : root_units n ≡ odd 53 false (near_root (m * 2 ^ (f % 2) * 2 ^ 52)) (f / 2 + 1 + 484) 1074
  root_odd =
      root_units_is n
      ∙ ap (λ (j : ℕ). odd 53 false (near_root (n * 2 ^ 106 / 4 ^ j)) (j + 484) 1074) half
      ∙ ap (λ (A : ℕ). odd 53 false (near_root A) (f / 2 + 1 + 484) 1074) scaled

  pub root_is : of_bits binary64 ((f / 2 + 485) * 2 ^ 52 + near_root (m * 2 ^ (f % 2) * 2 ^ 52)) ≡ root_units n
  root_is =
      normal ((f / 2 + 485) * 2 ^ 52 + R) (omega (arith, range)) (omega (arith, range))
      ∙ ap (λ (q : ℕ). odd 53 false q (((f / 2 + 485) * 2 ^ 52 + R) / 2 ^ 52 - 1) 1074) digits
      ∙ ap (λ (x : ℕ). odd 53 false R x 1074) field
      ∙ sym root_odd
    where
      R : ℕ
      R = near_root (m * 2 ^ (f % 2) * 2 ^ 52)

      digits : 2 ^ 52 + ((f / 2 + 485) * 2 ^ 52 + R) % 2 ^ 52 ≡ R
      digits = omega (arith, range)

      field : ((f / 2 + 485) * 2 ^ 52 + R) / 2 ^ 52 - 1 ≡ f / 2 + 1 + 484
      field = omega (arith, range)

  -- the operand in units of 2 ^ -1074, by the root's power of two
  operand_units : n * 2 ^ 1074 ≡ m * 2 ^ (f % 2) * 2 ^ 52 * (2 ^ (f / 2 + 1 + 484) * 2 ^ (f / 2 + 1 + 484))
  operand_units =
      let j : ℕ = f / 2 + 1 in
      let A : ℕ = m * 2 ^ (f % 2) * 2 ^ 52 in
      sym (mul_assoc n (2 ^ 106) (2 ^ 968))
      ∙ ap (λ (x : ℕ). x * 2 ^ 968) (exact ∙ mul_comm (4 ^ j) A ∙ ap (λ (x : ℕ). A * x) (four_pow j))
      ∙ mul_assoc A (2 ^ j * 2 ^ j) (2 ^ 484 * 2 ^ 484)
      ∙ ap (λ (x : ℕ). A * x) (mul-mul-mul_comm (2 ^ j) (2 ^ j) (2 ^ 484) (2 ^ 484) ∙ ap (λ (x : ℕ). x * x) (sym (pow-add 2 j 484)))

  -- a float of n units, and its root
  pub units_rounded : (a : Float) → HasValue a false n (2 ^ 1074) → Rounded a (root_units n)
  units_rounded a h =
      let A : ℕ = m * 2 ^ (f % 2) * 2 ^ 52 in
      let R : ℕ = near_root A in
      let j : ℕ = f / 2 + 1 in
      let k : ℤ = minus (j + 484) 1074 in
      let near = near_root_lem A (omega (arith, sizes)) (omega (arith, sizes)) in
      let e : up k * 2 ^ 1074 ≡ 2 ^ (j + 484) * down k = ap (λ (x : ℕ). x * 2 ^ 1074) (sym (one-mul (up k))) ∙ minus_val 1 (j + 484) 1074 ∙ ap (λ (x : ℕ). x * down k) (one-mul (2 ^ (j + 484))) in (
        R,
        A,
        k,
        record {
          root = rescale (root_units n) (R * 2 ^ (j + 484)) (2 ^ 1074) (R * up k) (down k) (pow_pos 1074) (sym (minus_val R (j + 484) 1074)) (subst (λ (x : Float). HasValue x false (R * 2 ^ (j + 484)) (2 ^ 1074)) (sym root_odd) (odd_sign 53 false R (j + 484) 1074));
          least = range.0;
          most = range.1;
          operand = rescale a n (2 ^ 1074) (A * (up k * up k)) (down k * down k) (pow_pos 1074) (squared n A (2 ^ 1074) (up k) (down k) (2 ^ (j + 484)) (pow_pos 1074) e operand_units) h;
          from = sizes.0;
          under = omega (arith, sizes);
          above = near.0;
          below = near.1;
        },
      )

  pub under_infinity : (f / 2 + 485) * 2 ^ 52 + near_root (m * 2 ^ (f % 2) * 2 ^ 52) < 2047 * 2 ^ 52
  under_infinity = omega (arith, range)

-- ---- the patterns that the code answers at once

pub of_zero : sqrt_of (of_bits binary64 0) ≡ of_bits binary64 0
unfolding sqrt_of of_bits
of_zero = refl

pub of_minus_zero : sqrt_of (of_bits binary64 0x8000_0000_0000_0000) ≡ of_bits binary64 0x8000_0000_0000_0000
unfolding sqrt_of of_bits
of_minus_zero = refl

top_fields : (t : ℕ) → sqrt_of (of_fields binary64 false 2047 t) ≡ of_fields binary64 false 2047 t
unfolding sqrt_of of_fields
top_fields t = go (eqb t 0)
  where
    go : (b : Bool) → sqrt_of (cond b (inf false) nan) ≡ cond b (inf false) nan
    go true = refl
    go false = refl

pub of_top : (b : ℕ) → 2047 * 2 ^ 52 ≤ b → b < 2 ^ 63 → sqrt_of (of_bits binary64 b) ≡ of_bits binary64 b
of_top b g l =
    let e : of_bits binary64 b ≡ of_fields binary64 false 2047 (b % 2 ^ 52) = clear b l ∙ ap (λ (x : ℕ). of_fields binary64 false x (b % 2 ^ 52)) (field b g l) in
    ap sqrt_of e ∙ top_fields (b % 2 ^ 52) ∙ sym e
  where
    field : (b : ℕ) → 2047 * 2 ^ 52 ≤ b → b < 2 ^ 63 → b / 2 ^ 52 ≡ 2047
    field b g l = omega arith

below_zero : (a : Float) (n c : ℕ) → 0 < n → HasValue a true n c → sqrt_of a ≡ nan
unfolding sqrt_of
below_zero nan n c p h = refl
below_zero (inf s) n c p h = absurd h
below_zero (fin false m e) n c p h = absurd (false≢true h.0)
below_zero (fin true zero e) n c p h = absurd (no_zero e n c p h.1)
below_zero (fin true (suc m) e) n c p h = refl

negative_fields : (x t : ℕ) → 0 < x + t → sqrt_of (of_fields binary64 true x t) ≡ nan
unfolding sqrt_of of_fields
negative_fields zero t p = below_zero (odd 53 true t 0 1074) (t * 1) (2 ^ 1074) (omega arith) (odd_sign 53 true t 0 1074)
negative_fields (suc x) t p = go (eqb (suc x) 2047) (eqb t 0)
  where
    go : (b d : Bool) → sqrt_of (cond b (cond d (inf true) nan) (odd 53 true (2 ^ 52 + t) x 1074)) ≡ nan
    go true true = refl
    go true false = refl
    go false d = below_zero (odd 53 true (2 ^ 52 + t) x 1074) ((2 ^ 52 + t) * 2 ^ x) (2 ^ 1074) (mul-pos (omega arith) (pow_pos x)) (odd_sign 53 true (2 ^ 52 + t) x 1074)

pub of_negative : (b : ℕ) → 2 ^ 63 < b → b < 2 ^ 64 → sqrt_of (of_bits binary64 b) ≡ nan
of_negative b g l =
    ap sqrt_of (of_bits_is b ∙ ap (λ (s : Bool). of_fields binary64 s (b % 2 ^ 63 / 2 ^ 52) (b % 2 ^ 52)) (is_true (leb (2 ^ 63) b) (le→leb (2 ^ 63) b (le_of_lt g))))
    ∙ negative_fields (b % 2 ^ 63 / 2 ^ 52) (b % 2 ^ 52) (some b g l)
  where
    some : (b : ℕ) → 2 ^ 63 < b → b < 2 ^ 64 → 0 < b % 2 ^ 63 / 2 ^ 52 + b % 2 ^ 52
    some b g l = omega arith

-- ---- the root of a pattern that is a number above 0

pub normal_value : (b : ℕ) → 2 ^ 52 ≤ b → b < 2047 * 2 ^ 52 → HasValue (of_bits binary64 b) false ((2 ^ 52 + b % 2 ^ 52) * 2 ^ (b / 2 ^ 52 - 1)) (2 ^ 1074)
normal_value b g l =
    subst (λ (x : Float). HasValue x false ((2 ^ 52 + b % 2 ^ 52) * 2 ^ (b / 2 ^ 52 - 1)) (2 ^ 1074)) (sym (normal b g l)) (odd_sign 53 false (2 ^ 52 + b % 2 ^ 52) (b / 2 ^ 52 - 1) 1074)

pub subnormal_value : (b : ℕ) → b < 2 ^ 52 → HasValue (of_bits binary64 b) false b (2 ^ 1074)
subnormal_value b l =
    subst (λ (x : ℕ). HasValue (of_bits binary64 b) false x (2 ^ 1074)) (mul-one b)
    (subst (λ (x : Float). HasValue x false (b * 1) (2 ^ 1074)) (sym (subnormal b l)) (odd_sign 53 false b 0 1074))

pub of_normal : (b : ℕ) → 2 ^ 52 ≤ b → b < 2047 * 2 ^ 52 → sqrt_of (of_bits binary64 b) ≡ root_units ((2 ^ 52 + b % 2 ^ 52) * 2 ^ (b / 2 ^ 52 - 1))
of_normal b g l = sqrt_units (of_bits binary64 b) ((2 ^ 52 + b % 2 ^ 52) * 2 ^ (b / 2 ^ 52 - 1)) (mul-pos (omega arith) (pow_pos (b / 2 ^ 52 - 1))) (normal_value b g l)

pub of_subnormal : (b : ℕ) → 0 < b → b < 2 ^ 52 → sqrt_of (of_bits binary64 b) ≡ root_units b
of_subnormal b g l = sqrt_units (of_bits binary64 b) b g (subnormal_value b l)

pub normal_units : (b : ℕ) → 2 ^ 52 ≤ b → (2 ^ 52 + b % 2 ^ 52) * 2 ^ (b / 2 ^ 52 - 1) * 2 ^ 52 ≡ (2 ^ 52 + b % 2 ^ 52) * 2 ^ (b / 2 ^ 52 + 51)
normal_units b g =
    mul_assoc (2 ^ 52 + b % 2 ^ 52) (2 ^ (b / 2 ^ 52 - 1)) (2 ^ 52)
    ∙ ap (λ (x : ℕ). (2 ^ 52 + b % 2 ^ 52) * x) (sym (pow-add 2 (b / 2 ^ 52 - 1) 52) ∙ ap (λ (x : ℕ). 2 ^ x) (up_one b g))
  where
    up_one : (b : ℕ) → 2 ^ 52 ≤ b → b / 2 ^ 52 - 1 + 52 ≡ b / 2 ^ 52 + 51
    up_one b g = omega arith
