-- `root::sqrt` meets its contract. Assumes nothing.
use Rattle.std.proofs.Common.{◌≡◌, ℕ, ◌+◌, ◌-◌, ◌*◌, ◌/◌, ◌%◌, ◌^◌, ◌<◌, ◌≤◌, true, T, sym, ap, ◌∙◌, subst, mod-eq_of_lt, arith}
use lib.Count.{count_leading_zeros}
use lib.Ieee.{Float, binary64, fits, of_bits, to_bits}
use lib.Ieee.Bits.{of_bits-to_bits, to_bits-lt}
use Rattle.float.proofs.Nan.{nan_read}
use Rattle.root.specs.Whole.{near_root}
use Rattle.root.specs.Root.{sqrt_of}
use Rattle.root.proofs.Bits.{of_nan, no_nan_bits, Shifted, shifted}
use Rattle.root.proofs.Units.{of_zero, of_minus_zero, of_top, of_negative, of_normal, of_subnormal, normal_units, root_is, under_infinity}
use Rattle.root.proofs.sqrt.Goals as goal
use Rattle.root.proofs.sqrt.Goals.{After-finite-2, Else-b-ge9218868437227405312, Then-b-lt9214364837600034816}

abbrev bits : Float → ℕ
bits a = to_bits binary64 a

-- the argument's pattern, read back, is the argument
back : (a : Float) → fits binary64 a ≡ true → of_bits binary64 (bits a) ≡ a
back a h = of_bits-to_bits binary64 a (subst T (sym h) tt)

in_range : (a : Float) → fits binary64 a ≡ true → bits a < 2 ^ 64
in_range a h = to_bits-lt binary64 a (subst T (sym h) tt)

-- the argument's pattern is that of a number above 0 and below 2 ^ -1022
low : (c : Else-b-ge9218868437227405312) → Shifted (bits c.args.a) (count_leading_zeros 64 (bits c.args.a))
low c = shifted (bits c.args.a) (omega arith) (omega (arith, in_range c.args.a c.well_formed.0.1))

itself : (a : Float) (b : ℕ) → of_bits binary64 b ≡ a → sqrt_of (of_bits binary64 b) ≡ of_bits binary64 b → a ≡ sqrt_of a
itself a b e h = subst (λ (x : Float). x ≡ sqrt_of x) e (sym h)

pub returns-then-is_nan : goal.returns-then-is_nan
returns-then-is_nan c = of_nan c.args.a (sym c.is_nan.ensures.value ∙ c.if-is_nan.true)

-- the argument's pattern is that of a positive number that is not subnormal
common : (c : Then-b-lt9214364837600034816) → (2 ^ 52 ≤ bits c.args.a) × (bits c.args.a < 2047 * 2 ^ 52)
common c = let l = in_range c.args.a c.well_formed.0.1 in (omega (arith, l), omega (arith, l))

pub overflow_add-b-then-b-lt9214364837600034816 : goal.overflow_add-b-then-b-lt9214364837600034816
overflow_add-b-then-b-lt9214364837600034816 c = record { fits = omega (arith, (common c).1) }

pub finite-requires : goal.finite-requires
finite-requires c = (omega arith, omega arith, omega (arith, (common c).1))

pub float_from_bits-result : goal.float_from_bits-result
float_from_bits-result c =
    let a = common (goal.at.float_from_bits-result c).Then-b-lt9214364837600034816 in
    let b = bits c.args.a in
    no_nan_bits c.finite.result
    (subst (λ (x : ℕ). x < 2047 * 2 ^ 52) (sym c.finite.ensures)
    (under_infinity ((2 ^ 52 + b % 2 ^ 52) * 2 ^ (b / 2 ^ 52 - 1)) (2 ^ 52 + b % 2 ^ 52) (b / 2 ^ 52 + 51) (normal_units b a.0) (omega arith) (omega arith) (omega (arith, a.1))))

pub returns-then-b-lt9214364837600034816 : goal.returns-then-b-lt9214364837600034816
returns-then-b-lt9214364837600034816 c =
    let a = common (goal.at.returns-then-b-lt9214364837600034816 c).Then-b-lt9214364837600034816 in
    let b = bits c.args.a in
    ap (λ (x : ℕ). of_bits binary64 x) c.finite.ensures
    ∙ root_is ((2 ^ 52 + b % 2 ^ 52) * 2 ^ (b / 2 ^ 52 - 1)) (2 ^ 52 + b % 2 ^ 52) (b / 2 ^ 52 + 51) (normal_units b a.0) (omega arith) (omega arith) (omega (arith, a.1))
    ∙ sym (ap sqrt_of (sym (back c.args.a c.well_formed.0.1)) ∙ of_normal b a.0 a.1)

pub returns-then-b-eq0 : goal.returns-then-b-eq0
returns-then-b-eq0 c = itself c.args.a 0 (ap (λ (b : ℕ). of_bits binary64 b) (sym c.if-b-eq0.true) ∙ back c.args.a c.well_formed.0.1) of_zero

pub returns-then-b : goal.returns-then-b
returns-then-b c = itself c.args.a 0x8000_0000_0000_0000 (ap (λ (b : ℕ). of_bits binary64 b) (sym c.if-b.true) ∙ back c.args.a c.well_formed.0.1) of_minus_zero

pub returns-then-b-gt9223372036854775808 : goal.returns-then-b-gt9223372036854775808
returns-then-b-gt9223372036854775808 c =
    let w = c.well_formed.0.1 in
    nan_read ∙ sym (ap sqrt_of (sym (back c.args.a w)) ∙ of_negative (bits c.args.a) c.if-b-gt9223372036854775808.true (in_range c.args.a w))

pub returns-then-b-ge9218868437227405312 : goal.returns-then-b-ge9218868437227405312
returns-then-b-ge9218868437227405312 c =
    itself c.args.a (bits c.args.a) (back c.args.a c.well_formed.0.1) (of_top (bits c.args.a) c.if-b-ge9218868437227405312.true (omega arith))

whole : {m : ℕ} → m < 2 ^ 53 → m % 2 ^ 64 ≡ m
whole h = mod-eq_of_lt (omega arith)

pub overflow_sub-m : goal.overflow_sub-m
overflow_sub-m c = (low c).low

pub overflow_add-m : goal.overflow_add-m
overflow_add-m c = record { fits = omega (arith, whole (low c).short, (low c).short) }

pub finite-requires-2 : goal.finite-requires-2
finite-requires-2 c = (subst (λ (x : ℕ). 2 ^ 52 ≤ x) (sym (whole (low c).short)) (low c).long, subst (λ (x : ℕ). x < 2 ^ 53) (sym (whole (low c).short)) (low c).short, omega arith)

-- the pattern that `finite` returns, of m that is not cut
abbrev pattern : ℕ → ℕ → ℕ
pattern m f = (f / 2 + 485) * 2 ^ 52 + near_root (m * 2 ^ (f % 2) * 2 ^ 52)

low_result : (c : After-finite-2) → let b = bits c.args.a in let z = count_leading_zeros 64 b in c.finite-2.result ≡ pattern (b * 2 ^ (z - 11)) (63 - z)
low_result c =
    let z = count_leading_zeros 64 (bits c.args.a) in
    c.finite-2.ensures ∙ ap (λ (m : ℕ). pattern m (63 - z)) (whole (low c.before).short)

pub float_from_bits-result-2 : goal.float_from_bits-result-2
float_from_bits-result-2 c =
    let b = bits c.args.a in
    let z = count_leading_zeros 64 b in
    let h = low (goal.at.float_from_bits-result-2 c).Else-b-ge9218868437227405312 in
    no_nan_bits c.finite-2.result (subst (λ (x : ℕ). x < 2047 * 2 ^ 52) (sym (low_result c)) (under_infinity b (b * 2 ^ (z - 11)) (63 - z) h.units h.long h.short (omega arith)))

pub returns : goal.returns
returns c =
    let b = bits c.args.a in
    let z = count_leading_zeros 64 b in
    let h = low (goal.at.returns c).Else-b-ge9218868437227405312 in
    ap (λ (x : ℕ). of_bits binary64 x) (low_result c)
    ∙ root_is b (b * 2 ^ (z - 11)) (63 - z) h.units h.long h.short (omega arith)
    ∙ sym (ap sqrt_of (sym (back c.args.a c.well_formed.0.1)) ∙ of_subnormal b (omega arith) (omega (arith, in_range c.args.a c.well_formed.0.1)))
