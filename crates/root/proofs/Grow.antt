-- A whole root grows by a binary digit as its number grows by a digit in base four. Over numbers of any size. Assumes nothing.
use Rattle.std.proofs.Common.{◌≡◌, ℕ, zero, suc, ◌+◌, ◌-◌, ◌*◌, ◌^◌, ◌<◌, ◌≤◌, Bool, true, false, cond, not, T, leb, sym, refl, ap, ◌∙◌, subst, le_of_suc-le-suc, mul_comm, add-mul, mul-le-mul, le_antisymm, one-mul, lt_of_not-le, mul-one, mul-add, add-one, arith, leb→le}
use native.Mathlib.Nat.{mul-mul-mul_comm, pow-succ'}
use lib.Dec.{nleb→lt}
use Rattle.root.specs.Whole.{IsRoot, Grows}

pub next_square : (x : ℕ) → (x + 1) * (x + 1) ≡ x * x + 2 * x + 1
next_square x = simp (mul-add, add-mul, mul-one, one-mul) (omega arith)

pub sum_square : (x q : ℕ) → (x + q) * (x + q) ≡ x * x + 2 * (x * q) + q * q
sum_square x q = add-mul x q (x + q) ∙ omega (arith, mul-add x x q, mul-add q x q, mul_comm q x)

pub double_square : (s : ℕ) → (2 * s) * (2 * s) ≡ 4 * (s * s)
double_square s = mul-mul-mul_comm 2 s 2 s

module _ {n s r : ℕ} (d : ℕ) (h : IsRoot n s r) where
  -- the next digit is 0
  stays : 4 * r + d < 4 * s + 1 → IsRoot (4 * n + d) (2 * s) (4 * r + d)
  stays l = record { square = omega (arith, double_square s); small = omega arith }

  -- the next digit is 1
  lifts : d < 4 → 4 * s + 1 ≤ 4 * r + d → IsRoot (4 * n + d) (2 * s + 1) (4 * r + d - (4 * s + 1))
  lifts k l = record { square = omega (arith, double_square s, next_square (2 * s)); small = omega arith }

pub same_root : {n s r s' r' : ℕ} → s' ≡ s → r' ≡ r → IsRoot n s r → IsRoot n s' r'
same_root {n} {s} {r} {s'} {r'} p q h = subst (λ (a : ℕ). IsRoot n a r') (sym p) (subst (λ (a : ℕ). IsRoot n s a) (sym q) h)

pub grows : Grows
grows n s r d k h = go (leb (4 * s + 1) (4 * r + d)) (leb→le (4 * s + 1) (4 * r + d)) (nleb→lt (4 * s + 1) (4 * r + d))
  where
    go : (b : Bool) → (T b → 4 * s + 1 ≤ 4 * r + d) → (T (not b) → 4 * r + d < 4 * s + 1) → IsRoot (4 * n + d) (2 * s + cond b 1 0) (4 * r + d - (4 * s + 1) * cond b 1 0)
    go true p q = same_root (omega arith) (omega arith) (lifts d h k (p tt))
    go false p q = same_root (omega arith) (omega arith) (stays d h (q tt))

-- ---- a number has one whole root

pub squares_mono : {a b : ℕ} → a ≤ b → a * a ≤ b * b
squares_mono h = mul-le-mul h h

-- no larger number has its square within n
pub at_most : {n s r t : ℕ} → IsRoot n s r → t * t ≤ n → t ≤ s
at_most {n} {s} {r} {t} h p = le_of_suc-le-suc (lt_of_not-le (λ (g : suc s ≤ t). above (subst (λ (x : ℕ). x * x ≤ t * t) (sym (add-one s)) (squares_mono g))))
  where
    above : (s + 1) * (s + 1) ≤ t * t → ⊥
    above g = omega (arith, p, h.square, h.small, next_square s)

pub one_root : {n s r t q : ℕ} → IsRoot n s r → IsRoot n t q → s ≡ t
one_root h k = le_antisymm (at_most k (within h)) (at_most h (within k))
  where
    within : {n s r : ℕ} → IsRoot n s r → s * s ≤ n
    within {n} {s} {r} h = omega (arith, h.square)

-- ---- powers

pub pow_next : (b i : ℕ) → b ^ (i + 1) ≡ b * b ^ i
pow_next b i = ap (λ (x : ℕ). b ^ x) (add-one i) ∙ pow-succ' b i

pub four_pow : (h : ℕ) → 4 ^ h ≡ 2 ^ h * 2 ^ h
four_pow zero = refl
four_pow (suc h) =
    pow-succ' 4 h ∙ ap (λ (x : ℕ). 4 * x) (four_pow h) ∙ sym (double_square (2 ^ h)) ∙ ap (λ (x : ℕ). x * x) (sym (pow-succ' 2 h))
