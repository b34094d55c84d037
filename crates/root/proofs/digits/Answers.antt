-- `root::digits` meets its contract. Assumes nothing.
use Rattle.std.proofs.Common.{◌≡◌, ℕ, ◌+◌, ◌-◌, ◌*◌, ◌/◌, ◌%◌, ◌^◌, ◌<◌, ◌≤◌, ltb, sym, ap, ◌∙◌, subst, lt_of_lt_of_le, mul_left_comm, arith, pow_mono}
use mir.Val.{bool_byte}
use Rattle.root.specs.Whole.{IsRoot}
use Rattle.root.proofs.Grow.{grows, same_root, pow_next}
use Rattle.root.proofs.Test.{either_way, digit_is}
use Rattle.root.proofs.digits.Goals as goal
use Rattle.root.proofs.digits.Goals.{In-loop}
use Rattle.root.proofs.digits.Invariants.{State}

module _ {n s r m i : ℕ} (few : i ≤ 54) (h : State n s r m i) where
  low : s < 2 ^ 54
  low = lt_of_lt_of_le h.short (pow_mono few)

  -- what the next digit is taken of, and the digit
  abbrev t : ℕ
  t = r * 4 + m / 2 ^ 62

  abbrev bit : ℕ
  bit = bool_byte (ltb (s * 4) t)

  wide : t < 2 ^ 64
  wide = omega (arith, low, h.rooted.small, h.rest)

  within : (s * 4 + 1) * bit ≤ t
  within = either_way (λ (o : ℕ). (s * 4 + 1) * o ≤ t) (s * 4) t (λ (g : s * 4 < t). omega arith) (λ (g : t ≤ s * 4). omega arith)

  longer : s * 2 + bit < 2 * 2 ^ i
  longer = either_way (λ (o : ℕ). s * 2 + o < 2 * 2 ^ i) (s * 4) t (λ (g : s * 4 < t). omega (arith, h.short)) (λ (g : t ≤ s * 4). omega (arith, h.short))

  grown : n * 4 ^ (i + 1) ≡ 4 * (n * 4 ^ i)
  grown = ap (λ (q : ℕ). n * q) (pow_next 4 i) ∙ mul_left_comm n 4 (4 ^ i)

  next : IsRoot (4 * (n * 4 ^ i / 2 ^ 64) + m / 2 ^ 62) (s * 2 + bit) (t - (s * 4 + 1) * bit)
  next =
      subst (λ (o : ℕ). IsRoot (4 * (n * 4 ^ i / 2 ^ 64) + m / 2 ^ 62) (s * 2 + o) (t - (s * 4 + 1) * o)) (digit_is s t (4 * r + m / 2 ^ 62) (omega arith))
      (same_root (omega arith) (omega arith) (grows (n * 4 ^ i / 2 ^ 64) s r (m / 2 ^ 62) (omega (arith, h.rest)) h.rooted))

  again : State n (s * 2 + bit) (t - (s * 4 + 1) * bit) (m % 2 ^ 62 * 4) (i + 1)
  again = record {
    short = subst (λ (q : ℕ). s * 2 + bit < q) (sym (pow_next 2 i)) longer;
    rooted = subst (λ (q : ℕ). IsRoot q (s * 2 + bit) (t - (s * 4 + 1) * bit)) (digits (n * 4 ^ i) (n * 4 ^ (i + 1)) m grown h.rest) next;
    rest = follow (n * 4 ^ i) (n * 4 ^ (i + 1)) m grown h.rest;
  }
    where
      digits : (p q m : ℕ) → q ≡ 4 * p → m ≡ p % 2 ^ 64 → 4 * (p / 2 ^ 64) + m / 2 ^ 62 ≡ q / 2 ^ 64
      digits p q m a b = omega arith

      follow : (p q m : ℕ) → q ≡ 4 * p → m ≡ p % 2 ^ 64 → m % 2 ^ 62 * 4 ≡ q % 2 ^ 64
      follow p q m a b = omega arith

few_digits : (c : In-loop) → c.loop.counter ≤ 54
few_digits c = omega arith

start : (n : ℕ) → n < 2 ^ 64 → State n 0 0 n 0
start n l = record { short = omega arith; rooted = record { square = omega arith; small = omega arith }; rest = omega arith }

pub overflow_mul-t : goal.overflow_mul-t
overflow_mul-t c = record { fits = omega (arith, wide (few_digits c) c.loop.invariant) }

pub overflow_add-t : goal.overflow_add-t
overflow_add-t c = record { fits = wide (few_digits c) c.loop.invariant }

pub overflow_mul-o : goal.overflow_mul-o
overflow_mul-o c = record { fits = omega (arith, low (few_digits c) c.loop.invariant) }

pub overflow_mul-left : goal.overflow_mul-left
overflow_mul-left c = record { fits = omega (arith, low (few_digits c) c.loop.invariant) }

pub overflow_add-left : goal.overflow_add-left
overflow_add-left c = record { fits = omega (arith, low (few_digits c) c.loop.invariant) }

pub overflow_mul-left-in-loop : goal.overflow_mul-left-in-loop
overflow_mul-left-in-loop c = record { fits = omega (arith, within (few_digits c) c.loop.invariant, wide (few_digits c) c.loop.invariant) }

pub loop-preserved : goal.loop-preserved
loop-preserved c = again (few_digits c) c.loop.invariant
