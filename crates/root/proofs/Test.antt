-- A test as a number, 1 where it holds and 0 where not: what holds at both holds at the test's. Assumes nothing.
use Rattle.std.proofs.Common.{◌≡◌, ℕ, ◌+◌, ◌*◌, ◌<◌, ◌≤◌, Bool, true, false, cond, not, T, ltb, ap, arith, ltb→lt, nltb→le, le-leb}
use mir.Val.{bool_byte}
use borrow.Author.Tests.{lt-leb}
use Rattle.root.specs.Whole.{next_digit}

pub either_way : (P : ℕ → Type 0) (x y : ℕ) → (x < y → P 1) → (y ≤ x → P 0) → P (bool_byte (ltb x y))
either_way P x y one none = go (ltb x y) (ltb→lt x y) (nltb→le x y)
  where
    go : (b : Bool) → (T b → x < y) → (T (not b) → y ≤ x) → P (bool_byte b)
    go true p q = one (p tt)
    go false p q = none (q tt)

-- the digit as the code has it
pub digit_is : (s t u : ℕ) → t ≡ u → next_digit s u ≡ bool_byte (ltb (s * 4) t)
digit_is s t u e = either_way (λ (o : ℕ). next_digit s u ≡ o) (s * 4) t (λ (g : s * 4 < t). at_one (omega arith)) (λ (g : t ≤ s * 4). at_none (omega arith))
  where
    at_one : 4 * s + 1 ≤ u → next_digit s u ≡ 1
    at_one g = ap (λ (b : Bool). cond b 1 0) (le-leb (4 * s + 1) u g)

    at_none : u < 4 * s + 1 → next_digit s u ≡ 0
    at_none g = ap (λ (b : Bool). cond b 1 0) (lt-leb (4 * s + 1) u g)
