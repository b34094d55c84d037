-- `root::whole_root` meets its contract: by the tests of the guess, or by the root's digits. Assumes nothing.
use Rattle.std.proofs.Common.{◌≡◌, ℕ, ◌+◌, ◌-◌, ◌*◌, ◌/◌, ◌^◌, ◌<◌, ◌≤◌, subst, arith}
use Rattle.root.specs.Whole.{IsRoot}
use Rattle.root.proofs.Grow.{next_square}
use Rattle.root.proofs.WholeRoots.{is_whole_root}
use Rattle.root.proofs.whole_root.Goals as goal

-- k is the square of s
module _ (n s k : ℕ) (e : k ≡ s * s) (g : k ≤ n) where
  itself : n - k ≤ s * 2 → IsRoot n s (n - k)
  itself l = record { square = omega (arith, e); small = omega arith }

  one_more : s * 2 < n - k → n - k ≤ s * 4 + 3 → IsRoot n (s + 1) (n - k - (s * 2 + 1))
  one_more h l = record { square = omega (arith, e, next_square s); small = omega arith }

pub returns-then-remainder-root : goal.returns-then-remainder-root
returns-then-remainder-root c = is_whole_root _ (omega arith) (itself _ _ _ c.product-square.ensures c.if-square-n.true (omega arith))

pub returns-then-remainder-root-2 : goal.returns-then-remainder-root-2
returns-then-remainder-root-2 c = is_whole_root _ (omega arith) (one_more _ _ _ c.product-square.ensures c.if-square-n.true (omega arith) (omega arith))

pub returns : goal.returns
returns c = is_whole_root _ (omega arith) (whole c.digits.ensures)
  where
    same : (n : ℕ) → n * 4 ^ 32 / 2 ^ 64 ≡ n
    same n = omega arith

    whole : {n s r : ℕ} → IsRoot (n * 4 ^ 32 / 2 ^ 64) s r → IsRoot n s r
    whole {n} {s} {r} h = subst (λ (q : ℕ). IsRoot q s r) (same n) h
