-- `root::by_digits` meets its contract. Assumes nothing.
use Rattle.std.proofs.Common.{◌≡◌, ℕ, ◌*◌, ◌/◌, ◌^◌, ◌<◌, subst, arith}
use Rattle.root.specs.Whole.{IsRoot}
use Rattle.root.proofs.Laws.{nearest_is}
use Rattle.root.proofs.by_digits.Goals as goal

-- the root of 54 digits
whole : (n s r : ℕ) → IsRoot (n * 1024 * 4 ^ 54 / 2 ^ 64) s r → IsRoot (4 * (n * 2 ^ 52)) s r
whole n s r h = subst (λ (q : ℕ). IsRoot q s r) plain h
  where
    plain : n * 1024 * 4 ^ 54 / 2 ^ 64 ≡ 4 * (n * 2 ^ 52)
    plain = omega arith

pub returns : goal.returns
returns c = nearest_is (below _ c.requires) (whole _ _ _ c.digits.ensures)
  where
    below : (n : ℕ) → n < 2 ^ 54 → n * 2 ^ 52 < 2 ^ 106
    below n h = omega arith
