-- Whole roots of whole numbers, and the fact that both roots of this crate rest on.
use Rattle.std.specs.Prelude.{◌≡◌, ℕ, zero, suc, ◌+◌, ◌-◌, ◌*◌, ◌/◌, ◌^◌, ◌<◌, ◌≤◌, cond, nat_le}

-- s is the whole part of the root of n, and r is what its square leaves
pub record IsRoot (n s r : ℕ) : Type 0 where
  pub square : s * s + r ≡ n
  pub small : r ≤ 2 * s

-- s, or s + 1 where its square is still within n
abbrev pub lift : ℕ → ℕ → ℕ
lift s n = cond (nat_le ((s + 1) * (s + 1)) n) (s + 1) s

-- the whole part of the root of an n below 4 ^ d, a binary digit at a time
unfoldable pub root_in : ℕ → ℕ → ℕ
root_in zero n = 0
root_in (suc d) n = lift (2 * root_in d (n / 4)) n

-- the whole number nearest to the root of an A below 2 ^ 106: half of the whole part of twice the root, rounded up
unfoldable pub near_root : ℕ → ℕ
unfolding root_in
near_root A = (root_in 54 (4 * A) + 1) / 2

-- ---- growing a root by a binary digit

-- The digit that follows those of s, where t is what is left, the number's next digit included: 1 where 2 s + 1, whose square is 4 s + 1 above that of
-- 2 s, is not too large.
abbrev pub next_digit : ℕ → ℕ → ℕ
next_digit s t = cond (nat_le (4 * s + 1) t) 1 0

-- As its number grows by a digit d in base four, a root grows by the binary digit `next_digit`.
abbrev pub Grows : Type 0
Grows = (n s r d : ℕ) → d < 4 → IsRoot n s r → IsRoot (4 * n + d) (2 * s + next_digit s (4 * r + d)) (4 * r + d - (4 * s + 1) * next_digit s (4 * r + d))

-- So `root_in` gives the root of every number of w digits in base four, whatever the width w.
abbrev pub EveryWidth : Type 0
EveryWidth = (w n : ℕ) → n < 4 ^ w → IsRoot n (root_in w n) (n - root_in w n * root_in w n)
