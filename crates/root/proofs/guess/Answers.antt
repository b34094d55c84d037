-- `root::guess` meets its contract, which says nothing: no step wraps around by mistake. Assumes nothing.
use Rattle.std.proofs.Common.{◌≡◌, ℕ, suc, ◌+◌, ◌-◌, ◌*◌, ◌/◌, ◌%◌, ◌^◌, ◌<◌, ◌≤◌, sym, subst, le_trans, mul-le-mul_right, arith, pow-add, pow_mono, shl_exact}
use native.Mathlib.Nat.{pow-succ'}
use lib.Count.{count_leading_zeros, leading_top}
use Rattle.root.proofs.Widths.{top_below}
use Rattle.root.proofs.guess.Goals as goal

-- half of a number has a leading zero
leads : (n : ℕ) → 256 ≤ n → n < 2 ^ 64 → 1 ≤ count_leading_zeros 64 (n / 2)
leads n g l = let t = leading_top 64 (n / 2) (omega arith) (omega arith) in omega (arith, t.1, top_below (n / 2) t.0 63 t.2 (omega arith))

-- shifted up by its zeros but for the last, or the last two, a number has its first digit among the two highest
highest : (n z j : ℕ) → z + suc j ≡ 64 → 1 ≤ z → 2 ^ j ≤ n / 2 → n / 2 < 2 ^ suc j → 16 ≤ n * 2 ^ ((z - 1) / 2 * 2) % 2 ^ 64 / 2 ^ 58
highest n z j e p g l = omega (arith, long, exact)
  where
    i : ℕ
    i = (z - 1) / 2 * 2

    long : 2 ^ 62 ≤ n * 2 ^ i
    long = le_trans (pow_mono {i = 62} {j = suc j + i} (omega arith)) (subst (λ (x : ℕ). x ≤ n * 2 ^ i) (sym (pow-add 2 (suc j) i)) (mul-le-mul_right (2 ^ i) (omega (arith, pow-succ' 2 j))))

    exact : n * 2 ^ i % 2 ^ 64 ≡ n * 2 ^ i
    exact = shl_exact (suc (suc j)) i 64 (omega (arith, pow-succ' 2 (suc j))) (omega arith)

pub overflow_sub-up : goal.overflow_sub-up
overflow_sub-up c = leads c.args.n (omega arith) (omega arith)

pub overflow_sub-c : goal.overflow_sub-c
overflow_sub-c c = let t = leading_top 64 (c.args.n / 2) (omega arith) (omega arith) in highest c.args.n _ t.0 t.1 (leads c.args.n (omega arith) (omega arith)) t.2 t.3
