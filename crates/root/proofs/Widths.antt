-- How many binary digits a number has, by its bounds. Assumes nothing.
use Rattle.std.proofs.Common.{ℕ, ◌^◌, ◌<◌, ◌≤◌, le_trans, lt_of_not-le, not-le_of_lt, pow_mono}

pub top_below : (b j k : ℕ) → 2 ^ j ≤ b → b < 2 ^ k → j < k
top_below b j k g l = lt_of_not-le (λ (h : k ≤ j). not-le_of_lt l (le_trans (pow_mono h) g))
