-- The loop's invariant: the root of the number's first 2 i digits, and the digits that follow them.
use Rattle.std.proofs.Common.{◌≡◌, ℕ, ◌*◌, ◌/◌, ◌%◌, ◌^◌, ◌<◌}
use Rattle.root.specs.Whole.{IsRoot}
use Rattle.root.proofs.digits.Given as goal

pub record State (n s r m i : ℕ) : Type 0 where
  pub short : s < 2 ^ i
  pub rooted : IsRoot (n * 4 ^ i / 2 ^ 64) s r
  pub rest : m ≡ n * 4 ^ i % 2 ^ 64

abbrev pub invariant-loop : goal.invariant-loop
invariant-loop l = State l.n l.root l.left l.rest l.counter
