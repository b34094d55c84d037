-- `edits::removable` meets its contract. Assumes nothing.
use Prim.Native.Nat.{ℕ, zero, suc, ◌≤◌, ◌<◌}
use native.Mathlib.Omega.{arith}
use mathlib.Core.Path.{◌≡◌, refl}
use mathlib.Core.Bool.{false, not}
use mathlib.Core.List.{[]}
use borrow.Author.Tests.{ne_eqb, le-ltb, lt-ltb}
use borrow.Author.Rules.{rules}
use lib.Dec.{eqb, ltb}
use Rattle.domain.specs.Checks.{with_count}
use Rattle.domain.proofs.Counts.{count_in, count_refused}
use Rattle.refusal.specs.Answer.{Answer, refused, refuse_if, answered}
use Rattle.edits.specs.Edits.{Edit, checked, remove}
use Rattle.edits.proofs.removable.Goals as goal

-- a count of 0 or 1
too_few : (n : ℕ) (next : Answer Edit) → n ≤ 1 → refused 2 [] ≡ with_count n (refuse_if (eqb n 1) 2 [] next)
too_few zero next h = refl
too_few (suc zero) next h = refl
too_few (suc (suc n)) next h = absurd (omega (arith, h))

several : (n : ℕ) → 1 < n → eqb n 1 ≡ false
several n h = ne_eqb n 1 (λ (z : n ≡ 1). omega (arith, h, z))

pub returns-then-count-le1-clause-answer : goal.returns-then-count-le1-clause-answer
unfolding checked
returns-then-count-le1-clause-answer c = too_few _ _ c.if-count-le1.true

pub returns-in_err-check_count-clause-answer : goal.returns-in_err-check_count-clause-answer
unfolding checked
returns-in_err-check_count-clause-answer c = let t = count_refused c.args.count tt (refuse_if (eqb c.args.count 1) 2 [] (refuse_if (not (ltb c.args.i c.args.count)) 4 [] (answered (remove c.args.i)))) c.in_err-check_count.ensures.answer in search (rules, t)

pub returns-then-i-count-clause-answer : goal.returns-then-i-count-clause-answer
unfolding checked
returns-then-i-count-clause-answer c = rw (count_in _ _ c.in_ok-check_count.ensures.few, several _ c.if-count-le1.false, le-ltb _ _ c.if-i-count.true)

pub returns-clause-answer : goal.returns-clause-answer
unfolding checked
returns-clause-answer c = rw (count_in _ _ c.in_ok-check_count.ensures.few, several _ c.if-count-le1.false, lt-ltb _ _ c.if-i-count.false)
