-- `doors::code` meets its contract. Assumes nothing. The check finds it; without it a wrong edit is refused only where its search ends.
use Prim.Native.Nat.{ℕ, ◌+◌}
use mathlib.Core.Path.{sym, ap, ◌∙◌}
use Rattle.std.specs.Prelude.{Result}
use Rattle.refusal.specs.declared.Cause.{Cause}
use Rattle.refusal.specs.Answer.{answer_of}
use Rattle.doors.specs.Doors.{code_of}
use Rattle.doors.proofs.code.Goals as goal

pub returns-in-Err : goal.returns-in-Err
returns-in-Err c = ap (λ (n : ℕ). 16 + n) c.number.ensures ∙ ap (λ (r : Result ℕ Cause). code_of (λ n. n) (answer_of r)) (sym c.in-Err.is)
