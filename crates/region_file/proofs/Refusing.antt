-- What a call answers where a `?` hands a refusal on.
use mathlib.Core.Path.{◌≡◌}
use Rattle.std.specs.Prelude.{Result, ⊤}
use Rattle.std.specs.Result.{IsErrAnd}
use Rattle.std.proofs.lemmas.Result.{err_from_is_err_and}
use Rattle.refusal.specs.declared.Cause.{Cause}
use Rattle.refusal.specs.Answer.{Answer, refused_for, answer_of, outcome_of}

pub handed_on : {A : Type 0} (r : Result A Cause) (cause : Cause) (x : Answer A) → IsErrAnd r (λ e. e ≡ cause) → refused_for cause ≡ x → answer_of r ≡ x
handed_on r cause x h e = let p = err_from_is_err_and r h in rw (p.1, p.2) e

-- the same of an outcome, whatever stands beside it
pub handed_on_beside : {A : Type 0} (o : Result ⊤ Cause) (cause : Cause) (a : A) (x : Answer A) → IsErrAnd o (λ e. e ≡ cause) → refused_for cause ≡ x → outcome_of o a ≡ x
handed_on_beside o cause a x h e = let p = err_from_is_err_and o h in rw (p.1, p.2) e
