-- What the queries' answers come to by the parallel that they were given.
use mathlib.Core.Path.{◌≡◌, refl, ap, ◌∙◌}
use mathlib.Core.Bool.{Bool, true, false, not}
use mathlib.Core.List.{[]}
use lib.Ieee.{Float}
use Rattle.std.specs.declared.result.Result.{Result}
use Rattle.domain.specs.Checks.{with_count}
use Rattle.refusal.specs.declared.Cause.{Cause}
use Rattle.refusal.specs.Answer.{Answer, answered, refuse_if, and_then, answer_of}
use Rattle.parallels.specs.declared.Parallel.{Parallel}
use Rattle.parallels.specs.Parallels.{is_parallel}
use Rattle.parallels.specs.Queries.{parallel_at, with_parallel}
use Rattle.region.specs.View.{View}

tested : {A : Type 0} (b : Bool) (p : Parallel) (next : Parallel → Answer A) → and_then (refuse_if (not b) 5 [] (answered p)) next ≡ refuse_if (not b) 5 [] (next p)
tested true p next = refl
tested false p next = refl

pub given_parallel : {A : Type 0} (v : View) (lat sin cos : Float) (given : Result Parallel Cause) (next : Parallel → Answer A) → answer_of given ≡ parallel_at lat sin cos → with_count v.count (and_then (answer_of given) next) ≡ with_parallel v lat sin cos (next (record { lat = lat; sin = sin; cos = cos }))
given_parallel v lat sin cos given next e = ap (with_count v.count) (ap (λ (x : Answer Parallel). and_then x next) e ∙ tested (is_parallel lat sin cos) (record { lat = lat; sin = sin; cos = cos }) next)
