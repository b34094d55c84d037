-- What the queries' answers come to by the arc that they were given.
use Prim.Native.Nat.{ℕ}
use mathlib.Core.Path.{◌≡◌, ap, ◌∙◌}
use Rattle.std.specs.declared.result.Result.{Result}
use Rattle.coo3d.specs.declared.Coo3D.{Coo3D}
use Rattle.domain.specs.Checks.{point_at, with_count}
use Rattle.refusal.specs.declared.Cause.{Cause}
use Rattle.refusal.specs.Answer.{Answer, answered, and_then, answer_of}
use Rattle.refusal.proofs.Answers.{then_assoc, then_same}
use Rattle.great_circles.specs.declared.Arc.{Arc}
use Rattle.great_circles.specs.Arcs.{west_of, east_of}
use Rattle.great_circles.specs.Queries.{arc_at, with_arc}

abbrev ends : Coo3D → Coo3D → Arc
ends p q = record { west = west_of p q; east = east_of p q }

pub given_arc : {A : Type 0} (count : ℕ) (a b : Coo3D) (arc : Result Arc Cause) (next : Arc → Answer A) → answer_of arc ≡ arc_at a b → with_count count (and_then (answer_of arc) next) ≡ with_arc count a b (λ p q. next (ends p q))
given_arc count a b arc next e =
    ap (with_count count)
    (ap (λ (x : Answer Arc). and_then x next) e
    ∙ then_assoc (point_at 0 a) (λ p. and_then (point_at 1 b) (λ q. answered (ends p q))) next
    ∙ then_same (point_at 0 a) (λ p. and_then (and_then (point_at 1 b) (λ q. answered (ends p q))) next) (λ p. and_then (point_at 1 b) (λ q. next (ends p q))) (λ p. then_assoc (point_at 1 b) (λ q. answered (ends p q)) next))
