-- Where no call is refused, the arc's first answer is the head of its list, or none.
use mathlib.Core.Path.{◌≡◌}
use mathlib.Core.List.{List}
use lib.ListN.{take}
use Rattle.coo3d.specs.declared.UnitVect3.{UnitVect3}
use Rattle.crossings.proofs.First.{head_of_all}
use Rattle.domain.specs.Checks.{point_at}
use Rattle.domain.proofs.Counts.{count_passed}
use Rattle.refusal.specs.Answer.{Answer, answered, refused, and_then}
use Rattle.refusal.proofs.Answers.{never}
use Rattle.great_circles.specs.Queries.{arc_first_of, arc_all_of, arc_crossings, FirstIsHead}

-- two answers that go through the same tests
both : {A : Type 0} (x : Answer A) (f g : A → Answer (List UnitVect3)) (qs rs : List UnitVect3) → ((a : A) → f a ≡ answered qs → g a ≡ answered rs → qs ≡ take 1 rs) → and_then x f ≡ answered qs → and_then x g ≡ answered rs → qs ≡ take 1 rs
both (answered a) f g qs rs h p q = h a p q
both (refused n vs) f g qs rs h p q = never p

pub first_is_head : FirstIsHead
unfolding arc_first_of arc_all_of
first_is_head v a b qs rs p q =
    both (point_at 0 a) _ _ qs rs (λ x. both (point_at 1 b) _ _ qs rs (λ y. head_of_all (arc_crossings v x y) qs rs))
    (count_passed v.count _ qs p)
    (count_passed v.count _ rs q)
