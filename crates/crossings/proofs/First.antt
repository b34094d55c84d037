-- Laws of `first_of` for a loop that passes what edges give, tested, and what the first answer is to the list.
use mathlib.Core.Path.{◌≡◌, refl, sym, ap, ◌∙◌}
use mathlib.Core.Bool.{Bool, true, false, not, ◌&&◌}
use mathlib.Core.List.{List, [], ◌∷◌, ◌++◌}
use lib.ListN.{take}
use Rattle.std.proofs.Common.{map}
use Rattle.std.specs.declared.option.Option.{Option}
use Rattle.std.specs.declared.option.Option.TheVariants.{None, Some}
use Rattle.std.specs.declared.result.Result.{Result}
use Rattle.std.specs.declared.result.Result.TheVariants.{Ok, Err}
use Rattle.coo3d.specs.declared.UnitVect3.{UnitVect3}
use Rattle.coo3d.specs.Vectors.{is_finite_unit}
use Rattle.refusal.specs.declared.Cause.{Cause}
use Rattle.refusal.specs.Answer.{Answer, answered, refuse_if, and_then, answer_of}
use Rattle.refusal.proofs.Answers.{never, same_answer}
use Rattle.crossings.specs.Crossings.{first_answer, listed, tested_of, all_finite, all_of, first_of}
use Rattle.crossings.proofs.Turns.{points_of}

-- where neither is refused, the first answer is the head of the list, or none
pub head_of_all : (ps qs rs : List UnitVect3) → first_of ps ≡ answered qs → all_of ps ≡ answered rs → qs ≡ take 1 rs
unfolding first_of all_of all_finite
head_of_all [] qs rs f a = sym (same_answer f) ∙ ap (take 1) (same_answer a)
head_of_all (p ∷ ps) qs rs f a = go (is_finite_unit p) (all_finite ps) f a
  where
    go : (b d : Bool) → refuse_if (not b) 6 [] (answered (p ∷ [])) ≡ answered qs → refuse_if (not (b && d)) 6 [] (answered (p ∷ ps)) ≡ answered rs → qs ≡ take 1 rs
    go true true f a = sym (same_answer f) ∙ ap (take 1) (same_answer a)
    go true false f a = never a
    go false d f a = never f

-- ---- the first answer, by the test of the first edge's crossing

abbrev pub pick : Option UnitVect3 → Answer (List UnitVect3) → Answer (List UnitVect3)
pick None next = next
pick (Some p) next = answered (p ∷ [])

by_test : (c : Option UnitVect3) (rest : List UnitVect3) → first_of (listed c ++ rest) ≡ and_then (tested_of c) (λ d. pick d (first_of rest))
unfolding first_of
by_test None rest = refl
by_test (Some p) rest = go (is_finite_unit p)
  where
    go : (b : Bool) → refuse_if (not b) 6 [] (answered (p ∷ [])) ≡ and_then (refuse_if (not b) 6 [] (answered (Some p))) (λ d. pick d (first_of rest))
    go true = refl
    go false = refl

abbrev pub first_by : List (Answer (Option UnitVect3)) → Answer (List UnitVect3)
first_by [] = answered []
first_by (a ∷ rest) = and_then a (λ d. pick d (first_by rest))

pub first_is : (cs : List (Option UnitVect3)) → first_of (points_of cs) ≡ first_by (map tested_of cs)
unfolding first_of
first_is [] = refl
first_is (c ∷ cs) = by_test c (points_of cs) ∙ ap (λ (a : Answer (List UnitVect3)). and_then (tested_of c) (λ d. pick d a)) (first_is cs)

-- ---- a crossing that is the only one: what its test told is the answer

answer_is : (t : Result (Option UnitVect3) Cause) → first_answer t ≡ and_then (answer_of t) (λ d. answered (listed d))
answer_is (Ok None) = refl
answer_is (Ok (Some p)) = refl
answer_is (Err cause) = refl

only_is : (c : Option UnitVect3) → first_of (listed c) ≡ and_then (tested_of c) (λ d. answered (listed d))
unfolding first_of
only_is None = refl
only_is (Some p) = go (is_finite_unit p)
  where
    go : (b : Bool) → refuse_if (not b) 6 [] (answered (p ∷ [])) ≡ and_then (refuse_if (not b) 6 [] (answered (Some p))) (λ d. answered (listed d))
    go true = refl
    go false = refl

pub only_tested : (t : Result (Option UnitVect3) Cause) (c : Option UnitVect3) → answer_of t ≡ tested_of c → first_answer t ≡ first_of (listed c)
only_tested t c e = answer_is t ∙ rw (e, only_is c)
