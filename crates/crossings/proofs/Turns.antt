-- What a region's edges that are left give for a curve, edge by edge.
use Prim.Native.Nat.{ℕ, ◌+◌, ◌-◌, ◌≤◌, ◌<◌}
use native.Mathlib.Omega.{arith}
use mathlib.Core.Path.{◌≡◌, refl, sym, ap, ◌∙◌}
use mathlib.Core.Bool.{Bool, true, false}
use mathlib.Core.List.{List, [], ◌∷◌, ◌++◌}
use lib.Dec.{eqb, ltb}
use lib.ListN.{length, take, get_or, length-take, drop_of_length-le}
use Rattle.std.proofs.Common.{map}
use Rattle.std.proofs.lemmas.List.{length-map}
use Rattle.std.specs.Iterator.{MakesProgress, item_count}
use Rattle.std.specs.declared.option.Option.{Option}
use Rattle.std.specs.declared.option.Option.TheVariants.{Some}
use Rattle.std.specs.declared.result.Result.{Result}
use Rattle.std.specs.declared.result.Result.TheVariants.{Ok, Err}
use Rattle.coo3d.specs.declared.UnitVect3.{UnitVect3}
use Rattle.domain.specs.Checks.{with_count}
use Rattle.domain.proofs.Counts.{count_in, count_answered, count_passed}
use Rattle.refusal.specs.declared.Cause.{Cause}
use Rattle.refusal.specs.Answer.{Answer, answered, refused, refuse_if, answer_of, and_then}
use Rattle.refusal.proofs.Answers.{never, same_answer}
use Rattle.region.specs.declared.Region.{Region}
use Rattle.region.specs.declared.Edge.{Edge}
use Rattle.region.specs.View.{View, view_of, nowhere, edges_from, edges_of}
use Rattle.region.proofs.Containing.{room}
use Rattle.region.proofs.Edges.{edges_left, edge_at, edges_length, start, turn}
use Rattle.crossings.specs.Crossings.{listed, crossings_of, given_of, given_from}

-- past the head: the count and the curve were taken
pub taken : {A C : Type 0} {n : ℕ} {curve : Result C Cause} {c : C} (next : C → Answer A) → (0 < n) × (n ≤ 64) → curve ≡ Ok c → with_count n (and_then (answer_of curve) next) ≡ next c
taken next few e = count_in _ _ few ∙ rw e

-- the points among what edges give
abbrev pub points_of : List (Option UnitVect3) → List UnitVect3
points_of [] = []
points_of (c ∷ cs) = listed c ++ points_of cs

points_are : (hit : Edge → Option UnitVect3) (es : List Edge) → crossings_of hit es ≡ points_of (map hit es)
unfolding crossings_of
points_are hit [] = refl
points_are hit (e ∷ es) = ap (λ (ps : List UnitVect3). listed (hit e) ++ ps) (points_are hit es)

-- an answer of the crossings, by what the edges give
pub by_points : {C A : Type 0} (hit : C → Edge → Option UnitVect3) (v : View) (curve : Result C Cause) (next : List UnitVect3 → Answer A)
    → with_count v.count (and_then (answer_of curve) (λ c. next (crossings_of (hit c) (edges_of v)))) ≡ and_then (given_of hit v curve) (λ cs. next (points_of cs))
by_points {C} {A} hit v curve next = go (eqb v.count 0) (ltb 64 v.count) (answer_of curve)
  where
    go : (b d : Bool) (a : Answer C) → refuse_if b 2 [] (refuse_if d 3 [] (and_then a (λ c. next (crossings_of (hit c) (edges_of v))))) ≡ and_then (refuse_if b 2 [] (refuse_if d 3 [] (and_then a (λ c. answered (map (hit c) (edges_of v)))))) (λ cs. next (points_of cs))
    go true d a = refl
    go false true a = refl
    go false false (answered c) = ap next (points_are (hit c) (edges_of v))
    go false false (refused n vs) = refl

-- there are at most 64 edges
pub few_given : {C : Type 0} (hit : C → Edge → Option UnitVect3) (r : Region) (curve : Result C Cause) (cs : List (Option UnitVect3)) → answered cs ≡ given_of hit (view_of r) curve → length cs ≤ 64
few_given {C = C} hit r curve cs e = go curve (count_passed r.count _ cs (sym e))
  where
    few : r.count ≤ 64
    few = (count_answered r.count _ cs (sym e)).1

    go : (curve : Result C Cause) → and_then (answer_of curve) (λ c. answered (map (hit c) (edges_of (view_of r)))) ≡ answered cs → length cs ≤ 64
    go (Ok c) q = rw (sym (same_answer q), length-map (edges_of (view_of r)) (hit c)) (omega (arith, few, edges_length r))
    go (Err cause) q = never q

module _ (hit : Edge → Option UnitVect3) (r : Region) (corners : length r.vertices ≡ 64) (normals : length r.cross_products ≡ 64) (few : r.count ≤ 64) where
  pub given_start : 0 < r.count → map hit (edges_of (view_of r)) ≡ given_from hit r (r.count - 1) 0
  unfolding given_from edges_left
  given_start some = ap (map hit) (start r some (room _ _ corners few))

  pub given_turn : (before i : ℕ) {c : Option UnitVect3} → i < r.count → c ≡ hit (edge_at r (get_or r.vertices before nowhere) i) → given_from hit r before i ≡ c ∷ given_from hit r i (i + 1)
  unfolding given_from edges_left
  given_turn before i below e = ap (map hit) (turn r (get_or r.vertices before nowhere) i (room _ _ corners few) (room _ _ normals few) below) ∙ rw e

pub given_none : (hit : Edge → Option UnitVect3) (r : Region) (before i : ℕ) → r.count ≤ i → given_from hit r before i ≡ []
unfolding given_from edges_from
given_none hit r before i passed = rw (drop_of_length-le (take r.count r.vertices) {i = i} (omega (arith, passed, length-take r.count r.vertices)))

-- a call that gave the first of them
pub goes : {A : Type 0} (can : List (Option UnitVect3) → Type 0) → ((l : List (Option UnitVect3)) → can l) → {cs rest : List (Option UnitVect3)} (x : A) (c : Option UnitVect3) → cs ≡ c ∷ rest → MakesProgress can (item_count (λ l. l)) cs (Some x) rest
goes can always {cs} {rest} x c e = record { on = λ _. (always rest, tt, rw e (omega arith)); keeps = always rest; rests = λ _. tt }
