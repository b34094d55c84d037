-- Laws of `all_of` for a loop that passes what edges give, tested, and stores it: its start, a turn, and what it answers.
use Prim.Native.Nat.{suc, ◌+◌, ◌-◌, ◌≤◌, ◌<◌}
use native.Mathlib.Omega.{arith}
use mathlib.Core.Path.{◌≡◌, refl, sym, ap, ◌∙◌}
use mathlib.Core.Bool.{Bool, true, false, not, ◌&&◌}
use mathlib.Core.List.{List, [], ◌∷◌, ◌++◌, append_assoc, append-nil}
use lib.ListN.{length, set, replicate, length-append}
use lib.Seq.{set-append_seam}
use Rattle.std.proofs.Common.{map}
use Rattle.std.proofs.lemmas.List.{length-map}
use Rattle.std.specs.declared.option.Option.{Option}
use Rattle.std.specs.declared.option.Option.TheVariants.{None, Some}
use Rattle.std.specs.declared.result.Result.{Result}
use Rattle.std.specs.declared.result.Result.TheVariants.{Ok, Err}
use Rattle.coo3d.specs.declared.UnitVect3.{UnitVect3}
use Rattle.coo3d.specs.Vectors.{is_finite_unit}
use Rattle.refusal.specs.declared.Cause.{Cause}
use Rattle.refusal.specs.Answer.{Answer, answered, refused, refused_for, refuse_if, and_then, answer_of}
use Rattle.refusal.proofs.Answers.{never, then_answered, then_assoc, then_same}
use Rattle.crossings.specs.declared.Crossings.{Crossings}
use Rattle.crossings.specs.declared.AllAnswer.{AllAnswer}
use Rattle.crossings.specs.Crossings.{listed, tested_of, all_finite, all_of, zero3, list_of, Lists}
use Rattle.crossings.proofs.Turns.{points_of}

-- the list, by the test of the first edge's crossing
by_test : (c : Option UnitVect3) (rest : List UnitVect3) → all_of (listed c ++ rest) ≡ and_then (tested_of c) (λ d. and_then (all_of rest) (λ qs. answered (listed d ++ qs)))
unfolding all_of all_finite
by_test None rest = sym (then_answered (all_of rest))
by_test (Some p) rest = go (is_finite_unit p) (all_finite rest)
  where
    go : (b d : Bool) → refuse_if (not (b && d)) 6 [] (answered (p ∷ rest)) ≡ and_then (refuse_if (not b) 6 [] (answered (Some p))) (λ c. and_then (refuse_if (not d) 6 [] (answered rest)) (λ qs. answered (listed c ++ qs)))
    go true true = refl
    go true false = refl
    go false d = refl

-- a point stored behind the others
stored_behind : (ps : List UnitVect3) (p : UnitVect3) → length ps < 64 → record { points = set (list_of ps).points (list_of ps).len p; len = (list_of ps).len + 1 } ≡ list_of (ps ++ (p ∷ []))
unfolding list_of
stored_behind ps p h =
    let e : 64 - length ps ≡ suc (64 - (length ps + 1)) = omega arith in
    rw (e, set-append_seam ps zero3 (replicate (64 - (length ps + 1)) zero3) p, length-append, append_assoc)

abbrev pub all_by : List (Answer (Option UnitVect3)) → Answer (List UnitVect3)
all_by [] = answered []
all_by (a ∷ rest) = and_then a (λ d. and_then (all_by rest) (λ qs. answered (listed d ++ qs)))

all_is : (cs : List (Option UnitVect3)) → all_of (points_of cs) ≡ all_by (map tested_of cs)
unfolding all_of all_finite
all_is [] = refl
all_is (c ∷ cs) = by_test c (points_of cs) ∙ ap (λ (a : Answer (List UnitVect3)). and_then (tested_of c) (λ d. and_then a (λ qs. answered (listed d ++ qs)))) (all_is cs)

-- the points so far, before those of what is left of all
pub record Gathered (all left : List (Option UnitVect3)) (found : Crossings) : Type 0 where
  pub points : List UnitVect3
  pub few : length points + length left ≤ 64
  pub stored : found ≡ list_of points
  pub same : all_of (points_of all) ≡ and_then (all_by (map tested_of left)) (λ qs. answered (points ++ qs))

pub gathered_start : {all : List (Option UnitVect3)} {found : Crossings} → length all ≤ 64 → found ≡ list_of [] → Gathered all all found
gathered_start {all} few s = record { points = []; few = omega (arith, few); stored = s; same = all_is all ∙ sym (then_answered (all_by (map tested_of all))) }

module _ {all left : List (Option UnitVect3)} {found : Crossings} (g : Gathered all left found) where
  pub gathered_done : map tested_of left ≡ [] → and_then (all_of (points_of all)) (λ ps. answered (list_of ps)) ≡ answered found
  gathered_done e = rw (g.same, e, append-nil, g.stored)

  module _ (rest : List (Option UnitVect3)) (t : Result (Option UnitVect3) Cause) (e : map tested_of left ≡ answer_of t ∷ map tested_of rest) where
    one_less : length left ≡ length rest + 1
    one_less = sym (length-map left tested_of) ∙ ap length e ∙ rw (length-map rest tested_of) (omega arith)

    pub gathered_len : found.len < 64
    unfolding list_of
    gathered_len = let n : found.len ≡ length g.points = ap (λ (c : Crossings). c.len) g.stored in omega (arith, g.few, one_less)

    pub gathered_refused : (cause : Cause) → t ≡ Err cause → all_of (points_of all) ≡ refused_for cause
    gathered_refused cause is = rw (g.same, e, is)

    pub gathered_at : (p : UnitVect3) → t ≡ Ok (Some p) → {found' : Crossings} → found' ≡ record { points = set found.points found.len p; len = found.len + 1 } → Gathered all rest found'
    gathered_at p is f =
        let next = all_by (map tested_of rest) in
        record {
          points = g.points ++ (p ∷ []);
          few = omega (arith, g.few, one_less, length-append g.points (p ∷ []));
          stored = f ∙ rw g.stored (stored_behind g.points p (omega (arith, g.few, one_less)));
          same = g.same ∙ rw (e, is) (then_assoc next (λ qs. answered (p ∷ qs)) (λ qs. answered (g.points ++ qs)) ∙ then_same next (λ qs. answered (g.points ++ (p ∷ qs))) (λ qs. answered ((g.points ++ (p ∷ [])) ++ qs)) (λ qs. rw append_assoc));
        }

-- ---- the answer

pub lists_done : (a : Answer (List UnitVect3)) (c : Crossings) → answered c ≡ and_then a (λ ps. answered (list_of ps)) → Lists (record { crossings = c; outcome = Ok tt }) a
lists_done (answered ps) c e = record { outcome = refl; list = cc }
lists_done (refused n vs) c e = never (sym e)

pub lists_refused : (r : AllAnswer) (a : Answer (List UnitVect3)) (cause : Cause) → refused_for cause ≡ and_then a (λ ps. answered (list_of ps)) → Lists r (refused_for cause) → Lists r a
lists_refused r (answered ps) cause e h = never e
lists_refused r (refused n vs) cause e h =
    let g : ◌≡◌ {A = Answer (List UnitVect3)} (refused_for cause) (refused n vs) = cc in
    rw (sym g) h
