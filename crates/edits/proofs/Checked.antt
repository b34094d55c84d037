-- What the table says of each edit, and what makes an edit's answer. Assumes nothing.
use Prim.Native.Nat.{ℕ, ◌≤◌, ◌<◌}
use native.Mathlib.Omega.{arith}
use mathlib.Core.Path.{◌≡◌, refl, sym, ap, ◌∙◌}
use mathlib.Core.Logic.{⊎_elim}
use mathlib.Core.Bool.{Bool, true, false, not, cond}
use mathlib.Core.List.{List, []}
use lib.Dec.{eqb, ltb, leb}
use borrow.Author.Tests.{ltb-true, ltb-false, leb-true, leb-false, eq-eqb, ne_eqb, le-ltb, lt-ltb}
use Rattle.std.specs.declared.result.Result.{Result}
use Rattle.std.specs.declared.result.Result.TheVariants.{Ok, Err}
use Rattle.std.specs.Prelude.{⊤}
use Rattle.std.specs.Result.{MatchResult, IsOkAnd, result_and}
use Rattle.coo3d.specs.declared.Coo3D.{Coo3D}
use Rattle.domain.specs.Checks.{point_at, with_count}
use Rattle.domain.proofs.Counts.{count_in, count_answered, count_refused}
use Rattle.std.proofs.lemmas.Bool.{cases_eq}
use Rattle.refusal.specs.Answer.{Answer, answered, refused, refused_for, refuse_if, and_then, answer_of}
use Rattle.refusal.specs.declared.Cause.{Cause}
use Rattle.refusal.proofs.Answers.{not_refused, then_assoc}
use Rattle.region.specs.declared.Region.{Region}
use Rattle.region.specs.declared.ContainsSouthPoleMethod.{ContainsSouthPoleMethod}
use Rattle.region.specs.View.{View, view_of, with_flag, contained}
use Rattle.region.specs.Poles.{rule_flag}
use Rattle.region.specs.Region.{rule_at, contains_of, flag_of}
use Rattle.edits.specs.declared.EditAnswer.{EditAnswer}
use Rattle.edits.specs.Edits.{Edit, put, insert, turn, hold, rule, checked, changed, edit_of, Edited}

-- ---- answers

module _ (e : Edit) (r : Region) (a : EditAnswer) where
  pub refused_edit : (cause : Cause) → a ≡ record { region = r; outcome = Err cause } → edit_of e (view_of r) ≡ refused_for cause → Edited e r a
  refused_edit cause is t = record { answer = rw (is, t); kept = λ k o. rw is }

  pub done_edit : a.outcome ≡ Ok tt → edit_of e (view_of r) ≡ answered (view_of a.region) → Edited e r a
  done_edit o t = record { answer = rw (o, t); kept = λ cause q. not_refused cause (sym o ∙ q) }

module _ (e : Edit) (v : View) where
  pub refused_by : (number : ℕ) (values : List ℕ) → checked v.count e ≡ refused number values → edit_of e v ≡ refused number values
  unfolding edit_of
  refused_by number values t = rw t

  pub done_by : (k : Edit) (w : View) → checked v.count e ≡ answered k → w ≡ changed k v → edit_of e v ≡ answered w
  unfolding edit_of
  done_by k w t is = rw (t, is)

-- ---- put and insert: the same tests of their corner, in the same order

abbrev asked : ℕ → ℕ → Bool → Coo3D → Answer Coo3D
asked n most there p = refuse_if (eqb n 0) 2 [] (refuse_if (ltb most n) 3 [] (refuse_if (not there) 4 [] (point_at 0 p)))

asked_then : (k : Coo3D → Edit) (none many away : Bool) (x : Answer Coo3D)
    → refuse_if none 2 [] (refuse_if many 3 [] (refuse_if away 4 [] (and_then x (λ q. answered (k q))))) ≡ and_then (refuse_if none 2 [] (refuse_if many 3 [] (refuse_if away 4 [] x))) (λ q. answered (k q))
asked_then k true many away x = refl
asked_then k false true away x = refl
asked_then k false false true x = refl
asked_then k false false false x = refl

module _ (n i : ℕ) (p : Coo3D) where
  pub put_asked : checked n (put i p) ≡ and_then (asked n 64 (ltb i n) p) (λ q. answered (put i q))
  unfolding checked
  put_asked = asked_then (put i) (eqb n 0) (ltb 64 n) (not (ltb i n)) (point_at 0 p)

  -- the 65th corner, and a count that never was one, are both 3
  full_too : (next : Answer Edit) → refuse_if (ltb 64 n) 3 [] (refuse_if (eqb n 64) 3 [] next) ≡ refuse_if (ltb 63 n) 3 [] next
  full_too next = go (ltb 63 n) refl
    where
      go : (b : Bool) → ltb 63 n ≡ b → refuse_if (ltb 64 n) 3 [] (refuse_if (eqb n 64) 3 [] next) ≡ refuse_if b 3 [] next
      go true e =
          let h = ltb-true 63 n e in
          ⊎_elim
          (λ (e : n ≡ 64). let few : n ≤ 64 = omega arith in rw (le-ltb 64 n few, eq-eqb n 64 e))
          (λ (e : n ≡ 64 → ⊥). let more : 64 < n = omega (arith, h) in rw (lt-ltb 64 n more))
          (cases_eq n 64)
      go false e =
          let h = ltb-false 63 n e in
          let few : n ≤ 64 = omega (arith, h) in
          let other : n ≡ 64 → ⊥ = λ (z : n ≡ 64). omega (arith, h, z) in
          rw (le-ltb 64 n few, ne_eqb n 64 other)

  not_there : ltb n i ≡ not (leb i n)
  not_there = go (leb i n) refl
    where
      go : (b : Bool) → leb i n ≡ b → ltb n i ≡ not b
      go true e = le-ltb n i (leb-true i n e)
      go false e = lt-ltb n i (leb-false i n e)

  pub insert_asked : checked n (insert i p) ≡ and_then (asked n 63 (leb i n) p) (λ q. answered (insert i q))
  unfolding checked
  insert_asked =
      ap (λ (y : Answer Edit). refuse_if (eqb n 0) 2 [] y)
      (full_too _ ∙ ap (λ (b : Bool). refuse_if (ltb 63 n) 3 [] (refuse_if b 4 [] (and_then (point_at 0 p) (λ q. answered (insert i q))))) not_there)
      ∙ asked_then (insert i) (eqb n 0) (ltb 63 n) (not (leb i n)) (point_at 0 p)

-- what the table says by what was asked
module _ (k : Coo3D → Edit) {x : Answer Coo3D} {t : Answer Edit} (table : t ≡ and_then x (λ q. answered (k q))) where
  pub asked_refused : (number : ℕ) (values : List ℕ) → refused number values ≡ x → t ≡ refused number values
  asked_refused number values is = table ∙ ap (λ (y : Answer Coo3D). and_then y (λ q. answered (k q))) (sym is)

  pub asked_done : (q : Coo3D) → answered q ≡ x → t ≡ answered (k q)
  asked_done q is = table ∙ ap (λ (y : Answer Coo3D). and_then y (λ p. answered (k p))) (sym is)

-- ---- turn, hold and rule: the flag is set from what the check or the region answers

module _ {A : Type 0} (v : View) (k : A → Edit) (of : A → Bool) (flag : Bool → Bool) (same : (a : A) → changed (k a) v ≡ with_flag v (flag (of a))) where
  by_flag : (n : ℕ) (x : Answer A) → and_then (with_count n (and_then x (λ a. answered (k a)))) (λ e. answered (changed e v)) ≡ and_then (with_count n (and_then x (λ a. answered (of a)))) (λ b. answered (with_flag v (flag b)))
  by_flag n x = go (eqb n 0) (ltb 64 n) x
    where
      go : (none many : Bool) (y : Answer A) → and_then (refuse_if none 2 [] (refuse_if many 3 [] (and_then y (λ a. answered (k a))))) (λ e. answered (changed e v)) ≡ and_then (refuse_if none 2 [] (refuse_if many 3 [] (and_then y (λ a. answered (of a))))) (λ b. answered (with_flag v (flag b)))
      go true many y = refl
      go false true y = refl
      go false false (answered a) = ap answered (same a)
      go false false (refused number values) = refl

module _ (v : View) where
  pub turn_by : (d : Result ⊤ Cause) → answer_of d ≡ with_count v.count (answered tt) → edit_of turn v ≡ and_then (answer_of (result_and d (Ok (not v.flag)))) (λ b. answered (with_flag v b))
  unfolding edit_of checked changed
  turn_by (Ok done) e = rw (count_in v.count (answered turn) (count_answered v.count (answered tt) done (sym e))) refl
  turn_by (Err cause) e = rw (← count_refused v.count tt (answered turn) e)

  pub hold_by : (p : Coo3D) → edit_of (hold p) v ≡ and_then (and_then (contains_of v p) (λ b. answered (cond b v.flag (not v.flag)))) (λ b. answered (with_flag v b))
  unfolding edit_of checked contains_of changed
  hold_by p =
      by_flag v hold (λ q. contained q v) (λ b. cond b v.flag (not v.flag)) (λ q. refl) v.count (point_at 0 p)
      ∙ sym (then_assoc (contains_of v p) (λ b. answered (cond b v.flag (not v.flag))) (λ b. answered (with_flag v b)))

  pub rule_by : (m : ContainsSouthPoleMethod) → edit_of (rule m) v ≡ and_then (flag_of v m) (λ b. answered (with_flag v b))
  unfolding edit_of checked flag_of changed
  rule_by m = by_flag v rule (λ k. rule_flag k v) (λ b. b) (λ k. refl) v.count (rule_at v.count m)

-- an answer whose result a closure goes over
pub mapped : {A B : Type 0} (d : Result A Cause) (e : Result B Cause) (post : A → B → Type 0) (f : A → B) → MatchResult d (λ a. IsOkAnd e (post a)) (λ cause. e ≡ Err cause) → ((a : A) (b : B) → post a b → b ≡ f a)
    → answer_of e ≡ and_then (answer_of d) (λ a. answered (f a))
mapped (Ok a) (Ok b) post f m h = ap answered (h a b m)
mapped (Ok a) (Err cause) post f m h = absurd m
mapped (Err cause) e post f m h = ap answer_of m
