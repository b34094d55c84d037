-- An edit that the table answers for a count, and the edit with its point as the check hands it back.
use Prim.Native.Nat.{ℕ, ◌≤◌, ◌<◌}
use native.Mathlib.Omega.{arith}
use mathlib.Core.Path.{◌≡◌, refl, subst}
use mathlib.Core.Bool.{Bool, true, false, not}
use mathlib.Core.List.{[]}
use borrow.Author.Tests.{ltb-true, ltb-false, eqb-false}
use lib.Dec.{eqb, ltb}
use Rattle.coo3d.specs.declared.Coo3D.{Coo3D}
use Rattle.domain.specs.Checks.{point_at}
use Rattle.domain.proofs.Counts.{count_answered, count_passed}
use Rattle.refusal.specs.Answer.{Answer, answered, refused, refuse_if, and_then}
use Rattle.refusal.proofs.Answers.{never, same_answer}
use Rattle.region.specs.declared.ContainsSouthPoleMethod.{ContainsSouthPoleMethod}
use Rattle.region.specs.Region.{rule_at}
use Rattle.edits.specs.Edits.{Edit, put, insert, remove, turn, hold, rule, checked}

pub data Legal (n : ℕ) : Edit → Edit → Type 0 where
  legal_put : {i : ℕ} {p q : Coo3D} → i < n → point_at 0 p ≡ answered q → Legal n (put i p) (put i q)
  legal_insert : {i : ℕ} {p q : Coo3D} → i ≤ n → n < 64 → point_at 0 p ≡ answered q → Legal n (insert i p) (insert i q)
  legal_remove : {i : ℕ} → i < n → 1 < n → Legal n (remove i) (remove i)
  legal_turn : Legal n turn turn
  legal_hold : {p q : Coo3D} → point_at 0 p ≡ answered q → Legal n (hold p) (hold q)
  legal_rule : {m k : ContainsSouthPoleMethod} → rule_at n m ≡ answered k → Legal n (rule m) (rule k)

module _ (n : ℕ) (k : Edit) where
  of_put : (i : ℕ) (p : Coo3D) (b : Bool) (x : Answer Coo3D) → ltb i n ≡ b → point_at 0 p ≡ x
      → refuse_if (not b) 4 [] (and_then x (λ q. answered (put i q))) ≡ answered k → Legal n (put i p) k
  of_put i p true (answered q) e f h = subst (Legal n (put i p)) (same_answer h) (legal_put (ltb-true i n e) f)
  of_put i p true (refused a vs) e f h = never h
  of_put i p false x e f h = never h

  of_insert : (i : ℕ) (p : Coo3D) (a b : Bool) (x : Answer Coo3D) → eqb n 64 ≡ a → ltb n i ≡ b → point_at 0 p ≡ x → n ≤ 64
      → refuse_if a 3 [] (refuse_if b 4 [] (and_then x (λ q. answered (insert i q)))) ≡ answered k → Legal n (insert i p) k
  of_insert i p false false (answered q) d e f m h = subst (Legal n (insert i p)) (same_answer h) (legal_insert (ltb-false n i e) (below m (eqb-false n 64 d)) f)
    where
      below : n ≤ 64 → (n ≡ 64 → ⊥) → n < 64
      below l g = omega arith
  of_insert i p false false (refused a vs) d e f m h = never h
  of_insert i p false true x d e f m h = never h
  of_insert i p true b x d e f m h = never h

  of_remove : (i : ℕ) (a b : Bool) → eqb n 1 ≡ a → ltb i n ≡ b → refuse_if a 2 [] (refuse_if (not b) 4 [] (answered (remove i))) ≡ answered k → Legal n (remove i) k
  of_remove i false true d e h = subst (Legal n (remove i)) (same_answer h) (legal_remove (ltb-true i n e) (above (ltb-true i n e) (eqb-false n 1 d)))
    where
      above : i < n → (n ≡ 1 → ⊥) → 1 < n
      above l g = omega arith
  of_remove i false false d e h = never h
  of_remove i true b d e h = never h

  of_hold : (p : Coo3D) (x : Answer Coo3D) → point_at 0 p ≡ x → and_then x (λ q. answered (hold q)) ≡ answered k → Legal n (hold p) k
  of_hold p (answered q) f h = subst (Legal n (hold p)) (same_answer h) (legal_hold f)
  of_hold p (refused a vs) f h = never h

  of_rule : (m : ContainsSouthPoleMethod) (x : Answer ContainsSouthPoleMethod) → rule_at n m ≡ x → and_then x (λ k. answered (rule k)) ≡ answered k → Legal n (rule m) k
  of_rule m (answered l) f h = subst (Legal n (rule m)) (same_answer h) (legal_rule f)
  of_rule m (refused a vs) f h = never h

  pub legal : (e : Edit) → checked n e ≡ answered k → Legal n e k
  unfolding checked
  legal (put i p) h = of_put i p (ltb i n) (point_at 0 p) refl refl (count_passed n _ k h)
  legal (insert i p) h = of_insert i p (eqb n 64) (ltb n i) (point_at 0 p) refl refl refl (count_answered n _ k h).1 (count_passed n _ k h)
  legal (remove i) h = of_remove i (eqb n 1) (ltb i n) refl refl (count_passed n _ k h)
  legal turn h = subst (Legal n turn) (same_answer (count_passed n _ k h)) legal_turn
  legal (hold p) h = of_hold p (point_at 0 p) refl (count_passed n _ k h)
  legal (rule m) h = of_rule m (rule_at n m) refl (count_passed n _ k h)
