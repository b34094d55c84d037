-- Laws of `with_count`, for every call that tests a count.
use Prim.Native.Nat.{ℕ, ◌≤◌, ◌<◌}
use native.Mathlib.Omega.{arith}
use mathlib.Core.Path.{◌≡◌, refl, sym, ap, ◌∙◌}
use mathlib.Core.Bool.{Bool, true, false}
use mathlib.Core.List.{List, []}
use lib.Dec.{eqb, ltb}
use borrow.Author.Tests.{eqb-false, ltb-false, ne_eqb, le-ltb}
use Rattle.refusal.specs.Answer.{Answer, answered, refused, refuse_if, and_then}
use Rattle.refusal.proofs.Answers.{never}
use Rattle.domain.specs.Checks.{with_count}

module _ {A : Type 0} (n : ℕ) (next : Answer A) where
  pub count_few : (n ≡ 0 → ⊥) → n ≤ 64 → with_count n next ≡ next
  count_few z h = simp (ne_eqb _ _ z, le-ltb _ _ h)

  pub count_in : (0 < n) × (n ≤ 64) → with_count n next ≡ next
  count_in r = count_few (λ (z : n ≡ 0). none z r.0) r.1
    where
      none : n ≡ 0 → 0 < n → ⊥
      none z p = omega arith

  pub count_answered : (a : A) → with_count n next ≡ answered a → (0 < n) × (n ≤ 64)
  count_answered a = go (eqb n 0) (ltb 64 n) refl refl
    where
      pos_of_ne : (n : ℕ) → (n ≡ 0 → ⊥) → 0 < n
      pos_of_ne n h = omega arith

      go : (b c : Bool) → eqb n 0 ≡ b → ltb 64 n ≡ c → refuse_if b 2 [] (refuse_if c 3 [] next) ≡ answered a → (0 < n) × (n ≤ 64)
      go true c p q e = never e
      go false true p q e = never e
      go false false p q e = (pos_of_ne n (eqb-false n 0 p), ltb-false 64 n q)

  pub count_passed : (a : A) → with_count n next ≡ answered a → next ≡ answered a
  count_passed a e = sym (count_in (count_answered a e)) ∙ e

-- a test of the count that refuses does so whatever would follow
pub count_only : {A B : Type 0} (n : ℕ) (a : A) (next : Answer B) (k : ℕ) (vs : List ℕ) → with_count n (answered a) ≡ refused k vs → with_count n next ≡ refused k vs
count_only {A} {B} n a next k vs = go (eqb n 0) (ltb 64 n)
  where
    go : (b c : Bool) → refuse_if b 2 [] (refuse_if c 3 [] (answered a)) ≡ refused k vs → refuse_if b 2 [] (refuse_if c 3 [] next) ≡ refused k vs
    go true c e = ap (λ (x : Answer A). and_then x (λ y. next)) e
    go false true e = ap (λ (x : Answer A). and_then x (λ y. next)) e
    go false false e = never (sym e)

-- a count that the check refuses, as a caller's refusal
pub count_refused : {A B : Type 0} (n : ℕ) (a : A) (next : Answer B) {k : ℕ} {vs : List ℕ} → refused k vs ≡ with_count n (answered a) → refused k vs ≡ with_count n next
count_refused n a next e = sym (count_only n a next _ _ (sym e))
