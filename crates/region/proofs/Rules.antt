-- Laws of `rule_at`, for the check of a rule and for callers that go on with the rule that it hands back.
use Prim.Native.Nat.{ℕ, ◌≤◌, ◌<◌}
use native.Mathlib.Omega.{arith}
use mathlib.Core.Path.{◌≡◌, refl, sym, ap, subst, ◌∙◌}
use mathlib.Core.Bool.{Bool}
use mathlib.Core.List.{List}
use Rattle.coo3d.specs.declared.Coo3D.{Coo3D}
use Rattle.domain.specs.Checks.{point_at}
use Rattle.domain.proofs.Counts.{count_few}
use Rattle.domain.proofs.Handed.{handed_again}
use Rattle.lists.specs.Counts.{exactly_one}
use Rattle.lists.proofs.Odd.{one_twice}
use Rattle.refusal.specs.Answer.{Answer, answered, refused, and_then}
use Rattle.refusal.proofs.Answers.{never, same_answer}
use Rattle.region.specs.declared.ContainsSouthPoleMethod.{ContainsSouthPoleMethod}
use Rattle.region.specs.declared.ContainsSouthPoleMethod.TheVariants.{Default, DefaultComplement, ContainsSouthPole, DoNotContainsSouthPole, ControlPointIn, ControlPointOut}
use Rattle.region.specs.View.{View, odd_at, contained}
use Rattle.region.specs.Region.{contains_of, rule_at}

pub some : {n : ℕ} → 0 < n → n ≡ 0 → ⊥
some h e = omega (arith, h, e)

-- the rule of a control point goes by the check of the point
module _ (rule : Coo3D → ContainsSouthPoleMethod) (by_point : (i : ℕ) (p : Coo3D) → rule_at i (rule p) ≡ and_then (point_at i p) (λ q. answered (rule q))) where
  pub point_inside : (i : ℕ) (p q : Coo3D) (m : ContainsSouthPoleMethod) → m ≡ rule p → answered q ≡ point_at i p → answered (rule q) ≡ rule_at i m
  point_inside i p q m e h = rw (e, by_point i p, sym h)

  point_again : (i j : ℕ) (p : Coo3D) (x : Answer Coo3D) (k : ContainsSouthPoleMethod) → point_at i p ≡ x → and_then x (λ q. answered (rule q)) ≡ answered k → rule_at j k ≡ answered k
  point_again i j p (answered q) k h e = subst (λ (m : ContainsSouthPoleMethod). rule_at j m ≡ answered m) (same_answer e) (by_point j q ∙ rw (handed_again i p q h j))
  point_again i j p (refused n vs) k h e = never e

pub by_point_in : (i : ℕ) (p : Coo3D) → rule_at i (ControlPointIn p) ≡ and_then (point_at i p) (λ q. answered (ControlPointIn q))
unfolding rule_at
by_point_in i p = refl

pub by_point_out : (i : ℕ) (p : Coo3D) → rule_at i (ControlPointOut p) ≡ and_then (point_at i p) (λ q. answered (ControlPointOut q))
unfolding rule_at
by_point_out i p = refl

-- a rule that was handed back is handed back again as it is
pub rule_again : (i : ℕ) (m k : ContainsSouthPoleMethod) → rule_at i m ≡ answered k → (j : ℕ) → rule_at j k ≡ answered k
unfolding rule_at
rule_again i Default k e j = subst (λ (m : ContainsSouthPoleMethod). rule_at j m ≡ answered m) (same_answer e) refl
rule_again i DefaultComplement k e j = subst (λ (m : ContainsSouthPoleMethod). rule_at j m ≡ answered m) (same_answer e) refl
rule_again i ContainsSouthPole k e j = subst (λ (m : ContainsSouthPoleMethod). rule_at j m ≡ answered m) (same_answer e) refl
rule_again i DoNotContainsSouthPole k e j = subst (λ (m : ContainsSouthPoleMethod). rule_at j m ≡ answered m) (same_answer e) refl
rule_again i (ControlPointIn p) k e j = point_again ControlPointIn by_point_in i j p (point_at i p) k refl e
rule_again i (ControlPointOut p) k e j = point_again ControlPointOut by_point_out i j p (point_at i p) k refl e

-- the control point of a rule that is handed back as it is, is handed back as it is
module _ (rule : Coo3D → ContainsSouthPoleMethod) (by_point : (i : ℕ) (p : Coo3D) → rule_at i (rule p) ≡ and_then (point_at i p) (λ q. answered (rule q))) (one-point : (q p : Coo3D) → rule q ≡ rule p → q ≡ p) where
  point_kept : (p : Coo3D) (x : Answer Coo3D) → and_then x (λ q. answered (rule q)) ≡ answered (rule p) → x ≡ answered p
  point_kept p (answered q) e = ap answered (one-point q p (same_answer e))
  point_kept p (refused n vs) e = never e

  pub point_of : (i : ℕ) (m : ContainsSouthPoleMethod) (p : Coo3D) → m ≡ rule p → rule_at i m ≡ answered m → point_at i p ≡ answered p
  point_of i m p e h = point_kept p (point_at i p) (sym (by_point i p) ∙ ap (rule_at i) (sym e) ∙ h ∙ ap answered e)

pub one_point_in : (q p : Coo3D) → ControlPointIn q ≡ ControlPointIn p → q ≡ p
one_point_in q p e = cc e

pub one_point_out : (q p : Coo3D) → ControlPointOut q ≡ ControlPointOut p → q ≡ p
one_point_out q p e = cc e

-- ---- the side of a point that was checked, and the flag, tell whether an odd number of edges is counted there

pub odd_told : (v : View) (p : Coo3D) (b : Bool) → (0 < v.count) × (v.count ≤ 64) × (point_at 0 p ≡ answered p) → answered b ≡ contains_of v p → exactly_one v.flag b ≡ odd_at p v
unfolding contains_of contained
odd_told v p b (n, few, h) e =
    let side : b ≡ exactly_one v.flag (odd_at p v) = same_answer (e ∙ count_few v.count _ (some n) few ∙ rw h) in
    ap (exactly_one v.flag) side ∙ one_twice v.flag (odd_at p v)

pub never_told : {A : Type 0} (v : View) (p : Coo3D) (k : ℕ) (vs : List ℕ) → (0 < v.count) × (v.count ≤ 64) × (point_at 0 p ≡ answered p) → refused k vs ≡ contains_of v p → A
unfolding contains_of
never_told v p k vs (n, few, h) e = never {a = contained p v} (e ∙ count_few v.count _ (some n) few ∙ rw h)
