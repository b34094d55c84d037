-- The outline's theorems.
use Prim.Native.Nat.{ℕ, ◌+◌, ◌-◌, ◌≤◌, ◌<◌}
use native.Mathlib.Omega.{arith}
use mathlib.Core.Path.{◌≡◌, refl, sym, ap, subst, ◌∙◌}
use mathlib.Core.Bool.{Bool, true, false, cond, true≢false, false≢true}
use lib.ListN.{take}
use Rattle.std.specs.declared.result.Result.TheVariants.{Ok}
use Rattle.coo3d.specs.declared.Coo3D.{Coo3D}
use Rattle.coo3d.specs.Points.{are_doubles}
use Rattle.cost.specs.declared.CostliestOutline.{CostliestOutline}
use Rattle.cost.specs.declared.RangedDecision.{RangedDecision}
use Rattle.cost.specs.Outline.{saw, abreast, outline_of, Outlines}
use Rattle.cost.specs.RangeCount.{range_count_of, number_or0, Ranged}
use Rattle.cost.proofs.Corners.{abreast_in}
use Rattle.domain.specs.Domain.{in_domain}
use Rattle.domain.proofs.Counts.{count_few}
use Rattle.domain.proofs.Handed.{settled_in}
use Rattle.lists.specs.Counts.{is_odd}
use Rattle.making.specs.Made.{Made, built}
use Rattle.refusal.specs.Answer.{answered}
use Rattle.region.specs.declared.Built.{Built}
use Rattle.region.specs.declared.ContainsSouthPoleMethod.TheVariants.{DoNotContainsSouthPole}
use Rattle.region.specs.declared.Region.{Region}
use Rattle.region.specs.Region.{Builds, seam_count_of}
use Rattle.region.specs.View.{View, view_of, made, in_range_count}
use Rattle.region.proofs.Answered.{answered_done}
use Rattle.region.proofs.Containing.{asked_inside}
use Rattle.region.proofs.Rules.{some}
use Rattle.costliest.specs.Costliest.{Costliest}
use Rattle.costliest.proofs.Numbers.{at_most, odd_at_most}
use Rattle.costliest.proofs.Outline as outline

made_of : (n : ℕ) (b : Built) → are_doubles (take n saw) ≡ true → Builds b (outline_of n) → b.outcome ≡ Ok tt → Made b.region
unfolding outline_of
made_of n b d h e = built saw n DoNotContainsSouthPole b d h e

-- ---- of the view

module _ (n : ℕ) (one : 0 < n) (few : n ≤ 64) (r : Region) (is : view_of r ≡ made (outline.corners n one few) false) where
  counted : r.count ≡ n
  counted = ap (λ (v : View). v.count) is ∙ outline.corners_length n one few

  no_seams : r.seam_count ≡ 0
  no_seams = ap (λ (v : View). v.seam_count) is ∙ outline.no_seams n one few

  number_at : in_range_count abreast (view_of r) + cond (is_odd n) 1 0 ≡ n
  number_at = ap (λ (v : View). in_range_count abreast v + cond (is_odd n) 1 0) is ∙ outline.in_range n one few

  -- what the call gives is the number at the point
  range_count : range_count_of (view_of r) abreast ≡ answered (in_range_count abreast (view_of r))
  unfolding range_count_of
  range_count =
      asked_inside r.count abreast (λ q. in_range_count q (view_of r)) (some (subst (λ (k : ℕ). 0 < k) (sym counted) one)) (subst (λ (k : ℕ). k ≤ 64) (sym counted) few) abreast (sym (settled_in abreast abreast_in 0))

  reaches : (a : RangedDecision) → Ranged a (view_of r) abreast → a.in_range + cond (is_odd n) 1 0 ≡ n
  reaches a h = ap (λ (k : ℕ). k + cond (is_odd n) 1 0) (h.in_range ∙ ap number_or0 range_count) ∙ number_at

  seams_answered : seam_count_of (view_of r) ≡ answered 0
  unfolding seam_count_of
  seams_answered = count_few r.count (answered r.seam_count) (some (subst (λ (k : ℕ). 0 < k) (sym counted) one)) (subst (λ (k : ℕ). k ≤ 64) (sym counted) few) ∙ ap answered no_seams

at_even : (k n : ℕ) (b : Bool) → b ≡ false → k + cond b 1 0 ≡ n → k ≡ n
at_even k n true e h = absurd (true≢false e)
at_even k n false e h = omega (arith, h)

at_odd : (k n : ℕ) (b : Bool) → b ≡ true → k + cond b 1 0 ≡ n → k ≡ n - 1
at_odd k n true e h = omega (arith, h)
at_odd k n false e h = absurd (false≢true e)

-- another region's number is at most n, and at most n − 1 where n is odd
at_most_both : (j k n : ℕ) (b : Bool) → j ≤ n → (b ≡ true → j ≤ n - 1) → k + cond b 1 0 ≡ n → 0 < n → j ≤ k
at_most_both j k n true h o e one = let l = o refl in omega (arith, l, e, one)
at_most_both j k n false h o e one = omega (arith, h, e)

-- ---- the theorem

pub costliest : (n : ℕ) → 0 < n → n ≤ 64 → (o : CostliestOutline) → Outlines o n → Costliest n o
costliest n one few o h =
    let r = o.built.region in
    let v = made (outline.corners n one few) false in
    let builds : Builds o.built (answered v) = subst (Builds o.built) (outline.built n one few) h.built in
    let is : view_of r ≡ v = builds.view in
    let done = answered_done o.built v builds in
    let at : (a : RangedDecision) → Ranged a (view_of r) o.point → a.in_range + cond (is_odd n) 1 0 ≡ n = λ (a : RangedDecision). λ (g : Ranged a (view_of r) o.point). reaches n one few r is a (subst (Ranged a (view_of r)) h.point g) in
    record {
      done = done;
      is_made = made_of n o.built (outline.doubles n one few) h.built done;
      corners = counted n one few r is;
      seams = λ k e. e ∙ seams_answered n one few r is;
      legal = subst (λ (p : Coo3D). in_domain p ≡ true) (sym h.point) abreast_in;
      even = λ e a g. at_even a.in_range n (is_odd n) e (at a g);
      odd = λ e a g. at_odd a.in_range n (is_odd n) e (at a g);
      most = λ s m c p b g a k.
          at_most_both b.in_range a.in_range n (is_odd n)
          (subst (λ (x : ℕ). b.in_range ≤ x) c (at_most s p b g))
          (λ o. subst (λ (x : ℕ). b.in_range ≤ x - 1) c (odd_at_most s m (ap is_odd c ∙ o) p b g))
          (at a k)
          one;
    }
