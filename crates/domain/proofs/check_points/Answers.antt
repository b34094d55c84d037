-- `domain::check_points` meets its contract. Assumes nothing.
use Prim.Native.Nat.{◌≤◌}
use native.Mathlib.Omega.{arith}
use mathlib.Core.Path.{◌≡◌, refl, sym, ◌∙◌}
use borrow.Author.Rules.{rules}
use lib.ListN.{length, length-set, take}
use Rattle.refusal.proofs.Answers.{not_refused}
use Rattle.domain.specs.Checks.{points_from, points_of}
use Rattle.domain.proofs.Points.{far_start, far_good, far_bad, far_end}
use Rattle.domain.proofs.Counts.{count_in, count_refused}
use Rattle.domain.proofs.check_points.Goals as goal
use Rattle.domain.proofs.check_points.Goals.{Start}

-- there are as many points as are counted
long : (c : Start) → c.args.count ≤ 64 → c.args.count ≤ length c.args.points
long c h = let e : length c.args.points ≡ 64 = search rules in omega arith

pub returns-in-Err : goal.returns-in-Err
unfolding points_of
returns-in-Err c = record { answer = count_refused c.args.count tt (points_from 0 (take c.args.count c.args.points)) c.in-Err.ensures.answer; kept = λ cause e. refl }

pub loop-i-init : goal.loop-i-init
loop-i-init c = (search rules, far_start _ _ _)

pub returns-in-Err-check_point : goal.returns-in-Err-check_point
unfolding points_of
returns-in-Err-check_point c =
    let s = (goal.at.returns-in-Err-check_point c).Start in
    let l = c.loop-i in
    let few = c.in_default.ensures.few in
    record {
      answer = sym (far_bad _ _ _ l.out _ (long s few.1) c.loop-i-test.true _ _ c.in-Err-check_point.ensures) ∙ l.invariant.1 ∙ sym (count_in _ _ few);
      kept = λ cause e. refl;
    }

pub loop-i-preserved : goal.loop-i-preserved
loop-i-preserved c =
    let s = (goal.at.loop-i-preserved c).Start in
    let l = c.loop-i in
    let few = c.in_default.ensures.few in (
      length-set l.out l.i _ ∙ l.invariant.0,
      sym (far_good _ _ _ l.out _ (long s few.1) c.loop-i-test.true _ (search rules) (sym c.in-Ok.ensures)) ∙ l.invariant.1,
    )

pub returns : goal.returns
unfolding points_of
returns c =
    let s = (goal.at.returns c).Start in
    let l = c.loop-i in
    let few = c.in_default.ensures.few in
    record {
      answer = sym (far_end _ _ _ l.out (long s few.1) (search rules)) ∙ l.invariant.1 ∙ sym (count_in _ _ few);
      kept = λ cause e. not_refused cause e;
    }
