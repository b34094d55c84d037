-- `parallels::first_fit` meets its contract. Assumes nothing.
use mathlib.Core.Path.{◌≡◌, refl, sym, ap, ◌∙◌}
use mathlib.Core.Bool.{false}
use Prim.Native.Nat.{◌+◌, ◌<◌}
use native.Mathlib.Omega.{arith}
use borrow.Author.Rules.{rules}
use lib.ListN.{length, get_or}
use Rattle.crossings.specs.Crossings.{first_of}
use Rattle.crossings.proofs.First.{only_tested}
use Rattle.crossings.proofs.Turns.{taken}
use Rattle.region.specs.View.{view_of, nowhere, edges_of}
use Rattle.region.proofs.Edges.{edges_left}
use Rattle.parallels.proofs.First.{fit_start, fit_not, fit_here, fit_nowhere}
use Rattle.parallels.proofs.Sides.{alike, one_side}
use Rattle.parallels.specs.Parallels.{spans_lat}
use Rattle.parallels.specs.Queries.{first_fit, first_fit_of}
use Rattle.parallels.proofs.first_fit.Goals as goal
use Rattle.parallels.proofs.first_fit.Goals.{At-loop-i}

-- the answer, by the edges that are left
whole : (c : At-loop-i) → let p = c.in_ok-parallel.parallel in first_fit_of (view_of c.args.r.now) c.args.parallel ≡ first_of (first_fit p.lat p.sin p.cos (edges_left c.args.r.now (get_or c.args.r.now.vertices c.loop-i.before nowhere) c.loop-i.i))
whole c = taken (λ p. first_of (first_fit p.lat p.sin p.cos (edges_of (view_of c.args.r.now)))) c.in_ok-check_count.ensures.few c.in_ok-parallel.was ∙ ap first_of c.loop-i.invariant.2

pub loop-i-init : goal.loop-i-init
loop-i-init c =
    let v : length c.args.r.now.vertices ≡ 64 = search rules in
    (omega (arith, c.in_ok-check_count.ensures.few.0), refl, fit_start c.args.r.now _ _ _ v c.in_ok-check_count.ensures.few)

pub bounds-r-before-in-loop-i : goal.bounds-r-before-in-loop-i
bounds-r-before-in-loop-i c = omega (arith, c.loop-i.invariant.0, c.in_ok-check_count.ensures.few.1)

pub returns-then-spans_lat : goal.returns-then-spans_lat
returns-then-spans_lat c =
    let r = c.args.r.now in
    let v : length r.vertices ≡ 64 = search rules in
    let n : length r.cross_products ≡ 64 = search rules in
    only_tested _ _ c.test_finite.ensures
    ∙ ap first_of (sym (fit_here r _ _ _ v c.in_ok-check_count.ensures.few _ c.loop-i.i n c.loop-i-test.true _ c.if-spans_lat.ensures c.point_of.ensures))
    ∙ sym (whole (goal.at.returns-then-spans_lat c).At-loop-i)

-- an edge that does not fit is passed
pass : (c : At-loop-i) → let p = c.in_ok-parallel.parallel in
    let to = get_or c.args.r.now.vertices c.loop-i.i nowhere in
    length c.args.r.now.vertices ≡ 64
    → length c.args.r.now.cross_products ≡ 64
    → c.loop-i.i < c.args.r.now.count
    → false ≡ spans_lat (get_or c.args.r.now.vertices c.loop-i.before nowhere) to p.lat
    → first_fit p.lat p.sin p.cos (edges_of (view_of c.args.r.now)) ≡ first_fit p.lat p.sin p.cos (edges_left c.args.r.now to (c.loop-i.i + 1))
pass c v n below h = c.loop-i.invariant.2 ∙ fit_not c.args.r.now _ _ _ v c.in_ok-check_count.ensures.few _ c.loop-i.i n below h

pub loop-i-preserved : goal.loop-i-preserved
loop-i-preserved c =
    let v : length c.args.r.now.vertices ≡ 64 = search rules in
    let n : length c.args.r.now.cross_products ≡ 64 = search rules in
    let x = (goal.at.loop-i-preserved c).At-loop-i in
    let below = c.loop-i-test.true in
    elim c.if-from_below-to_below.branch [
      | goal.then-from_below-to_below+else-spans_lat w ↦ (below, w.from_below-is, pass x v n below w.if-spans_lat.ensures)
      | goal.else-from_below-to_below w ↦
          let same = alike _ _ w.if-from_below-to_below.false in
          (below, w.from_below-is ∙ same, pass x v n below (sym (one_side _ _ _ (sym c.loop-i.invariant.1 ∙ same))))
    ]

pub returns : goal.returns
unfolding first_of
returns c =
    let v : length c.args.r.now.vertices ≡ 64 = search rules in
    sym (whole (goal.at.returns c).At-loop-i ∙ ap first_of (fit_nowhere c.args.r.now _ _ _ v c.in_ok-check_count.ensures.few _ c.loop-i.i c.loop-i-test.false))
