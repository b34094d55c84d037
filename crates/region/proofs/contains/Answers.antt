-- `region::contains` meets its contract. Assumes nothing.
use mathlib.Core.Path.{◌≡◌, sym, ◌∙◌}
use borrow.Author.Rules.{rules}
use Rattle.domain.proofs.Counts.{count_in, count_refused}
use Rattle.lists.specs.Counts.{exactly_one}
use Rattle.region.specs.Edges.{is_counted}
use Rattle.std.proofs.lemmas.Result.{err_from_is_err_and}
use Rattle.domain.specs.Checks.{point_at}
use Rattle.refusal.specs.Answer.{answered, and_then}
use Rattle.region.specs.View.{view_of, contained}
use Rattle.region.specs.Region.{contains_of}
use Rattle.region.proofs.Edges.{edge_at}
use Rattle.region.proofs.Containing.{deciding_starts, deciding_goes_on, decided, decision, out_of_range, in_range_there}
use Rattle.region.proofs.contains.Goals as goal

pub returns-in_err-check_count : goal.returns-in_err-check_count
unfolding contains_of
returns-in_err-check_count c =
    let p = err_from_is_err_and c.from_residual.result c.from_residual.ensures.1 in
    rw (p.1, p.2) (count_refused c.args.r.count tt (and_then (point_at 0 c.args.coo) (λ q. answered (contained q (view_of c.args.r)))) c.in_err-check_count.ensures.answer)

pub returns-in_err-p : goal.returns-in_err-p
unfolding contains_of
returns-in_err-p c = search (rules, count_in)

pub loop-first-init : goal.loop-first-init
loop-first-init c =
    let n = c.in_ok-check_count.ensures.few in
    deciding_starts _ _ n.1 (search rules) n.0

pub loop-first-preserved : goal.loop-first-preserved
loop-first-preserved c =
    let n = c.in_ok-check_count.ensures.few in
    let l = c.loop-first in
    deciding_goes_on _ _ n.1 (search rules) l.invariant (search rules) c.loop-first-test.true (out_of_range _ (edge_at c.args.r l.from l.first) _ (sym c.is_in_lon_range.ensures ∙ c.if-is_in_lon_range.false))

pub loop-i-preserved : goal.loop-i-preserved
loop-i-preserved c =
    let n = c.in_ok-check_count.ensures.few in
    let p = c.in_ok-p.p in
    let l = c.loop-i in
    let e = edge_at c.args.r l.from l.i in
    let in_range = c.is_in_lon_range-in-loop-i.ensures in
    let goes_on : c.if-is_in_lon_range-2.is_inside ≡ exactly_one l.is_inside (is_counted p e) =
    elim c.if-is_in_lon_range-2.branch [
      | goal.then-is_in_lon_range-2 t ↦ t.is_inside-is ∙ in_range_there p e l.is_inside _ (sym in_range ∙ t.if-is_in_lon_range-2.true) t.dot_product.ensures
      | goal.else-is_in_lon_range-2 t ↦ t.is_inside-is ∙ out_of_range p e l.is_inside (sym in_range ∙ t.if-is_in_lon_range-2.false)
    ]
    in
    deciding_goes_on _ _ n.1 (search rules) l.invariant (search rules) c.loop-i-test.true goes_on

pub returns-then-is_in_lon_range : goal.returns-then-is_in_lon_range
returns-then-is_in_lon_range c =
    let n = c.in_ok-check_count.ensures.few in
    decision _ _ n c.in_ok-p.ensures (decided _ _ n.1 (search rules) c.loop-i.invariant (search rules))

pub returns : goal.returns
returns c =
    let n = c.in_ok-check_count.ensures.few in
    decision _ _ n c.in_ok-p.ensures (decided _ _ n.1 (search rules) c.loop-first.invariant (search rules))
