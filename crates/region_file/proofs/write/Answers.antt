-- `region_file::write` meets its contract. Assumes nothing.
use Prim.Native.Nat.{◌≤◌}
use native.Mathlib.Omega.{arith}
use mathlib.Core.Path.{◌≡◌, sym, ap, ◌∙◌}
use lib.ListN.{length}
use lib.Seq.{length-take-le}
use borrow.Author.Rules.{rules}
use Rattle.domain.proofs.Counts.{count_refused}
use Rattle.region.specs.View.{view_of}
use Rattle.refusal.specs.Answer.{answered}
use Rattle.region_file.specs.File.{write_of}
use Rattle.region_file.proofs.Refusing.{handed_on}
use Rattle.region_file.proofs.Writing.{store_turn, store_done, write_kept, write_short, write_done}
use Rattle.region_file.proofs.write.Goals as goal
use Rattle.region_file.proofs.write.Goals.{Start}

-- there are as many corners as are counted
long : (c : Start) → c.args.r.count ≤ 64 → c.args.r.count ≤ length c.args.r.vertices
long c h = let e : length c.args.r.vertices ≡ 64 = search rules in omega (arith, e, h)

pub returns-in_err-check_count : goal.returns-in_err-check_count
unfolding write_of
returns-in_err-check_count c =
    let k = count_refused c.args.r.count tt _ c.in_err-check_count.ensures.answer in
    record { answer = handed_on _ _ _ c.from_residual.ensures.1 k; out_after = write_kept (view_of c.args.r) c.args.out.now k }

pub returns-then-out-needed : goal.returns-then-out-needed
returns-then-out-needed c =
    let w = write_short (view_of c.args.r) c.args.out.now c.in_ok-check_count.ensures.few _ c.file_length-needed.ensures c.if-out-needed.true in
    record { answer = w; out_after = write_kept (view_of c.args.r) c.args.out.now w }

pub loop-i-preserved : goal.loop-i-preserved
loop-i-preserved c =
    let r = c.args.r in
    let l = long (goal.at.loop-i-preserved c).Start c.in_ok-check_count.ensures.few.1 in
    (search rules, sym (store_turn r.vertices r.count l _ _ _ _ c.loop-i-test.true c.put_corner.ensures) ∙ c.loop-i.invariant.1)

pub returns : goal.returns
returns c =
    let r = c.args.r in
    let few = c.in_ok-check_count.ensures.few in
    let l = long (goal.at.returns c).Start few.1 in
    let w =
    write_done (view_of r) c.args.out.now few _ _ (search rules) (length-take-le r.count r.vertices l)
    (sym (store_done r.vertices r.count l _ _ c.loop-i-test.false) ∙ c.loop-i.invariant.1) c.put_trailer.ensures
    in
    record { answer = ap answered c.file_length-needed.ensures ∙ w.0; out_after = w.1 }
