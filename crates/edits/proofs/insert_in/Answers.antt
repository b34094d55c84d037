-- `edits::insert_in` meets its contract. Assumes nothing.
use Prim.Native.Nat.{◌+◌, ◌≤◌}
use native.Mathlib.Omega.{arith}
use mathlib.Core.Path.{◌≡◌, refl, ap, ◌∙◌}
use borrow.Author.Rules.{rules}
use lib.ListN.{length, take, set}
use Rattle.region.proofs.Seam.{seams_last}
use Rattle.std.proofs.lemmas.Result.{err_from_is_err_and}
use Rattle.edits.specs.Edits.{insert}
use Rattle.edits.proofs.Checked.{refused_edit, done_edit, refused_by, done_by, insert_asked, asked_refused, asked_done}
use Rattle.edits.proofs.Moved.{view_inserted}
use Rattle.edits.proofs.Neighbours.{copied_up}
use Rattle.edits.proofs.insert_in.Goals as goal

pub returns-in_err-p : goal.returns-in_err-p
returns-in_err-p c =
    let a = c.args in
    let p = err_from_is_err_and c.from_residual.result c.from_residual.ensures.1 in
    refused_edit _ _ _ c.in_err-p.field-0.0 (rw (p.1, p.2) refl) (refused_by _ _ _ _ (asked_refused (insert a.i) (insert_asked a.region.now.count a.i a.corner) _ _ c.in_err-p.ensures.answer))

pub returns : goal.returns
returns c =
    let a = c.args in
    let r = a.region.now in
    let n = r.count in
    let e : length r.vertices ≡ 64 = search rules in
    let e' : length r.cross_products ≡ 64 = search rules in
    let inside = c.in_ok-p.ensures.inside in
    let few = inside.1.0 in
    let h : a.i ≤ n = search rules in
    let moved = copied_up r.vertices n a.i c.in_ok-p.p h (omega (arith, e, few)) in
    let corners = ap (λ l. take (n + 1) (set l a.i c.in_ok-p.p)) c.copy_within.ensures.after ∙ moved in
    let e2 : length (set c.copy_within.new.self a.i c.in_ok-p.p) ≡ 64 = search rules in
    let long : n + 1 ≤ length (set c.copy_within.new.self a.i c.in_ok-p.p) = omega (arith, e2, few) in
    let seams = rw (c.set_normal-2.ensures, c.set_normal.ensures) at c.seams_from-region.ensures ∙ seams_last _ (n + 1) long (omega arith) in
    done_edit _ _ _ refl
    (done_by _ _ _ _ (asked_done (insert a.i) (insert_asked n a.i a.corner) _ c.in_ok-p.ensures.answer)
    (rw (c.set_normal-2.ensures, c.set_normal.ensures, c.next_index.ensures.0)
    (view_inserted r.vertices _ r.cross_products _ n a.i (omega (arith, e, few)) r.contains_south_pole r.seam_count _ c.in_ok-p.p inside.0 h corners
    (λ first. ap (λ l. take (n + 1) (set l a.i first)) c.copy_within-2.ensures.after ∙ copied_up r.cross_products n a.i first h (omega (arith, e', few)))
    seams)))
