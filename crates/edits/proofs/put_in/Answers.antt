-- `edits::put_in` meets its contract. Assumes nothing.
use native.Mathlib.Omega.{arith}
use mathlib.Core.Path.{◌≡◌, refl, ◌∙◌}
use borrow.Author.Rules.{rules}
use Prim.Native.Nat.{◌≤◌}
use lib.ListN.{length, set, length-set}
use Rattle.region.proofs.Seam.{seams_last}
use Rattle.std.proofs.lemmas.Result.{err_from_is_err_and}
use Rattle.edits.specs.Edits.{put}
use Rattle.edits.proofs.Checked.{refused_edit, done_edit, refused_by, done_by, put_asked, asked_refused, asked_done}
use Rattle.edits.proofs.Moved.{view_put}
use Rattle.edits.proofs.put_in.Goals as goal

pub returns-in_err-p : goal.returns-in_err-p
returns-in_err-p c =
    let a = c.args in
    let p = err_from_is_err_and c.from_residual.result c.from_residual.ensures.1 in
    refused_edit _ _ _ c.in_err-p.field-0.0 (rw (p.1, p.2) refl) (refused_by _ _ _ _ (asked_refused (put a.i) (put_asked a.region.now.count a.i a.corner) _ _ c.in_err-p.ensures.answer))

pub returns : goal.returns
returns c =
    let a = c.args in
    let r = a.region.now in
    let e : length r.vertices ≡ 64 = search rules in
    let few = c.in_ok-p.ensures.inside.1.0 in
    let long : r.count ≤ length (set r.vertices a.i c.in_ok-p.p) = omega (arith, e, few, length-set r.vertices a.i c.in_ok-p.p) in
    let seams = rw c.set_normals.ensures at c.seams_from-region.ensures ∙ seams_last _ r.count long c.in_ok-p.ensures.inside.0 in
    done_edit _ _ _ refl
    (done_by _ _ _ _ (asked_done (put a.i) (put_asked r.count a.i a.corner) _ c.in_ok-p.ensures.answer)
    (rw (c.set_normals.ensures, c.next_index-next.ensures.0)
    (view_put r.vertices r.cross_products r.count a.i (omega (arith, e, few)) r.contains_south_pole r.seam_count _ _ (search rules) seams)))
