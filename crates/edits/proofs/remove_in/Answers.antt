-- `edits::remove_in` meets its contract. Assumes nothing.
use Prim.Native.Nat.{◌-◌, ◌≤◌, ◌<◌}
use native.Mathlib.Omega.{arith}
use mathlib.Core.Path.{◌≡◌, refl, sym, ap, ◌∙◌}
use borrow.Author.Rules.{rules}
use lib.ListN.{length, take}
use Rattle.region.proofs.Seam.{seams_last}
use Rattle.std.proofs.lemmas.Result.{err_from_is_err_and}
use Rattle.edits.proofs.Checked.{refused_edit, done_edit, refused_by, done_by}
use Rattle.edits.proofs.Moved.{view_removed}
use Rattle.edits.proofs.Neighbours.{copied_down}
use Rattle.edits.proofs.remove_in.Goals as goal

pub returns-in_err-removable : goal.returns-in_err-removable
returns-in_err-removable c =
    let p = err_from_is_err_and c.from_residual.result c.from_residual.ensures.1 in
    refused_edit _ _ _ c.in_err-removable.field-0.0 (rw (p.1, p.2) refl) (refused_by _ _ _ _ (sym c.in_err-removable.ensures.answer))

pub returns : goal.returns
returns c =
    let a = c.args in
    let r = a.region.now in
    let n = r.count in
    let e : length r.vertices ≡ 64 = search rules in
    let e' : length r.cross_products ≡ 64 = search rules in
    let inside = c.in_ok-removable.ensures.inside in
    let there = inside.0 in
    let two = inside.1.0 in
    let few = inside.1.1 in
    let corners = ap (λ l. take (n - 1) l) c.copy_within.ensures.after ∙ copied_down r.vertices n a.i there (omega (arith, e, few)) in
    let normals = ap (λ l. take (n - 1) l) c.copy_within-2.ensures.after ∙ copied_down r.cross_products n a.i there (omega (arith, e', few)) in
    let e2 : length c.copy_within.new.self ≡ 64 = search rules in
    let long : n - 1 ≤ length c.copy_within.new.self = omega (arith, e2, few) in
    let some : 0 < n - 1 = omega (arith, two) in
    let seams = rw c.set_normal.ensures at c.seams_from-region.ensures ∙ seams_last _ (n - 1) long some in
    done_edit _ _ _ refl
    (done_by _ _ _ _ (sym c.in_ok-removable.ensures.answer)
    (rw (c.set_normal.ensures, c.index_left-left.ensures.0)
    (view_removed r.vertices _ r.cross_products _ n a.i (omega (arith, e, few)) r.contains_south_pole r.seam_count _ there two corners normals seams)))
