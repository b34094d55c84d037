-- `region_file::checked_corners_at` meets its contract. Assumes nothing.
use Prim.Native.Nat.{ℕ, ◌+◌, ◌*◌, ◌≤◌, ◌<◌}
use native.Mathlib.Omega.{arith}
use native.Mathlib.Nat.{le_of_eq}
use mathlib.Core.Path.{◌≡◌, sym, ap, ◌∙◌}
use mathlib.Core.List.{List}
use lib.ListN.{length, take, set, length-set}
use lib.Seq.{take_all}
use borrow.Author.Rules.{rules}
use Rattle.coo3d.specs.declared.Coo3D.{Coo3D}
use Rattle.domain.specs.Checks.{point_at, points_from}
use Rattle.domain.proofs.Points.{so_far, far_start, far_good, far_bad, far_end}
use Rattle.refusal.specs.Answer.{answered, refused}
use Rattle.region.specs.View.{nowhere}
use Rattle.region_file.specs.Bytes.{corner_at, corners_at}
use Rattle.region_file.proofs.Reading.{length_corners, corner_of}
use Rattle.region_file.proofs.Refusing.{handed_on_beside}
use Rattle.region_file.proofs.checked_corners_at.Goals as goal

-- n corners, the first i of them in `out`
module _ (s : List ℕ) (at n : ℕ) where
  abbrev cs : List Coo3D
  cs = corners_at s at n

  all : take n cs ≡ cs
  all = take_all n cs (le_of_eq (length_corners s at n))

  long : n ≤ length cs
  long = let e = length_corners s at n in omega (arith, e)

  starts : (out : List Coo3D) → so_far cs n 0 out ≡ points_from 0 cs
  starts out = far_start cs n out ∙ ap (points_from 0) all

  module _ (i : ℕ) (out : List Coo3D) (below : i < n) (so : so_far cs n i out ≡ points_from 0 cs) where
    one : point_at i (corner_at s (at + 40 * i)) ≡ point_at i (lib.ListN.get_or cs i nowhere)
    one = ap (point_at i) (sym (corner_of s at n i nowhere below))

    good : i < length out → (q : Coo3D) → answered q ≡ point_at i (corner_at s (at + 40 * i)) → so_far cs n (i + 1) (set out i q) ≡ points_from 0 cs
    good room q p = sym (far_good cs n i out nowhere long below q room (sym (p ∙ one))) ∙ so

    bad : (k : ℕ) (vs : List ℕ) → refused k vs ≡ point_at i (corner_at s (at + 40 * i)) → refused k vs ≡ points_from 0 cs
    bad k vs p = sym (far_bad cs n i out nowhere long below k vs (p ∙ one)) ∙ so

  ends : (i : ℕ) (out : List Coo3D) → i ≡ n → so_far cs n i out ≡ points_from 0 cs → answered (take n out) ≡ points_from 0 cs
  ends i out p so = sym (far_end cs n i out long p) ∙ so

pub loop-i-init : goal.loop-i-init
loop-i-init c = (search rules, starts _ _ _ _)

pub returns-in_err-corners : goal.returns-in_err-corners
returns-in_err-corners c = handed_on_beside _ _ _ _ c.from_residual.ensures.1 (bad _ _ _ _ _ c.loop-i-test.true c.loop-i.invariant.1 _ _ c.in_err-corners.ensures)

pub loop-i-preserved : goal.loop-i-preserved
loop-i-preserved c =
    let inv = c.loop-i.invariant in
    (length-set c.loop-i.corners c.loop-i.i _ ∙ inv.0, good _ _ _ _ _ c.loop-i-test.true inv.1 (search rules) _ c.in_ok-corners.ensures)

pub returns : goal.returns
returns c = ends _ _ _ _ _ (search rules) c.loop-i.invariant.1
