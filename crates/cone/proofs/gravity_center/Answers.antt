-- `cone::gravity_center` meets its contract: the sum so far, and the points that are left. Assumes nothing.
use Prim.Native.Nat.{ℕ, suc, ◌+◌, ◌≤◌, ◌<◌}
use native.Mathlib.Omega.{arith}
use mathlib.Core.Path.{◌≡◌, sym, ◌∙◌}
use mathlib.Core.List.{List}
use lib.ListN.{length, drop, get_or, drop_of_length-le}
use lib.Seq.{drop-cons}
use Rattle.float.specs.Doubles.{◌⊕◌}
use Rattle.coo3d.specs.declared.Coo3D.{Coo3D}
use Rattle.coo3d.specs.declared.Vect3.{Vect3}
use Rattle.cone.specs.Cone.{sum_from}
use Rattle.cone.proofs.gravity_center.Goals as goal

step : (s : Vect3) (l : List Coo3D) (i : ℕ) (d : Coo3D) → i < length l → sum_from (s.x ⊕ (get_or l i d).x) (s.y ⊕ (get_or l i d).y) (s.z ⊕ (get_or l i d).z) (drop (i + 1) l) ≡ sum_from s.x s.y s.z (drop i l)
unfolding sum_from
step s l i d h = let e : i + 1 ≡ suc i = omega arith in rw (e, drop-cons l i d h)

end : (s : Vect3) (l : List Coo3D) (i : ℕ) → length l ≤ i → sum_from s.x s.y s.z (drop i l) ≡ s
unfolding sum_from
end s l i h = rw (drop_of_length-le l h)

pub loop-p-preserved : goal.loop-p-preserved
loop-p-preserved c = step c.loop-p.sum _ _ _ c.loop-p-test.true ∙ c.loop-p.invariant

pub returns : goal.returns
returns c = sym (end c.loop-p.sum _ _ c.loop-p-test.false) ∙ c.loop-p.invariant
