-- `cone::d2_max` meets its contract: the largest so far, and the points that are left. Assumes nothing.
use Prim.Native.Nat.{ℕ, suc, ◌+◌, ◌≤◌, ◌<◌}
use native.Mathlib.Omega.{arith}
use mathlib.Core.Path.{◌≡◌, refl, sym, ap, ◌∙◌}
use mathlib.Core.List.{List}
use lib.ListN.{length, drop, get_or, drop_of_length-le}
use lib.Seq.{drop-cons}
use lib.Ieee.{Float}
use Rattle.float.specs.Doubles.{nought, max_of}
use Rattle.coo3d.specs.declared.Coo3D.{Coo3D}
use Rattle.coo3d.specs.declared.Vect3.{Vect3}
use Rattle.coo3d.specs.Vectors.{vect_of_point, squared_dist_of}
use Rattle.cone.specs.Cone.{d2_max_from}
use Rattle.cone.proofs.d2_max.Goals as goal

step : (d2 chord larger : Float) (c : Vect3) (l : List Coo3D) (i : ℕ) (d : Coo3D) → i < length l → chord ≡ squared_dist_of c (vect_of_point (get_or l i d)) → larger ≡ max_of d2 chord
    → d2_max_from larger c (drop (i + 1) l) ≡ d2_max_from d2 c (drop i l)
unfolding d2_max_from
step d2 chord larger c l i d h q r = let e : i + 1 ≡ suc i = omega arith in rw (e, drop-cons l i d h, r, q)

end : (d2 : Float) (c : Vect3) (l : List Coo3D) (i : ℕ) → length l ≤ i → d2_max_from d2 c (drop i l) ≡ d2
unfolding d2_max_from
end d2 c l i h = rw (drop_of_length-le l h)

pub loop-p-init : goal.loop-p-init
loop-p-init c = refl

pub loop-p-preserved : goal.loop-p-preserved
loop-p-preserved c = step _ _ _ _ _ _ _ c.loop-p-test.true c.squared_euclidean_dist.ensures c.max-d2.ensures ∙ c.loop-p.invariant

pub returns : goal.returns
returns c = sym (end c.loop-p.d2 _ _ _ c.loop-p-test.false) ∙ c.loop-p.invariant ∙ ap (λ (v : Vect3). d2_max_from nought v c.args.points.now) c.to_vect3-c.ensures
