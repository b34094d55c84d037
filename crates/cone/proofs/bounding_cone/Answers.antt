-- `cone::bounding_cone` meets its contract: the points are checked, then the centre. Assumes nothing.
use Prim.Native.Nat.{ℕ}
use mathlib.Core.Path.{◌≡◌, sym, ap, ◌∙◌}
use mathlib.Core.Bool.{Bool, true, false}
use mathlib.Core.List.{List, []}
use lib.Ieee.{Float}
use lib.ListN.{take}
use Rattle.std.specs.Prelude.{⊤, Result, Err}
use Rattle.std.specs.Result.{IsErrAnd}
use Rattle.std.proofs.lemmas.Result.{err_from_is_err_and}
use Rattle.refusal.specs.declared.Cause.{Cause}
use Rattle.coo3d.specs.declared.Coo3D.{Coo3D}
use Rattle.coo3d.specs.declared.Vect3.{Vect3}
use Rattle.coo3d.specs.declared.UnitVect3.{UnitVect3}
use Rattle.coo3d.specs.Vectors.{is_finite_unit}
use Rattle.domain.specs.Checks.{points_of}
use Rattle.domain.proofs.Points.{points_count}
use Rattle.refusal.specs.Answer.{answered, refused, outcome_of, answer_of}
use Rattle.cone.specs.declared.Cone.{Cone}
use Rattle.cone.specs.Cone.{bounding_cone_of, cone_at, center_of, gravity_center, d2_max_of}
use Rattle.cone.proofs.bounding_cone.Goals as goal
use Rattle.cone.proofs.bounding_cone.Goals.{In_ok-checked}

handed_on : (l : List Coo3D) (n : ℕ) (r : Result Cone Cause) (o : Result ⊤ Cause) (cause : Cause) (ps : List Coo3D) → IsErrAnd r (λ e. e ≡ cause) → o ≡ Err cause → outcome_of o ps ≡ points_of l n
    → answer_of r ≡ bounding_cone_of l n
unfolding bounding_cone_of
handed_on l n r o cause ps h e k =
    let p = err_from_is_err_and r h in
    let w = ap (λ (x : Result ⊤ Cause). outcome_of x ps) (sym e) ∙ k in
    rw (p.1, p.2, sym w)

taken : (l : List Coo3D) (n : ℕ) (ps : List Coo3D) (s : Vect3) (u : UnitVect3) → answered ps ≡ points_of l n → s ≡ gravity_center ps → u ≡ center_of s → cone_at u ps ≡ bounding_cone_of l n
unfolding bounding_cone_of
taken l n ps s u e p q = rw (sym e, q, p)

made : (u : UnitVect3) (ps : List Coo3D) (d2 : Float) (b : Bool) → b ≡ is_finite_unit u → b ≡ true → d2 ≡ d2_max_of u ps → answered (record { center = u; d2_max = d2 }) ≡ cone_at u ps
made u ps d2 b e t p = simp (sym e ∙ t, p)

not_finite : (u : UnitVect3) (ps : List Coo3D) (b : Bool) → b ≡ is_finite_unit u → b ≡ false → refused 6 [] ≡ cone_at u ps
not_finite u ps b e t = simp (sym e ∙ t)

-- what the check answered, where it is done
done : (c : In_ok-checked) → answered (take c.args.count c.check_points-checked.result.points) ≡ points_of c.args.points c.args.count
done c = ap (λ (o : Result ⊤ Cause). outcome_of o (take c.args.count c.check_points-checked.result.points)) (sym c.in_ok-checked.was) ∙ c.check_points-checked.ensures.answer

pub returns-in_err-checked : goal.returns-in_err-checked
returns-in_err-checked c = handed_on _ _ _ _ _ _ c.from_residual.ensures.1 c.in_err-checked.was c.check_points-checked.ensures.answer

pub shared_ref_as_front-ps : goal.shared_ref_as_front-ps
shared_ref_as_front-ps c = (points_count _ _ _ (sym (done (goal.at.shared_ref_as_front-ps c).In_ok-checked))).1

pub returns-then-not-is_finite : goal.returns-then-not-is_finite
returns-then-not-is_finite c =
    not_finite _ _ _ c.is_finite.ensures c.if-not-is_finite.true
    ∙ taken _ _ _ _ _ (done (goal.at.returns-then-not-is_finite c).In_ok-checked) c.gravity_center.ensures c.center_of-center.ensures

pub returns : goal.returns
returns c =
    made _ _ _ _ c.is_finite.ensures c.if-not-is_finite.false c.d2_max.ensures
    ∙ taken _ _ _ _ _ (done (goal.at.returns c).In_ok-checked) c.gravity_center.ensures c.center_of-center.ensures
