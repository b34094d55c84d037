-- What a build does not depend on, and what one that was not refused is made of.
use Prim.Native.Nat.{ℕ, ◌≤◌, ◌<◌}
use mathlib.Core.Path.{◌≡◌, refl, sym, ap, ◌∙◌}
use mathlib.Core.Bool.{Bool, false}
use mathlib.Core.List.{List}
use lib.ListN.{take}
use Rattle.coo3d.specs.declared.Coo3D.{Coo3D}
use Rattle.domain.specs.Checks.{points_of}
use Rattle.domain.proofs.Counts.{count_answered}
use Rattle.domain.proofs.Inside.{Good, points_back, back_in}
use Rattle.domain.proofs.Points.{points_first}
use Rattle.refusal.specs.Answer.{Answer, answered, refused, and_then}
use Rattle.refusal.proofs.Answers.{never, same_answer}
use Rattle.region.specs.declared.ContainsSouthPoleMethod.{ContainsSouthPoleMethod}
use Rattle.region.specs.View.{View, made}
use Rattle.region.specs.Poles.{fixed_rule}
use Rattle.region.specs.Region.{flag_of, build_of}
use Rattle.region.proofs.Rules.{some}
use Rattle.region.proofs.Flags.{flag_fixed}

-- the points past the count do not matter
pub build_first : (l m : List Coo3D) (n : ℕ) (rule : ContainsSouthPoleMethod) → take n l ≡ take n m → build_of l n rule ≡ build_of m n rule
unfolding build_of
build_first l m n rule e = rw (points_first l m n e)

-- the corners that the check hands back, and the flag that the rule sets for them
pub record BuiltOf (l : List Coo3D) (n : ℕ) (rule : ContainsSouthPoleMethod) (v : View) : Type 0 where
  pub corners : List Coo3D
  pub flag : Bool
  pub taken : points_of l n ≡ answered corners
  pub ruled : flag_of (made corners false) rule ≡ answered flag
  pub view : v ≡ made corners flag

module _ (l : List Coo3D) (n : ℕ) (rule : ContainsSouthPoleMethod) (v : View) where
  with_flag_lem : (cs : List Coo3D) (y : Answer Bool) → points_of l n ≡ answered cs → flag_of (made cs false) rule ≡ y → and_then y (λ flag. answered (made cs flag)) ≡ answered v → BuiltOf l n rule v
  with_flag_lem cs (answered f) p q e = record { corners = cs; flag = f; taken = p; ruled = q; view = sym (same_answer e) }
  with_flag_lem cs (refused k vs) p q e = never e

  with_points : (x : Answer (List Coo3D)) → points_of l n ≡ x → and_then x (λ cs. and_then (flag_of (made cs false) rule) (λ flag. answered (made cs flag))) ≡ answered v → BuiltOf l n rule v
  with_points (answered cs) p e = with_flag_lem cs (flag_of (made cs false) rule) p refl e
  with_points (refused k vs) p e = never e

  pub build_answered : build_of l n rule ≡ answered v → BuiltOf l n rule v
  unfolding build_of
  build_answered e = with_points (points_of l n) refl e

flag_count : (v : View) (rule : ContainsSouthPoleMethod) (f : Bool) → flag_of v rule ≡ answered f → (0 < v.count) × (v.count ≤ 64)
unfolding flag_of
flag_count v rule f e = count_answered v.count _ f e

pub built_good : {l : List Coo3D} {n : ℕ} {rule : ContainsSouthPoleMethod} {v : View} (b : BuiltOf l n rule v) → Good b.corners
built_good {l} {n} {rule} b =
    let c = flag_count (made b.corners false) rule b.flag b.ruled in
    record { inside = back_in (points_back l n b.corners b.taken); some = c.0; few = c.1 }

-- by a fixed rule the flag is the rule's
pub built_fixed : {l : List Coo3D} {n : ℕ} {f : Bool} {v : View} (b : BuiltOf l n (fixed_rule f) v) → v ≡ made b.corners f
built_fixed {f = f} b =
    let c = flag_count (made b.corners false) (fixed_rule f) b.flag b.ruled in
    b.view ∙ ap (made b.corners) (sym (same_answer (sym (flag_fixed (made b.corners false) f (some c.0) c.1) ∙ b.ruled)))
