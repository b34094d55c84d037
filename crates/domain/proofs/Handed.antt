-- What holds of a point that the check hands back. Whoever goes on with such a point cites these; nothing else looks into `point_at`, so that what is
-- handed back can change in one place.
use Prim.Native.Nat.{ℕ}
use mathlib.Core.Path.{◌≡◌, refl, sym, ap, subst}
use mathlib.Core.Bool.{Bool, true, false, not}
use mathlib.Core.List.{[], ◌∷◌}
use Rattle.coo3d.specs.declared.Coo3D.{Coo3D}
use Rattle.coo3d.specs.Points.{of_doubles}
use Rattle.refusal.specs.Answer.{answered, refuse_if}
use Rattle.refusal.proofs.Answers.{never, same_answer}
use Rattle.domain.specs.Domain.{in_domain}
use Rattle.domain.specs.Checks.{point_at}

-- the check hands it back as it is, by whatever index
abbrev pub Settled : Coo3D → Type 0
Settled q = (i : ℕ) → point_at i q ≡ answered q

by_test : (b : Bool) (i : ℕ) (p q : Coo3D) → refuse_if (not b) 1 (i ∷ []) (answered p) ≡ answered q → (b ≡ true) × (p ≡ q)
by_test true i p q e = (refl, same_answer e)
by_test false i p q e = never e

-- a point of the domain
pub settled_in : (q : Coo3D) → in_domain q ≡ true → Settled q
unfolding point_at
settled_in q h i = rw h

module _ (i : ℕ) (p q : Coo3D) (e : point_at i p ≡ answered q) where
  tested : (in_domain p ≡ true) × (p ≡ q)
  unfolding point_at
  tested = by_test (in_domain p) i p q e

  -- the point as it was given
  pub handed_same : q ≡ p
  handed_same = sym tested.1

  -- where the point is
  pub handed_place : (q.x ≡ p.x) × (q.y ≡ p.y) × (q.z ≡ p.z)
  handed_place = (ap (λ (c : Coo3D). c.x) handed_same, ap (λ (c : Coo3D). c.y) handed_same, ap (λ (c : Coo3D). c.z) handed_same)

  pub handed_in : in_domain q ≡ true
  handed_in = subst (λ (x : Coo3D). in_domain x ≡ true) tested.1 tested.0

  pub handed_again : Settled q
  handed_again = settled_in q handed_in

  pub handed_doubles : of_doubles p ≡ true → of_doubles q ≡ true
  handed_doubles d = subst (λ (x : Coo3D). of_doubles x ≡ true) tested.1 d

-- what the check makes of a point of the domain
pub record Handed (p : Coo3D) : Type 0 where
  pub point : Coo3D
  pub answer : (i : ℕ) → point_at i p ≡ answered point
  pub inside : in_domain point ≡ true

pub handed : (p : Coo3D) → in_domain p ≡ true → Handed p
handed p h = record { point = p; answer = settled_in p h; inside = h }
