-- `domain::in_domain` meets its contract. Assumes nothing.
use mathlib.Core.Path.{◌≡◌, refl, sym}
use mathlib.Core.Bool.{Bool, true, false, ◌&&◌, and-false, and_assoc, false≢true}
use lib.Ieee.{neg, of_bits}
use Rattle.coo3d.specs.declared.Coo3D.{Coo3D}
use Rattle.float.specs.Doubles.{inclusive, nought, two, half_pi, two_pi}
use Rattle.float.proofs.Finite.{between_finite}
use Rattle.domain.specs.Domain.{in_domain}
use Rattle.domain.proofs.in_domain.Goals as goal

-- where a test holds only with another, the two are the one
absorb : (f w : Bool) → (w ≡ true → f ≡ true) → (f && w) ≡ w
absorb f true h = simp (h refl)
absorb f false h = and-false f

left : (a b : Bool) → (a && b) ≡ true → a ≡ true
left true b h = refl
left false b h = h

right : (a b : Bool) → (a && b) ≡ true → b ≡ true
right true b h = h
right false b h = absurd (false≢true h)

module _ (f1 f2 f3 f4 f5 w1 w2 w3 w4 w5 : Bool) (h1 : w1 ≡ true → f1 ≡ true) (h2 : w2 ≡ true → f2 ≡ true) (h3 : w3 ≡ true → f3 ≡ true) (h4 : w4 ≡ true → f4 ≡ true) (h5 : w5 ≡ true → f5 ≡ true) where
  absorb_five : ((f1 && f2 && f3 && f4 && f5) && (w1 && w2 && w3) && w4 && w5) ≡ (w1 && w2 && w3 && w4 && w5)
  absorb_five =
      let w : Bool = w1 && (w2 && (w3 && (w4 && w5))) in
      let e1 : (f1 && w) ≡ w = absorb f1 w (λ (t : w ≡ true). h1 (left w1 _ t)) in
      let e2 : (f2 && w) ≡ w = absorb f2 w (λ (t : w ≡ true). h2 (left w2 _ (right w1 _ t))) in
      let e3 : (f3 && w) ≡ w = absorb f3 w (λ (t : w ≡ true). h3 (left w3 _ (right w2 _ (right w1 _ t)))) in
      let e4 : (f4 && w) ≡ w = absorb f4 w (λ (t : w ≡ true). h4 (left w4 _ (right w3 _ (right w2 _ (right w1 _ t))))) in
      let e5 : (f5 && w) ≡ w = absorb f5 w (λ (t : w ≡ true). h5 (right w4 _ (right w3 _ (right w2 _ (right w1 _ t))))) in
      simp and_assoc (rw (e5, e4, e3, e2, e1))

-- the bounds of each coordinate leave only finite numbers
finite_too : (p : Coo3D) → in_domain p ≡ (inclusive (neg two) p.x two && inclusive (neg two) p.y two && inclusive (neg two) p.z two && inclusive nought p.lon two_pi && inclusive (neg half_pi) p.lat half_pi)
unfolding in_domain of_bits neg
finite_too p = absorb_five _ _ _ _ _ _ _ _ _ _ (between_finite _ _ _ _ _ _ p.x) (between_finite _ _ _ _ _ _ p.y) (between_finite _ _ _ _ _ _ p.z) (between_finite _ _ _ _ _ _ p.lon) (between_finite _ _ _ _ _ _ p.lat)

pub returns : goal.returns
returns c =
    let a = c.args in
    simp (c.within.ensures, c.within-2.ensures, c.within-3.ensures, c.within-4.ensures, c.within-5.ensures)
    (sym (finite_too a.p))
