-- An edge is in range exactly when one of these holds: it crosses the seam; its ends lie on different sides of the point's meridian. Whatever the point's longitude
-- is. So an edge along a meridian never is.
use mathlib.Core.Path.{◌≡◌, refl, sym, ap, ◌∙◌}
use mathlib.Core.Bool.{Bool, true, false, not, ◌&&◌, beq, cond, true≢false, false≢true}
use lib.Dec.{T}
use lib.IntN.{pos}
use lib.Ieee.{Float, nan, inf, fin, binary64, fits, neg, lt, le, eq, of_bits}
use Rattle.float.specs.Doubles.{◌⊖◌, nought, pi, abs_of, is_finite, half_open}
use Rattle.float.proofs.Finite.{level_less, difference_real}
use Rattle.float.proofs.Magnitude.{short_back, short_on}
use Rattle.float.proofs.Ordered.{at_least, below_higher, one_way, level_neither}
use Rattle.float.proofs.Signs.{difference_below}
use Rattle.lists.specs.Counts.{exactly_one}
use Rattle.lists.proofs.Odd.{one_comm}
use Rattle.region.specs.Edges.{in_range_by_step, in_lon_range, crosses_seam}

-- from p on, and before q
between : (p q : Bool) → (p ≡ true → q ≡ true) → not p && q ≡ exactly_one p q
between true true h = refl
between true false h = absurd (true≢false (sym (h refl)))
between false true h = refl
between false false h = refl

unless : (crosses between : Bool) → beq (not crosses) between ≡ exactly_one crosses between
unless true true = refl
unless true false = refl
unless false true = refl
unless false false = refl

-- a longitude that is not finite has both ends on one side
not_between : (lon low high : Float) → is_finite lon ≡ false → is_finite low ≡ true → is_finite high ≡ true → (half_open low lon high ≡ false) × (exactly_one (lt lon low) (lt lon high) ≡ false)
unfolding le lt eq
not_between lon nan high n p q = absurd (false≢true p)
not_between lon (inf s) high n p q = absurd (false≢true p)
not_between lon (fin s m e) nan n p q = absurd (false≢true q)
not_between lon (fin s m e) (inf t) n p q = absurd (false≢true q)
not_between nan (fin s m e) (fin t k d) n p q = (refl, refl)
not_between (inf true) (fin s m e) (fin t k d) n p q = (refl, refl)
not_between (inf false) (fin s m e) (fin t k d) n p q = (refl, refl)
not_between (fin u l c) (fin s m e) (fin t k d) n p q = absurd (true≢false n)

module _ (lon : Float) where
  -- the meridian's points from `low` on and before `high`
  from_to : (low high : Float) → is_finite low ≡ true → is_finite high ≡ true → lt high low ≡ false → half_open low lon high ≡ exactly_one (lt lon low) (lt lon high)
  from_to low high l h e = go (is_finite lon) refl
    where
      go : (b : Bool) → is_finite lon ≡ b → half_open low lon high ≡ exactly_one (lt lon low) (lt lon high)
      go true f = rw (at_least low lon l f) (between (lt lon low) (lt lon high) (λ (k : lt lon low ≡ true). below_higher lon low high f l h k e))
      go false f = let o = not_between lon low high f l h in o.0 ∙ sym o.1

  pub in_range_is : (a b : Float) → is_finite a ≡ true → is_finite b ≡ true → T (fits binary64 a) → T (fits binary64 b)
      → in_lon_range lon a b ≡ exactly_one (crosses_seam a b) (exactly_one (lt lon a) (lt lon b))
  unfolding in_lon_range crosses_seam
  in_range_is a b p q i j = go (lt (b ⊖ a) nought) refl
    where
      go : (t : Bool) → lt (b ⊖ a) nought ≡ t
          → cond t (beq (le (neg pi) (b ⊖ a)) (half_open b lon a)) (beq (le (b ⊖ a) pi) (half_open a lon b)) ≡ exactly_one (lt pi (abs_of (b ⊖ a))) (exactly_one (lt lon a) (lt lon b))
      go true e =
          let back : lt b a ≡ true = sym (difference_below b a j i) ∙ e in
          rw (short_back (b ⊖ a) e, from_to b a q p (one_way b a q p back)) (unless (lt pi (abs_of (b ⊖ a))) (exactly_one (lt lon b) (lt lon a)) ∙ ap (exactly_one (lt pi (abs_of (b ⊖ a)))) (one_comm (lt lon b) (lt lon a)))
      go false e =
          let on : lt b a ≡ false = sym (difference_below b a j i) ∙ e in
          rw (short_on (b ⊖ a) (difference_real b a q p) e, from_to a b p q on) (unless (lt pi (abs_of (b ⊖ a))) (exactly_one (lt lon a) (lt lon b)))

  -- ---- along a meridian

  at_no_step : (s : Bool) (a b : Float) → half_open a lon b ≡ false → in_range_by_step (fin s 0 (pos 0)) lon a b ≡ false
  unfolding neg le lt eq of_bits
  at_no_step true a b e = ap (beq true) e
  at_no_step false a b e = ap (beq true) e

  none_between : (a b : Float) → is_finite a ≡ true → is_finite b ≡ true → eq a b ≡ true → half_open a lon b ≡ false
  none_between a b p q e = go (is_finite lon) refl
    where
      alike : (x y : Bool) → (x ≡ true → y ≡ true) → (y ≡ true → x ≡ true) → exactly_one x y ≡ false
      alike true true f g = refl
      alike true false f g = absurd (false≢true (f refl))
      alike false true f g = absurd (false≢true (g refl))
      alike false false f g = refl

      go : (t : Bool) → is_finite lon ≡ t → half_open a lon b ≡ false
      go true f =
          let n = level_neither a b p q e in
          from_to a b p q n.1 ∙ alike (lt lon a) (lt lon b) (λ (h : lt lon a ≡ true). below_higher lon a b f p q h n.1) (λ (h : lt lon b ≡ true). below_higher lon b a f q p h n.0)
      go false f = (not_between lon a b f p q).0

  -- equal longitudes are never in range
  pub meridian_never : (a b : Float) → is_finite a ≡ true → is_finite b ≡ true → eq a b ≡ true → in_lon_range lon a b ≡ false
  unfolding in_lon_range
  meridian_never a b p q e = let z = level_less a b p q e in rw z.1 (at_no_step z.0 a b (none_between a b p q e))
