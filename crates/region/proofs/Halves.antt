-- The corners of a region lie on two halves of the sphere at a point, such that every edge in range there goes from one half to the other. So on a closed outline of an
-- odd number of edges one is not in range.
use mathlib.Core.Path.{◌≡◌, refl, sym, ◌∙◌}
use mathlib.Core.Bool.{Bool, true, false, true≢false, false≢true}
use lib.Dec.{T}
use lib.Ieee.{Float, binary64, fits, lt}
use Rattle.std.proofs.lemmas.Bool.{false_from_ne_true}
use Rattle.float.specs.Doubles.{nought, two_pi, is_finite}
use Rattle.float.proofs.Ordered.{one_way}
use Rattle.float.proofs.Steps.{Fraction, fraction, far, far_back, far_first, far_last, far_once}
use Rattle.lists.specs.Counts.{exactly_one}
use Rattle.lists.proofs.Odd.{on_one_side, one_false}
use Rattle.region.specs.Edges.{in_lon_range, crosses_seam}
use Rattle.region.proofs.InRange.{in_range_is}

-- a longitude of the domain
pub record Longitude (x : Float) : Type 0 where
  pub finite : is_finite x ≡ true
  pub low : lt x nought ≡ false
  pub high : lt two_pi x ≡ false

module _ (x y z : Float) (i : Longitude x) (j : Longitude y) (k : Longitude z) (xy : lt y x ≡ false) (yz : lt z y ≡ false) where
  abbrev fx : Fraction x (fraction x i.finite i.low).0 (fraction x i.finite i.low).1
  fx = (fraction x i.finite i.low).2

  abbrev fy : Fraction y (fraction y j.finite j.low).0 (fraction y j.finite j.low).1
  fy = (fraction y j.finite j.low).2

  abbrev fz : Fraction z (fraction z k.finite k.low).0 (fraction z k.finite k.low).1
  fz = (fraction z k.finite k.low).2

  -- a step beyond PI from y to z, seen from x, and one from x to y, seen from z
  from_below : far y z ≡ true → (far x y ≡ false) × (far x z ≡ true)
  from_below f = (false_from_ne_true (far x y) (λ (g : far x y ≡ true). far_once fx fy fz xy yz k.high g f), far_last fx fy fz xy yz f)

  from_above : far x y ≡ true → (far z x ≡ true) × (far z y ≡ false)
  from_above f = (sym (far_back fx fz) ∙ far_first fx fy fz xy yz f, sym (far_back fy fz) ∙ false_from_ne_true (far y z) (λ (g : far y z ≡ true). far_once fx fy fz xy yz k.high f g))

  -- a step up to PI from x to z, seen from y between them
  from_between : far x z ≡ false → (far y x ≡ false) × (far y z ≡ false)
  from_between f = (
    sym (far_back fx fy) ∙ false_from_ne_true (far x y) (λ (g : far x y ≡ true). true≢false (sym (far_first fx fy fz xy yz g) ∙ f)),
    false_from_ne_true (far y z) (λ (g : far y z ≡ true). true≢false (sym (far_last fx fy fz xy yz g) ∙ f)),
  )

-- the half on which a corner lies: east of the point's meridian and no further than PI, or further than PI and not east
abbrev pub half : Float → Float → Bool
half lon c = exactly_one (lt lon c) (far lon c)

module _ (lon : Float) (l : Longitude lon) where
  module _ (a b : Float) (i : Longitude a) (j : Longitude b) where
    turned : far a b ≡ far b a
    turned = far_back (fraction a i.finite i.low).2 (fraction b j.finite j.low).2

    crossing : (p : Bool) → exactly_one (far a b) (exactly_one p p) ≡ true → far a b ≡ true
    crossing true e = sym (one_false (far a b)) ∙ e
    crossing false e = sym (one_false (far a b)) ∙ e

    -- both are east of the meridian, or neither
    both_east : lt lon a ≡ true → lt lon b ≡ true → far a b ≡ true → exactly_one (far lon a) (far lon b) ≡ true
    both_east p q f = go (lt b a) refl
      where
        go : (t : Bool) → lt b a ≡ t → exactly_one (far lon a) (far lon b) ≡ true
        go false e = let h = from_below lon a b l i j (one_way lon a l.finite i.finite p) e f in rw (h.0, h.1)
        go true e = let h = from_below lon b a l j i (one_way lon b l.finite j.finite q) (one_way b a j.finite i.finite e) (sym turned ∙ f) in rw (h.0, h.1)

    both_west : lt lon a ≡ false → lt lon b ≡ false → far a b ≡ true → exactly_one (far lon a) (far lon b) ≡ true
    both_west p q f = go (lt b a) refl
      where
        go : (t : Bool) → lt b a ≡ t → exactly_one (far lon a) (far lon b) ≡ true
        go false e = let h = from_above a b lon i j l e q f in rw (h.0, h.1)
        go true e = let h = from_above b a lon j i l (one_way b a j.finite i.finite e) p (sym turned ∙ f) in rw (h.0, h.1)

    short : exactly_one (far a b) true ≡ true → far a b ≡ false
    short e = go (far a b) e
      where
        go : (f : Bool) → exactly_one f true ≡ true → f ≡ false
        go true h = absurd (false≢true h)
        go false h = refl

    by_sides : (p q : Bool) → lt lon a ≡ p → lt lon b ≡ q → exactly_one (far a b) (exactly_one p q) ≡ true → exactly_one (exactly_one p (far lon a)) (exactly_one q (far lon b)) ≡ true
    by_sides true true p q e = on_one_side true (far lon a) (far lon b) ∙ (both_east p q (crossing true e))
    by_sides false false p q e = on_one_side false (far lon a) (far lon b) ∙ (both_west p q (crossing false e))
    by_sides true false p q e = let h = from_between b lon a j l i q (one_way lon a l.finite i.finite p) (sym turned ∙ short e) in rw (h.0, h.1)
    by_sides false true p q e = let h = from_between a lon b i l j p (one_way lon b l.finite j.finite q) (short e) in rw (h.0, h.1)

    pub in_range_halves : T (fits binary64 a) → T (fits binary64 b) → in_lon_range lon a b ≡ true → exactly_one (half lon a) (half lon b) ≡ true
    unfolding crosses_seam
    in_range_halves p q h = by_sides (lt lon a) (lt lon b) refl refl (sym (in_range_is lon a b i.finite j.finite p q) ∙ h)
