-- An edge that fits has one end at the parallel or south of it and the other north of it: a loop passes every other edge after a comparison for each end.
use mathlib.Core.Path.{◌≡◌, refl, sym, ◌∙◌}
use mathlib.Core.Bool.{Bool, true, false, ◌&&◌, cond, beq, not}
use lib.Ieee.{Float, lt, le}
use Rattle.std.proofs.lemmas.Float.{lt_irrefl, lt_of_le_of_lt, T_from_true}
use Rattle.coo3d.specs.declared.Coo3D.{Coo3D}
use Rattle.parallels.specs.Parallels.{south_of, north_of, spans_lat}

le_not_lt : (x y : Float) → le x y ≡ true → lt y x ≡ false
le_not_lt x y h = go (lt y x) refl
  where
    go : (b : Bool) → lt y x ≡ b → b ≡ false
    go true e = absurd (lt_irrefl x (lt_of_le_of_lt x y x (T_from_true _ h) (T_from_true _ e)))
    go false e = refl

-- ---- an edge with both ends on one side does not fit

shut : (p q : Bool) → (p ≡ true → q ≡ false) → (p && q) ≡ false
shut true q h = h refl
shut false q h = refl

by_order : (from to : Coo3D) (lat : Float) (s : Bool) → le from.lat lat ≡ le to.lat lat → (le (cond s to from).lat lat && lt lat (cond s from to).lat) ≡ false
by_order from to lat true h = shut (le to.lat lat) _ (λ k. le_not_lt from.lat lat (h ∙ k))
by_order from to lat false h = shut (le from.lat lat) _ (λ k. le_not_lt to.lat lat (sym h ∙ k))

pub one_side : (from to : Coo3D) (lat : Float) → le from.lat lat ≡ le to.lat lat → spans_lat from to lat ≡ false
unfolding spans_lat south_of north_of
one_side from to lat h = by_order from to lat (lt to.lat from.lat) h

pub alike : (p q : Bool) → not (beq p q) ≡ false → p ≡ q
alike true true h = refl
alike true false h = h
alike false true h = sym h
alike false false h = refl
