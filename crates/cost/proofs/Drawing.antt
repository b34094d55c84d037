-- Laws for the loop that draws the outline's corners.
use Prim.Native.Nat.{ℕ, suc, ◌+◌, ◌-◌, ◌≤◌, ◌<◌}
use native.Mathlib.Omega.{arith}
use mathlib.Core.Path.{◌≡◌, refl, sym, ap, ◌∙◌}
use mathlib.Core.Bool.{Bool, true, not}
use mathlib.Core.List.{List, ◌∷◌, ◌++◌, append-nil}
use lib.Ieee.{Float}
use lib.ListN.{length, take, set, length-set, replicate}
use lib.Seq.{take-length}
use Rattle.coo3d.specs.declared.Coo3D.{Coo3D}
use Rattle.float.specs.Doubles.{◌⊕◌, ◌⊖◌, ◌⊗◌, nought, one}
use Rattle.lists.proofs.Passing.{stored}
use Rattle.cost.specs.Outline.{degree, cos_degree, sin_degree, tooth, teeth, saw}

-- the corners before i are drawn
pub record Drawing (corners : List Coo3D) (isEast : Bool) (lat c s : Float) (i : ℕ) : Type 0 where
  pub below : i ≤ 64
  pub full : length corners ≡ 64
  pub drawn : take i corners ++ teeth (64 - i) isEast lat c s ≡ saw

one_drawn : (k : ℕ) (isEast : Bool) (lat c s : Float) → 0 < k → teeth k isEast lat c s ≡ tooth isEast lat c s ∷ teeth (k - 1) (not isEast) (lat ⊕ degree) (c ⊗ cos_degree ⊖ s ⊗ sin_degree) (s ⊗ cos_degree ⊕ c ⊗ sin_degree)
unfolding teeth
one_drawn k isEast lat c s h = go (k - 1) (omega arith)
  where
    go : (m : ℕ) → k ≡ suc m → teeth k isEast lat c s ≡ tooth isEast lat c s ∷ teeth m (not isEast) (lat ⊕ degree) (c ⊗ cos_degree ⊖ s ⊗ sin_degree) (s ⊗ cos_degree ⊕ c ⊗ sin_degree)
    go m e = rw e

pub drawing_starts : Drawing (replicate 64 (record { x = one; y = nought; z = nought; lon = nought; lat = nought })) true degree cos_degree sin_degree 1
unfolding saw
drawing_starts = record { below = omega arith; full = refl; drawn = refl }

module _ {corners : List Coo3D} {isEast : Bool} {lat c s : Float} {i : ℕ} (inv : Drawing corners isEast lat c s i) where
  pub drawing_turn : i < 64 → (corner : Coo3D) → corner ≡ tooth isEast lat c s → Drawing (set corners i corner) (not isEast) (lat ⊕ degree) (c ⊗ cos_degree ⊖ s ⊗ sin_degree) (s ⊗ cos_degree ⊕ c ⊗ sin_degree) (i + 1)
  drawing_turn more corner e =
      let full = inv.full in
      let room : i < length corners = omega (arith, more, full) in
      let left : 0 < 64 - i = omega (arith, more) in
      let less : 64 - (i + 1) ≡ 64 - i - 1 = omega arith in
      record {
        below = omega (arith, more);
        full = length-set corners i corner ∙ inv.full;
        drawn = stored corners i corner _ room ∙ rw (less, e) (ap (λ (l : List Coo3D). take i corners ++ l) (sym (one_drawn (64 - i) isEast lat c s left))) ∙ inv.drawn;
      }

  pub drawing_ends : 64 ≤ i → corners ≡ saw
  unfolding teeth
  drawing_ends over =
      let below = inv.below in
      let all : i ≡ length corners = omega (arith, below, over, inv.full) in
      let none : 64 - i ≡ 0 = omega (arith, over) in
      sym (take-length corners) ∙ ap (λ (k : ℕ). take k corners) (sym all) ∙ sym (append-nil (take i corners)) ∙ ap (λ (k : ℕ). take i corners ++ teeth k isEast lat c s) (sym none) ∙ inv.drawn
