-- Lists whose elements lie on two sides in turn. On a closed walk through such a list every step changes sides, but for one where the list is odd in length.
use Prim.Native.Nat.{ℕ, zero, suc, ◌+◌}
use native.Mathlib.Omega.{arith}
use mathlib.Core.Path.{◌≡◌, refl, sym, ap, ◌∙◌}
use mathlib.Core.Bool.{Bool, true, false, not, cond}
use mathlib.Core.List.{List, [], ◌∷◌}
use lib.ListN.{length, take}
use Rattle.std.proofs.Math.Bool.{not-not}
use Rattle.lists.specs.Counts.{exactly_one, how_many, is_odd}
use Rattle.lists.specs.Cyclic.{last_of, along}
use Rattle.lists.proofs.Odd.{odd_suc, changes}

-- the first is on side `s`, the next on the other
pub data Alternates {C : Type 0} (side : C → Bool) : Bool → List C → Type 0 where
  ends : {s : Bool} → Alternates side s []
  next : {s : Bool} {c : C} {cs : List C} → side c ≡ s → Alternates side (not s) cs → Alternates side s (c ∷ cs)

differ : (b : Bool) → exactly_one (not b) b ≡ true
differ true = refl
differ false = refl

module _ {C : Type 0} (side : C → Bool) where
  pub alternates_take : {s : Bool} {cs : List C} (n : ℕ) → Alternates side s cs → Alternates side s (take n cs)
  alternates_take zero h = ends
  alternates_take (suc n) ends = ends
  alternates_take {s} (suc n) (next e h) = next e (alternates_take {s = not s} n h)

  every_step : (from : C) {s : Bool} {cs : List C} → side from ≡ not s → Alternates side s cs → how_many (λ b. b) (along (changes side) from cs) ≡ length cs
  unfolding how_many along
  every_step from h ends = refl
  every_step from {s} h (next {c = c} {cs = cs} e t) =
      let step : changes side from c ≡ true = rw (h, e) (differ s) in
      rw (step, every_step c (e ∙ sym (not-not s)) t) (omega arith)

  -- the last is on the side of the first where the list is odd in length
  last_side : (d : C) {s : Bool} {cs : List C} → side d ≡ not s → Alternates side s cs → side (last_of d cs) ≡ cond (is_odd (length cs)) s (not s)
  unfolding last_of
  last_side d h ends = h
  last_side d {s} h (next {c = c} {cs = cs} e t) = last_side c (e ∙ sym (not-not s)) t ∙ ap (λ (b : Bool). cond (is_odd (length cs)) (not s) b) (not-not s) ∙ other (is_odd (length cs)) ∙ ap (λ (b : Bool). cond b s (not s)) (sym (odd_suc (length cs)))
    where
      other : (b : Bool) → cond b (not s) s ≡ cond (not b) s (not s)
      other true = refl
      other false = refl

  pub closed_steps : (d : C) {s : Bool} {cs : List C} → Alternates side s cs → how_many (λ b. b) (along (changes side) (last_of d cs) cs) + cond (is_odd (length cs)) 1 0 ≡ length cs
  unfolding how_many along last_of
  closed_steps d ends = refl
  closed_steps d {s} (next {c = c} {cs = cs} e t) = go (is_odd (length cs)) (last_side c (e ∙ sym (not-not s)) t) (odd_suc (length cs))
    where
      go : (b : Bool) → side (last_of c cs) ≡ cond b (not s) (not (not s)) → is_odd (suc (length cs)) ≡ not b → (cond (changes side (last_of c cs) c) 1 0 + how_many (λ b. b) (along (changes side) c cs)) + cond (is_odd (suc (length cs))) 1 0 ≡ suc (length cs)
      go true l o =
          let step : changes side (last_of c cs) c ≡ true = rw (l, e) (differ s) in
          rw (step, o, every_step c (e ∙ sym (not-not s)) t) (omega arith)
      go false l o =
          let step : changes side (last_of c cs) c ≡ false = rw (l, e) (alike s) in
          rw (step, o, every_step c (e ∙ sym (not-not s)) t) (omega arith)
        where
          alike : (b : Bool) → exactly_one (not (not b)) b ≡ false
          alike true = refl
          alike false = refl
