-- How many elements of a list have a property: a loop that counts them, and that they are no more than the list has.
use Prim.Native.Nat.{ℕ, ◌+◌, ◌≤◌}
use native.Mathlib.Omega.{arith}
use mathlib.Core.Path.{◌≡◌, refl, ap}
use mathlib.Core.Bool.{Bool, true, false, cond, false≢true}
use mathlib.Core.List.{List, [], ◌∷◌, map}
use lib.ListN.{length}
use Rattle.lists.specs.Counts.{how_many}
use Rattle.lists.proofs.All.{All, none, more}

pub one_more : (b : Bool) → cond b 1 0 ≤ 1
one_more true = omega arith
one_more false = omega arith

module _ {A : Type 0} (has : A → Bool) where
  -- one element more is passed
  pub many_turn : (n : ℕ) (a : A) (rest : List A) → n + how_many has (a ∷ rest) ≡ (n + cond (has a) 1 0) + how_many has rest
  unfolding how_many
  many_turn n a rest = omega arith

  pub many_done : (n : ℕ) → n + how_many has [] ≡ n
  unfolding how_many
  many_done n = omega arith

  pub many_most : (l : List A) → how_many has l ≤ length l
  unfolding how_many
  many_most [] = omega arith
  many_most (a ∷ l) = omega (arith, one_more (has a), many_most l)

  -- by the marks that the elements have
  pub many_marks : (l : List A) → how_many has l ≡ how_many (λ b. b) (map has l)
  unfolding how_many
  many_marks [] = refl
  many_marks (a ∷ l) = ap (λ (n : ℕ). cond (has a) 1 0 + n) (many_marks l)

-- properties that each element has alike
pub many_same : {A : Type 0} (f g : A → Bool) {l : List A} → All (λ a. f a ≡ g a) l → how_many f l ≡ how_many g l
unfolding how_many
many_same f g none = refl
many_same f g (more h t) = rw (h, many_same f g t)

-- no more have a property than one that it implies
pub many_fewer : {A : Type 0} (f g : A → Bool) {l : List A} → All (λ a. f a ≡ true → g a ≡ true) l → how_many f l ≤ how_many g l
unfolding how_many
many_fewer f g none = omega arith
many_fewer f g (more {a = a} {l = l} h t) = omega (arith, fewer (f a) (g a) h, many_fewer f g t)
  where
    fewer : (x y : Bool) → (x ≡ true → y ≡ true) → cond x 1 0 ≤ cond y 1 0
    fewer true true k = omega arith
    fewer true false k = absurd (false≢true (k refl))
    fewer false y k = omega arith
