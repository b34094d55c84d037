-- An insertion and a removal, by what stands before the place and what stands behind it. For any type of elements. Assumes nothing.
use Prim.Native.Nat.{ℕ, zero, suc}
use mathlib.Core.Path.{◌≡◌, refl, ap}
use mathlib.Core.List.{List, [], ◌∷◌, ◌++◌}
use lib.ListN.{take, drop}
use Rattle.lists.specs.Cyclic.{ins, del}

module _ {A : Type 0} where
  pub ins_is : (i : ℕ) (a : A) (l : List A) → ins i a l ≡ take i l ++ (a ∷ drop i l)
  unfolding ins
  ins_is zero a l = refl
  ins_is (suc i) a [] = refl
  ins_is (suc i) a (x ∷ l) = ap (λ (m : List A). x ∷ m) (ins_is i a l)

  pub del_is : (i : ℕ) (l : List A) → del i l ≡ take i l ++ drop (suc i) l
  unfolding del
  del_is zero [] = refl
  del_is (suc i) [] = refl
  del_is zero (x ∷ l) = refl
  del_is (suc i) (x ∷ l) = ap (λ (m : List A). x ∷ m) (del_is i l)
