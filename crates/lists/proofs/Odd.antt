-- Laws of `exactly_one`, and of what is odd in number along a list.
use Prim.Native.Nat.{ℕ, suc, ◌+◌, ◌%◌}
use native.Mathlib.Numerals.{one-add}
use native.Mathlib.Omega.{arith}
use mathlib.Core.Path.{◌≡◌, refl, sym, ap, ◌∙◌}
use mathlib.Core.Bool.{Bool, true, false, not, cond}
use mathlib.Core.List.{List, [], ◌∷◌, map}
use borrow.Author.Tests.{eqb-true, eqb-false, eq-eqb, ne_eqb}
use lib.Dec.{eqb}
use Rattle.lists.specs.Counts.{exactly_one, odd_many, how_many, is_odd}
use Rattle.lists.specs.Cyclic.{last_of, along}
use Rattle.lists.proofs.All.{All, none, more}

-- ---- sums of `exactly_one`, put in order

pub one_assoc : (a b c : Bool) → exactly_one (exactly_one a b) c ≡ exactly_one a (exactly_one b c)
one_assoc true true true = refl
one_assoc true true false = refl
one_assoc true false true = refl
one_assoc true false false = refl
one_assoc false true true = refl
one_assoc false true false = refl
one_assoc false false true = refl
one_assoc false false false = refl

pub one_false : (a : Bool) → exactly_one a false ≡ a
one_false true = refl
one_false false = refl

pub false_one : (a : Bool) → exactly_one false a ≡ a
false_one true = refl
false_one false = refl

pub one_comm : (a b : Bool) → exactly_one a b ≡ exactly_one b a
one_comm true true = refl
one_comm true false = refl
one_comm false true = refl
one_comm false false = refl

pub one_self : (a : Bool) → exactly_one a a ≡ false
one_self true = refl
one_self false = refl

pub one_left : (a b c : Bool) → exactly_one a (exactly_one b c) ≡ exactly_one b (exactly_one a c)
one_left a b c = sym (one_assoc a b c) ∙ ap (λ (x : Bool). exactly_one x c) (one_comm a b) ∙ one_assoc b a c

pub one_twice : (a b : Bool) → exactly_one a (exactly_one a b) ≡ b
one_twice true true = refl
one_twice true false = refl
one_twice false true = refl
one_twice false false = refl

pub ruleset xor = (one_assoc, one_comm, one_left, one_self, one_twice, one_false, false_one)

pub by_way : (x y z : Bool) → exactly_one x z ≡ exactly_one (exactly_one x y) (exactly_one y z)
by_way x y z = simp xor

pub on_one_side : (p a b : Bool) → exactly_one (exactly_one p a) (exactly_one p b) ≡ exactly_one a b
on_one_side p a b = simp xor

-- ---- along a list

module _ {A : Type 0} (has : A → Bool) (odd : Bool) where
  -- one element more is passed
  pub odd_turn : (a : A) (rest : List A) → exactly_one odd (odd_many has (a ∷ rest)) ≡ exactly_one (exactly_one odd (has a)) (odd_many has rest)
  unfolding odd_many
  odd_turn a rest = rw one_assoc

  pub odd_done : exactly_one odd (odd_many has []) ≡ odd
  unfolding odd_many
  odd_done = one_false odd

-- by the marks that the elements have
pub odd_marks : {A : Type 0} (has : A → Bool) (l : List A) → odd_many has l ≡ odd_many (λ b. b) (map has l)
unfolding odd_many
odd_marks has [] = refl
odd_marks has (a ∷ l) = ap (exactly_one (has a)) (odd_marks has l)

-- properties that each element has alike
pub odd_same : {A : Type 0} (f g : A → Bool) {l : List A} → All (λ a. f a ≡ g a) l → odd_many f l ≡ odd_many g l
unfolding odd_many
odd_same f g none = refl
odd_same f g (more h t) = rw (h, odd_same f g t)

pub odd_none : {A : Type 0} (f : A → Bool) {l : List A} → All (λ a. f a ≡ false) l → odd_many f l ≡ false
unfolding odd_many
odd_none f none = refl
odd_none f (more h t) = rw (h, odd_none f t)

pub odd_both : {A : Type 0} (f g : A → Bool) (l : List A) → odd_many (λ a. exactly_one (f a) (g a)) l ≡ exactly_one (odd_many f l) (odd_many g l)
unfolding odd_many
odd_both f g [] = refl
odd_both f g (a ∷ l) = ap (exactly_one (exactly_one (f a) (g a))) (odd_both f g l) ∙ pairs (f a) (g a) (odd_many f l) (odd_many g l)
  where
    pairs : (a b c d : Bool) → exactly_one (exactly_one a b) (exactly_one c d) ≡ exactly_one (exactly_one a c) (exactly_one b d)
    pairs a b c d = simp xor

-- ---- and numbers

pub odd_suc : (n : ℕ) → is_odd (suc n) ≡ not (is_odd n)
odd_suc n = go (eqb (n % 2) 1) refl
  where
    go : (b : Bool) → eqb (n % 2) 1 ≡ b → is_odd (suc n) ≡ not b
    go true e = let o = eqb-true (n % 2) 1 e in ne_eqb (suc n % 2) 1 (λ (z : suc n % 2 ≡ 1). omega (arith, o, z))
    go false e = let o = eqb-false (n % 2) 1 e in eq-eqb (suc n % 2) 1 (even o)
      where
        even : (n % 2 ≡ 1 → ⊥) → suc n % 2 ≡ 1
        even o = omega (arith, o)

pub odd_more : (b : Bool) (n : ℕ) → is_odd (cond b 1 0 + n) ≡ exactly_one b (is_odd n)
odd_more true n = ap is_odd (one-add n) ∙ odd_suc n ∙ flip (is_odd n)
  where
    flip : (b : Bool) → not b ≡ exactly_one true b
    flip true = refl
    flip false = refl
odd_more false n = ap is_odd (nothing n) ∙ sym (false_one (is_odd n))
  where
    nothing : (n : ℕ) → 0 + n ≡ n
    nothing n = omega arith

pub odd_number : {A : Type 0} (has : A → Bool) (l : List A) → is_odd (how_many has l) ≡ odd_many has l
unfolding odd_many how_many
odd_number has [] = refl
odd_number has (a ∷ l) = odd_more (has a) (how_many has l) ∙ ap (exactly_one (has a)) (odd_number has l)

-- ---- a walk that ends where it began

-- an odd number of marks is set
abbrev pub odd : List Bool → Bool
odd l = odd_many (λ b. b) l

-- Of a walk's steps those that change sides are odd in number exactly when its ends are on different sides; on a closed walk they are even. Where the side says
-- 'east of a meridian', half-open, these are the crossings of that meridian.
module _ {C : Type 0} (side : C → Bool) where
  abbrev pub changes : C → C → Bool
  changes a b = exactly_one (side a) (side b)

  walk : (from : C) (cs : List C) → odd (along changes from cs) ≡ changes from (last_of from cs)
  unfolding odd_many along last_of
  walk from [] = sym (one_self (side from))
  walk from (c ∷ cs) = ap (exactly_one (changes from c)) (walk c cs) ∙ sym (by_way (side from) (side c) (side (last_of c cs)))

  pub closed_walk : (d : C) (cs : List C) → odd (along changes (last_of d cs) cs) ≡ false
  unfolding odd_many along last_of
  closed_walk d [] = refl
  closed_walk d (c ∷ cs) = walk (last_of c cs) (c ∷ cs) ∙ one_self (side (last_of c cs))
