-- Lists whose elements all have a property: what an edit of the list keeps of it, and that the first n and the last element have it.
use Prim.Native.Nat.{ℕ, zero, suc}
use mathlib.Core.Path.{◌≡◌, refl}
use mathlib.Core.Bool.{Bool, true, false, ◌&&◌, false≢true}
use mathlib.Core.List.{List, [], ◌∷◌}
use lib.ListN.{set, take}
use Rattle.lists.specs.Counts.{every}
use Rattle.lists.specs.Cyclic.{last_of, ins, del}

pub data All {A : Type 0} (P : A → Type 0) : List A → Type 0 where
  none : All P []
  more : {a : A} {l : List A} → P a → All P l → All P (a ∷ l)

module _ {A : Type 0} {P : A → Type 0} where
  pub all_set : {l : List A} (i : ℕ) (a : A) → P a → All P l → All P (set l i a)
  all_set i a h none = none
  all_set zero a h (more k t) = more h t
  all_set (suc i) a h (more k t) = more k (all_set i a h t)

  pub all_ins : {l : List A} (i : ℕ) (a : A) → P a → All P l → All P (ins i a l)
  unfolding ins
  all_ins zero a h t = more h t
  all_ins (suc i) a h none = more h none
  all_ins (suc i) a h (more {l = l} k t) = more k (all_ins {l = l} i a h t)

  pub all_del : {l : List A} (i : ℕ) → All P l → All P (del i l)
  unfolding del
  all_del i none = none
  all_del zero (more k t) = t
  all_del (suc i) (more k t) = more k (all_del i t)

  pub all_take : {l : List A} (n : ℕ) → All P l → All P (take n l)
  all_take zero h = none
  all_take (suc n) none = none
  all_take (suc n) (more {l = l} k t) = more k (all_take {l = l} n t)

  pub all_last : {l : List A} (d : A) → P d → All P l → P (last_of d l)
  unfolding last_of
  all_last d h none = h
  all_last d h (more {a = a} k t) = all_last a k t

-- two properties of each that give a third
pub all_both : {A : Type 0} (P Q R : A → Type 0) → ((a : A) → P a → Q a → R a) → {l : List A} → All P l → All Q l → All R l
all_both P Q R f none none = none
all_both P Q R f (more {a = a} h t) (more k u) = more (f a h k) (all_both P Q R f t u)

-- ---- by tests

pub both : (a b : Bool) → (a && b) ≡ true → (a ≡ true) × (b ≡ true)
both true true h = (refl, refl)
both true false h = (refl, h)
both false b h = (h, absurd (false≢true h))

pub every_each : {A : Type 0} (has : A → Bool) (l : List A) → every has l ≡ true → All (λ a. has a ≡ true) l
unfolding every
every_each has [] h = none
every_each has (a ∷ l) h = let b = both (has a) (every has l) h in more b.0 (every_each has l b.1)
