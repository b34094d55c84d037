-- Counting: how many elements of a list have a property, whether that is an odd number, and whether it is all of them.
use Rattle.std.specs.Prelude.{ℕ, ◌+◌, ◌%◌, Bool, true, false, not, ◌&&◌, cond, List, [], ◌∷◌, eqb}
use Rattle.std.specs.Bool.{beq}

-- exactly one of the two holds
abbrev pub exactly_one : Bool → Bool → Bool
exactly_one a b = not (beq a b)

-- whether an odd number of the list has a property
unfoldable pub odd_many : {A : Type 0} → (A → Bool) → List A → Bool
odd_many has [] = false
odd_many has (a ∷ rest) = exactly_one (has a) (odd_many has rest)

-- how many of the list have it
unfoldable pub how_many : {A : Type 0} → (A → Bool) → List A → ℕ
how_many has [] = 0
how_many has (a ∷ rest) = cond (has a) 1 0 + how_many has rest

abbrev pub is_odd : ℕ → Bool
is_odd n = eqb (n % 2) 1

-- each of the list has it
unfoldable pub every : {A : Type 0} → (A → Bool) → List A → Bool
every has [] = true
every has (a ∷ rest) = has a && every has rest
