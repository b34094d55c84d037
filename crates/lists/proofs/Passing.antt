-- Loops that pass the first n entries of an array in order: what is left from index i on, and what a store at i adds. Assumes nothing.
use Prim.Native.Nat.{ℕ, ◌+◌, ◌≤◌, ◌<◌}
use native.Mathlib.Numerals.{add-one}
use mathlib.Core.Path.{◌≡◌}
use mathlib.Core.List.{List, [], ◌∷◌, ◌++◌, append_assoc}
use lib.ListN.{length, take, drop, get_or, set, drop_of_length-le}
use lib.Seq.{drop-cons, get_or-take, length-take-le, take-suc-set}

module _ {A : Type 0} (l : List A) (n i : ℕ) where
  pub next_left : (d : A) → n ≤ length l → i < n → drop i (take n l) ≡ get_or l i d ∷ drop (i + 1) (take n l)
  next_left d long below =
      let a : i < length (take n l) = simp length-take-le (below) in
      rw (add-one, drop-cons (take n l) i d, get_or-take n l i d)

  pub none_left : n ≤ length l → n ≤ i → drop i (take n l) ≡ []
  none_left long passed =
      let a : length (take n l) ≤ i = simp length-take-le (passed) in
      rw (drop_of_length-le (take n l) a)

pub stored : {A : Type 0} (l : List A) (i : ℕ) (a : A) (rest : List A) → i < length l → take (i + 1) (set l i a) ++ rest ≡ take i l ++ (a ∷ rest)
stored l i a rest room = rw (add-one, take-suc-set, append_assoc)
