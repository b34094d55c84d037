-- Laws for loops that pass the corners in order, `from` being the one before: normals and `Basic`.
use Prim.Native.Nat.{ℕ, ◌+◌, ◌-◌, ◌≤◌, ◌<◌}
use native.Mathlib.Omega.{arith}
use mathlib.Core.Path.{◌≡◌, refl, sym, ap, ◌∙◌}
use mathlib.Core.Bool.{◌&&◌}
use mathlib.Core.List.{List, ◌++◌, append-nil}
use lib.Ieee.{Float, lt}
use native.Mathlib.Nat.{le_refl}
use native.Mathlib.Numerals.{add-one}
use lib.ListN.{length, take, drop, get_or, set, drop_of_length-le}
use lib.Seq.{drop-cons, take-length}
use Rattle.coo3d.specs.declared.Coo3D.{Coo3D}
use Rattle.coo3d.specs.declared.Vect3.{Vect3}
use Rattle.float.specs.Doubles.{◌⊕◌, ◌⊖◌, nought, pi, abs_of}
use Rattle.lists.specs.Cyclic.{last_of, along}
use Rattle.lists.proofs.Passing.{next_left, none_left, stored}
use Rattle.region.specs.Edges.{normal_of}
use Rattle.region.specs.View.{nowhere, normals_of}
use Rattle.region.specs.Poles.{step_of, basic_from, basic_of}
use Rattle.region.proofs.Edges.{last_take}

module _ (l : List Coo3D) (n : ℕ) where
  pub normals_start : (e : Coo3D) → 0 < n → n ≤ length l → along normal_of (get_or l (n - 1) e) (take n l) ≡ normals_of (take n l)
  unfolding normals_of
  normals_start e some long = ap (λ (c : Coo3D). along normal_of c (take n l)) (sym (last_take l n nowhere e some long))

  -- one normal more is stored
  pub normals_turn : (from : Coo3D) (out : List Vect3) (i : ℕ) (e : Coo3D) → n ≤ length l → i < n → i < length out
      → take i out ++ along normal_of from (drop i (take n l)) ≡ take (i + 1) (set out i (normal_of from (get_or l i e))) ++ along normal_of (get_or l i e) (drop (i + 1) (take n l))
  unfolding along
  normals_turn from out i e long below room = rw (next_left l n i e long below) (sym (stored out i (normal_of from (get_or l i e)) (along normal_of (get_or l i e) (drop (i + 1) (take n l))) room))

  pub normals_done : (from : Coo3D) (out : List Vect3) (i : ℕ) → n ≤ length l → i ≡ n → take i out ++ along normal_of from (drop i (take n l)) ≡ take n out
  unfolding along
  normals_done from out i long e = rw (none_left l n i long (omega arith), append-nil, e)

-- ---- the rule `Basic`, over the corners from i on

module _ (l : List Coo3D) where
  pub basic_start : (d : Coo3D) → 0 < length l → basic_from nought nought (get_or l (length l - 1) d) l ≡ basic_of l
  unfolding basic_of
  basic_start d some =
      let last : last_of nowhere (take (length l) l) ≡ get_or l (length l - 1) d = last_take l (length l) nowhere d some (le_refl (length l)) in
      ap (λ (c : Coo3D). basic_from nought nought c l) (sym last ∙ ap (last_of nowhere) (take-length l))

  pub basic_turn : (sum z : Float) (from : Coo3D) (i : ℕ) (d : Coo3D) → i < length l
      → basic_from sum z from (drop i l) ≡ basic_from (step_of sum ((get_or l i d).lon ⊖ from.lon)) (z ⊕ (get_or l i d).z) (get_or l i d) (drop (i + 1) l)
  unfolding basic_from
  basic_turn sum z from i d below = rw (add-one i, drop-cons l i d below) refl

  pub basic_done : (sum z : Float) (from : Coo3D) (i : ℕ) → length l ≤ i → basic_from sum z from (drop i l) ≡ (lt pi (abs_of sum) && lt z nought)
  unfolding basic_from
  basic_done sum z from i passed = rw (drop_of_length-le l passed) refl
