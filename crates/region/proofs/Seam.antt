-- Laws for loops that pass corners in order, `from` being the one before, and count the edges that cross the seam.
use Prim.Native.Nat.{ℕ, ◌+◌, ◌-◌, ◌≤◌, ◌<◌}
use native.Mathlib.Numerals.{add-one}
use native.Mathlib.Omega.{arith}
use mir.Val.{bool_byte}
use mathlib.Core.Path.{◌≡◌, refl, sym, ap, subst, ◌∙◌}
use mathlib.Core.Bool.{Bool, true, false, cond}
use mathlib.Core.List.{List, ◌∷◌}
use lib.ListN.{length, take, drop, get_or, drop_of_length-le}
use lib.Seq.{drop-cons, get_or-take, length-take-le}
use Rattle.coo3d.specs.declared.Coo3D.{Coo3D}
use Rattle.region.specs.Edges.{crosses_seam}
use Rattle.region.specs.View.{nowhere, seams_from, seams_of}
use Rattle.region.proofs.Edges.{last_take}

pub as_number : (b : Bool) → bool_byte b ≡ cond b 1 0
as_number true = refl
as_number false = refl

pub one_at_most : (b : Bool) → bool_byte b ≤ 1
one_at_most true = omega arith
one_at_most false = omega arith

-- the edges to the first i corners are counted, of so many in all
pub record Counting (total : ℕ) (cs : List Coo3D) (n : ℕ) (from : Coo3D) (i : ℕ) : Type 0 where
  pub below : n ≤ i
  pub so_far_is : n + seams_from from (drop i cs) ≡ total

pub counting_starts : (cs : List Coo3D) (from : Coo3D) → Counting (seams_from from cs) cs 0 from 0
counting_starts cs from = record { below = omega arith; so_far_is = none _ }
  where
    none : (k : ℕ) → 0 + k ≡ k
    none k = omega arith

pub counting_turn : {total : ℕ} {cs : List Coo3D} {n : ℕ} {from : Coo3D} {i : ℕ} → Counting total cs n from i → (to : Coo3D) → i < length cs → get_or cs i nowhere ≡ to
    → (b : Bool) → b ≡ crosses_seam from.lon to.lon → Counting total cs (n + bool_byte b) to (i + 1)
unfolding seams_from
counting_turn {total} {cs} {n} {from} {i} inv to h e b t =
    let below = inv.below in
    let more = one_at_most b in
    let left : drop i cs ≡ to ∷ drop (i + 1) cs = rw (add-one i, drop-cons cs i nowhere h, e) in
    let whole : n + seams_from from (to ∷ drop (i + 1) cs) ≡ total = ap (λ (l : List Coo3D). n + seams_from from l) (sym left) ∙ inv.so_far_is in
    record { below = omega (arith, below, more); so_far_is = on n (bool_byte b) (cond (crosses_seam from.lon to.lon) 1 0) (seams_from to (drop (i + 1) cs)) total (as_number b ∙ ap (λ (x : Bool). cond x 1 0) t) whole }
  where
    on : (n b c m s : ℕ) → b ≡ c → n + (c + m) ≡ s → n + b + m ≡ s
    on n b c m s p q = omega (arith, p, q)

pub counting_ends : {total : ℕ} {cs : List Coo3D} {n : ℕ} {from : Coo3D} {i : ℕ} → Counting total cs n from i → length cs ≤ i → n ≡ total
unfolding seams_from
counting_ends {total} {cs} {n} {from} {i} inv h = all n ∙ ap (λ (l : List Coo3D). n + seams_from from l) (sym (drop_of_length-le cs h)) ∙ inv.so_far_is
  where
    all : (k : ℕ) → k ≡ k + 0
    all k = omega arith

-- over the first n entries of an array
module _ (l : List Coo3D) (n : ℕ) (long : n ≤ length l) where
  len : length (take n l) ≡ n
  len = length-take-le n l long

  -- edge 0 starts at the last of them
  pub seams_last : 0 < n → seams_from (get_or l (n - 1) nowhere) (take n l) ≡ seams_of (take n l)
  unfolding seams_of
  seams_last some = ap (λ (c : Coo3D). seams_from c (take n l)) (sym (last_take l n nowhere nowhere some long))

  pub seams_start : 0 < n → Counting (seams_of (take n l)) (take n l) 0 (get_or l (n - 1) nowhere) 0
  seams_start some = subst (λ (k : ℕ). Counting k (take n l) 0 (get_or l (n - 1) nowhere) 0) (seams_last some) (counting_starts (take n l) _)

  pub seams_turn : {total : ℕ} {m : ℕ} {from : Coo3D} {i : ℕ} → Counting total (take n l) m from i → i < n → (b : Bool) → b ≡ crosses_seam from.lon (get_or l i nowhere).lon
      → Counting total (take n l) (m + bool_byte b) (get_or l i nowhere) (i + 1)
  seams_turn {i = i} inv h b e = counting_turn inv (get_or l i nowhere) (rw len h) (get_or-take n l i nowhere h) b e
