-- How many edges are in range at most.
use Prim.Native.Nat.{ℕ, ◌-◌, ◌≤◌, ◌%◌}
use native.Mathlib.Nat.{le_trans}
use native.Mathlib.Omega.{arith}
use mathlib.Core.Path.{◌≡◌, refl, sym, ap, subst, ◌∙◌}
use mathlib.Core.Bool.{Bool, true, false}
use mathlib.Core.List.{List, []}
use borrow.Author.Tests.{eqb-true, eqb-false}
use lib.Dec.{T, eqb, ltb}
use lib.ListN.{length}
use lib.Ieee.{binary64, fits, le, of_bits}
use Rattle.coo3d.specs.declared.Coo3D.{Coo3D}
use Rattle.coo3d.specs.Points.{of_doubles}
use Rattle.cost.specs.RangeCount.{range_count_of, number_or0}
use Rattle.domain.specs.Checks.{point_at}
use Rattle.domain.proofs.Handed.{Settled, handed_again}
use Rattle.domain.proofs.Inside.{double_lon, settled_finite, settled_placed, each_double}
use Rattle.float.specs.Doubles.{nought, two_pi, is_finite}
use Rattle.float.proofs.Ordered.{not_beyond}
use Rattle.lists.specs.Counts.{how_many, is_odd}
use Rattle.lists.proofs.All.{All, all_both, both}
use Rattle.lists.proofs.Many.{many_most, many_fewer}
use Rattle.lists.proofs.Odd.{odd_number, changes, closed_walk}
use Rattle.making.specs.Made.{Made}
use Rattle.making.proofs.Made.{is_made}
use Rattle.refusal.specs.Answer.{Answer, answered, refused, refuse_if, and_then}
use Rattle.region.specs.declared.Region.{Region}
use Rattle.region.specs.declared.Edge.{Edge}
use Rattle.region.specs.Edges.{edge, is_in_range}
use Rattle.region.specs.Made.{IsMade}
use Rattle.region.specs.View.{View, view_of, nowhere, made, edges_of, in_range_count}
use Rattle.region.proofs.Drawn.{odd_drawn, each_drawn}
use Rattle.region.proofs.Edges.{edges_length}
use Rattle.region.proofs.Halves.{Longitude, half, in_range_halves}
use Rattle.region.proofs.Made.{made_good}
use Rattle.costliest.specs.Costliest.{AtMost, OddAtMost}

-- the number is 0, or that of a point that the check hands back
module _ (v : View) (p : Coo3D) (Holds : ℕ → Type 0) (none : Holds 0) (there : (q : Coo3D) → point_at 0 p ≡ answered q → Holds (in_range_count q v)) where
  by_point : (x : Answer Coo3D) → point_at 0 p ≡ x → Holds (number_or0 (and_then x (λ q. answered (in_range_count q v))))
  by_point (answered q) e = there q e
  by_point (refused n vs) e = none

  by_count : (b c : Bool) → Holds (number_or0 (refuse_if b 2 [] (refuse_if c 3 [] (and_then (point_at 0 p) (λ q. answered (in_range_count q v))))))
  by_count true c = none
  by_count false true = none
  by_count false false = by_point (point_at 0 p) refl

  number_is : Holds (number_or0 (range_count_of v p))
  unfolding range_count_of
  number_is = by_count (eqb v.count 0) (ltb 64 v.count)

most_there : (r : Region) (q : Coo3D) → in_range_count q (view_of r) ≤ r.count
unfolding in_range_count
most_there r q = omega (arith, many_most (is_in_range q) (edges_of (view_of r)), edges_length r)

pub at_most : (r : Region) → AtMost r
at_most r p a h = rw h.in_range (number_is (view_of r) p (λ k. k ≤ r.count) (omega arith) (λ q. λ e. most_there r q))

-- ---- an odd number of corners: an edge in range goes from one half to the other, and a closed walk does so an even number of times

odd_less : (n k : ℕ) → k ≤ n → is_odd n ≡ true → is_odd k ≡ false → k ≤ n - 1
odd_less n k h o e =
    let odd = eqb-true (n % 2) 1 o in
    let even = eqb-false (k % 2) 1 e in
    less odd even
  where
    less : n % 2 ≡ 1 → (k % 2 ≡ 1 → ⊥) → k ≤ n - 1
    less odd even = omega (arith, h, odd, even)

finite_ends : (is_finite nought ≡ true) × (is_finite two_pi ≡ true)
unfolding of_bits
finite_ends = (refl, refl)

longitude : (c : Coo3D) → Settled c → Longitude c.lon
longitude c s =
    let f = (settled_finite c s).lon in
    let b = both (le nought c.lon) (le c.lon two_pi) (settled_placed c s).lon in
    record { finite = f; low = not_beyond nought c.lon finite_ends.0 f b.0; high = not_beyond c.lon two_pi f finite_ends.1 b.1 }

-- a corner's longitude is one of the domain, and a double
abbrev pub Placed : Coo3D → Type 0
Placed c = Longitude c.lon × T (fits binary64 c.lon)

pub placed : (c : Coo3D) → Settled c → of_doubles c ≡ true → Placed c
placed c s d = (longitude c s, double_lon c d)

module _ (q : Coo3D) (l : Longitude q.lon) where
  abbrev side : Coo3D → Bool
  side c = half q.lon c.lon

  abbrev turns : Edge → Bool
  turns e = changes side e.from e.to

  turned : (a b : Coo3D) → Placed a → Placed b → is_in_range q (edge a b) ≡ true → turns (edge a b) ≡ true
  turned a b (i, p) (j, r) h = in_range_halves q.lon l a.lon b.lon i j p r h

  even_turns : (cs : List Coo3D) (flag : Bool) → is_odd (how_many turns (edges_of (made cs flag))) ≡ false
  even_turns cs flag = odd_number turns (edges_of (made cs flag)) ∙ odd_drawn turns cs flag ∙ closed_walk side nowhere cs

  fewer : {cs : List Coo3D} (flag : Bool) → All Placed cs → how_many (is_in_range q) (edges_of (made cs flag)) ≤ how_many turns (edges_of (made cs flag))
  fewer flag h = many_fewer (is_in_range q) turns (each_drawn Placed (λ e. is_in_range q e ≡ true → turns e ≡ true) turned flag h)

  odd_there : (r : Region) → IsMade (view_of r) → is_odd r.count ≡ true → in_range_count q (view_of r) ≤ r.count - 1
  unfolding in_range_count
  odd_there r m odd =
      let v = view_of r in
      let es = edges_of (made v.corners v.flag) in
      let is : edges_of v ≡ es = ap edges_of m.view in
      let most : how_many turns es ≤ r.count = subst (λ (l : List Edge). how_many turns l ≤ r.count) is (within r (edges_of v) (many_most turns (edges_of v)) (edges_length r)) in
      let less = odd_less r.count (how_many turns es) most odd (even_turns v.corners v.flag) in
      let here = fewer v.flag (all_both Settled (λ c. of_doubles c ≡ true) Placed placed (made_good v m).inside (each_double v.corners m.doubles)) in
      subst (λ (l : List Edge). how_many (is_in_range q) l ≤ r.count - 1) (sym is) (le_trans here less)
    where
      within : (r : Region) (l : List Edge) → how_many turns l ≤ length l → length l ≤ r.count → how_many turns l ≤ r.count
      within r l a b = le_trans a b

pub odd_at_most : (r : Region) → Made r → OddAtMost r
odd_at_most r m odd p a h =
    rw h.in_range (number_is (view_of r) p (λ k. k ≤ r.count - 1) (omega arith) (λ q. λ e. odd_there q (longitude q (handed_again 0 p q e)) r (is_made r m) odd))
