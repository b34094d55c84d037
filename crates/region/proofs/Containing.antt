-- Laws for loops that decide containment: the tests of count and point in front of them, an edge that is passed, and the end.
use Prim.Native.Nat.{ℕ, ◌+◌, ◌-◌, ◌≤◌, ◌<◌}
use native.Mathlib.Omega.{arith}
use mathlib.Core.Path.{◌≡◌, sym, ap, ◌∙◌}
use mathlib.Core.Bool.{Bool, true, false}
use mathlib.Core.List.{List, [], ◌∷◌}
use lib.Ieee.{Float, lt}
use lib.ListN.{length, get_or}
use Rattle.coo3d.specs.declared.Coo3D.{Coo3D}
use Rattle.coo3d.specs.Vectors.{vect_of_point, dot_of}
use Rattle.float.specs.Doubles.{nought}
use Rattle.domain.specs.Checks.{point_at, with_count}
use Rattle.domain.proofs.Counts.{count_few, count_in}
use Rattle.domain.proofs.Points.{point_refused}
use Rattle.lists.specs.Counts.{exactly_one, odd_many}
use Rattle.lists.proofs.Odd.{odd_turn, odd_done, one_false}
use Rattle.refusal.specs.Answer.{answered, refused, and_then}
use Rattle.region.specs.declared.Region.{Region}
use Rattle.region.specs.Edges.{Edge, in_lon_range, is_counted}
use Rattle.region.specs.View.{View, view_of, nowhere, odd_at, contained, edges_of}
use Rattle.region.specs.Region.{contains_of}
use Rattle.region.proofs.Edges.{edges_left, edge_at, start, turn, done}

-- ---- whatever is asked of a region and a point

module _ {A : Type 0} (count : ℕ) (p : Coo3D) (f : Coo3D → A) (some : count ≡ 0 → ⊥) (few : count ≤ 64) where
  pub asked_outside : (n : ℕ) (vs : List ℕ) → refused n vs ≡ point_at 0 p → with_count count (and_then (point_at 0 p) (λ q. answered (f q))) ≡ refused 1 (0 ∷ [])
  asked_outside n vs e = rw (count_few count (and_then (point_at 0 p) (λ q. answered (f q))) some few, point_refused 0 p n vs e)

  pub asked_inside : (q : Coo3D) → answered q ≡ point_at 0 p → with_count count (and_then (point_at 0 p) (λ q. answered (f q))) ≡ answered (f q)
  asked_inside q e = rw (count_few count (and_then (point_at 0 p) (λ q. answered (f q))) some few, sym e)

-- ---- the edges, one after the other

pub started : (p : Coo3D) (r : Region) (es : List Edge) → edges_of (view_of r) ≡ es → contained p (view_of r) ≡ exactly_one r.contains_south_pole (odd_many (is_counted p) es)
unfolding contained odd_at
started p r es e = rw e

-- an edge is passed, and the flag goes on as the edge says
pub passed : (p : Coo3D) (r : Region) (odd odd' : Bool) (from : Coo3D) (i : ℕ) → r.count ≤ length r.vertices → r.count ≤ length r.cross_products → i < r.count → odd' ≡ exactly_one odd (is_counted p (edge_at r from i)) → exactly_one odd' (odd_many (is_counted p) (edges_left r (get_or r.vertices i nowhere) (i + 1))) ≡ exactly_one odd (odd_many (is_counted p) (edges_left r from i))
passed p r odd odd' from i long long' below e =
    rw (e) (sym (odd_turn (is_counted p) odd (edge_at r from i) _)) ∙ ap (λ (es : List Edge). exactly_one odd (odd_many (is_counted p) es)) (sym (turn r from i long long' below))

pub all_passed : (p : Coo3D) (r : Region) (odd : Bool) (from : Coo3D) (i : ℕ) → r.count ≤ length r.vertices → r.count ≤ i → odd ≡ exactly_one odd (odd_many (is_counted p) (edges_left r from i))
all_passed p r odd from i long over = sym (odd_done (is_counted p) odd) ∙ ap (λ (es : List Edge). exactly_one odd (odd_many (is_counted p) es)) (sym (done r from i long over))

pub out_of_range : (p : Coo3D) (e : Edge) (odd : Bool) → in_lon_range p.lon e.from.lon e.to.lon ≡ false → odd ≡ exactly_one odd (is_counted p e)
unfolding is_counted
out_of_range p e odd h = rw h (sym (one_false odd))

pub in_range_there : (p : Coo3D) (e : Edge) (odd : Bool) (d : Float) → in_lon_range p.lon e.from.lon e.to.lon ≡ true → d ≡ dot_of (vect_of_point p) e.normal → exactly_one odd (lt nought d) ≡ exactly_one odd (is_counted p e)
unfolding is_counted
in_range_there p e odd d h j = rw (h, j)

-- an array of 64 has the entries that a count takes in
pub room : (n m : ℕ) → m ≡ 64 → n ≤ 64 → n ≤ m
room n m e h = omega (arith, e, h)

-- ---- containment alone: the side as it is after the edges before i

pub record Deciding (p : Coo3D) (r : Region) (side : Bool) (from : Coo3D) (i : ℕ) : Type 0 where
  pub so_far_is : exactly_one side (odd_many (is_counted p) (edges_left r from i)) ≡ contained p (view_of r)

module _ (p : Coo3D) (r : Region) (few : r.count ≤ 64) (corners : length r.vertices ≡ 64) where
  pub deciding_starts : 0 < r.count → Deciding p r r.contains_south_pole (get_or r.vertices (r.count - 1) nowhere) 0
  deciding_starts some = record { so_far_is = sym (started p r _ (start r some (room _ _ corners few))) }

  pub deciding_goes_on : {side side' : Bool} {from : Coo3D} {i : ℕ} → Deciding p r side from i → length r.cross_products ≡ 64 → i < r.count
      → side' ≡ exactly_one side (is_counted p (edge_at r from i)) → Deciding p r side' (get_or r.vertices i nowhere) (i + 1)
  deciding_goes_on {side} {side'} {from} {i} inv normals below e = record { so_far_is = passed p r side side' from i (room _ _ corners few) (room _ _ normals few) below e ∙ inv.so_far_is }

  pub decided : {side : Bool} {from : Coo3D} {i : ℕ} → Deciding p r side from i → r.count ≤ i → side ≡ contained p (view_of r)
  decided {side} {from} {i} inv over = all_passed p r side from i (room _ _ corners few) over ∙ inv.so_far_is

pub decision : (v : View) (p : Coo3D) {q : Coo3D} {side : Bool} → (0 < v.count) × (v.count ≤ 64) → answered q ≡ point_at 0 p → side ≡ contained q v → answered side ≡ contains_of v p
unfolding contains_of
decision v p n e h = ap answered h ∙ sym (count_in v.count _ n ∙ rw (sym e))
