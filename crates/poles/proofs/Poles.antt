-- The theorems of specs/Poles.antt.
use Prim.Native.Nat.{ℕ, ◌≤◌, ◌<◌}
use mathlib.Core.Path.{◌≡◌, sym, ap, ◌∙◌, subst}
use mathlib.Core.Bool.{Bool, true, false}
use lib.Ieee.{Float, neg, of_bits}
use lib.ListN.{length}
use Rattle.coo3d.specs.declared.Coo3D.{Coo3D}
use Rattle.coo3d.specs.Points.{of_doubles}
use Rattle.domain.specs.Checks.{point_at, with_count}
use Rattle.domain.specs.Domain.{in_domain}
use Rattle.domain.proofs.Counts.{count_few}
use Rattle.domain.proofs.Handed.{Settled, handed, handed_place}
use Rattle.domain.proofs.Inside.{each_double}
use Rattle.float.proofs.Finite.{Zero}
use Rattle.lists.specs.Counts.{exactly_one, odd_many, is_odd, every}
use Rattle.lists.proofs.All.{All, all_both}
use Rattle.lists.proofs.Odd.{odd_number, one_false}
use Rattle.making.specs.Made.{Made}
use Rattle.making.proofs.Made.{is_made}
use Rattle.refusal.specs.Answer.{Answer, answered}
use Rattle.region.specs.declared.Region.{Region}
use Rattle.region.specs.declared.Edge.{Edge}
use Rattle.region.specs.Edges.{is_in_range, is_counted}
use Rattle.region.specs.Made.{IsMade}
use Rattle.region.specs.Region.{contains_of, seam_count_of}
use Rattle.region.specs.View.{View, view_of, made, edges_of, in_range_count, odd_at, contained}
use Rattle.region.proofs.Made.{made_good, seams_made}
use Rattle.region.proofs.Rules.{some}
use Rattle.poles.specs.Poles.{zero_of, south_pole_point, north_pole_point, is_north_or_meridian, NorthByCount, Poles}
use Rattle.poles.proofs.Normals.{Corner, corner_of}
use Rattle.poles.proofs.Edges.{in_range_odd, none_counted, all_counted, north_edges}

zero_at : {x : Float} (s : Bool) → x ≡ zero_of s → Zero x
unfolding neg of_bits
zero_at true e = (true, e)
zero_at false e = (false, e)

-- ---- of a made view

module _ (v : View) (m : IsMade v) where
  corners : All Corner v.corners
  corners = all_both Settled (λ c. of_doubles c ≡ true) Corner corner_of (made_good v m).inside (each_double v.corners m.doubles)

  count_is : v.count ≡ length v.corners
  count_is = ap (λ (w : View). w.count) m.view

  taken : {A : Type 0} (next : Answer A) → with_count v.count next ≡ next
  taken next =
      let g = made_good v m in
      count_few v.count next (some (subst (λ (n : ℕ). 0 < n) (sym count_is) g.some)) (subst (λ (n : ℕ). n ≤ 64) (sym count_is) g.few)

  seams_answered : seam_count_of v ≡ answered v.seam_count
  unfolding seam_count_of
  seams_answered = taken (answered v.seam_count)

  contains_answered : (p q : Coo3D) → point_at 0 p ≡ answered q → contains_of v p ≡ answered (contained q v)
  unfolding contains_of
  contains_answered p q e = taken _ ∙ rw e

  -- what is odd in number among the edges, by the corners and the flag
  edges_are : (has : Edge → Bool) → odd_many has (edges_of v) ≡ odd_many has (edges_of (made v.corners v.flag))
  edges_are has = ap (λ (w : View). odd_many has (edges_of w)) m.view

  in_range_seams : (q : Coo3D) → odd_many (is_in_range q) (edges_of v) ≡ is_odd v.seam_count
  in_range_seams q = edges_are (is_in_range q) ∙ in_range_odd q v.flag corners ∙ ap is_odd (sym (seams_made v m))

  in_range_number : (q : Coo3D) → is_odd (in_range_count q v) ≡ is_odd v.seam_count
  unfolding in_range_count
  in_range_number q = odd_number (is_in_range q) (edges_of v) ∙ in_range_seams q

  at_south : (s t : Bool) (lon lat : Float) → in_domain (south_pole_point s t lon lat) ≡ true → contains_of v (south_pole_point s t lon lat) ≡ answered v.flag
  unfolding contained odd_at
  at_south s t lon lat h =
      let p = south_pole_point s t lon lat in
      let d = handed p h in
      let q = d.point in
      let at = handed_place 0 p q (d.answer 0) in
      contains_answered p q (d.answer 0)
      ∙ ap (λ (b : Bool). answered (exactly_one v.flag b)) (edges_are (is_counted q) ∙ none_counted q (zero_at s at.0) (zero_at t at.1) at.2 v.flag corners)
      ∙ ap answered (one_false v.flag)

  at_north : every is_north_or_meridian (edges_of v) ≡ true → (s t : Bool) (lon lat : Float) → in_domain (north_pole_point s t lon lat) ≡ true
      → contains_of v (north_pole_point s t lon lat) ≡ answered (exactly_one v.flag (is_odd v.seam_count))
  unfolding contained odd_at
  at_north north s t lon lat h =
      let p = north_pole_point s t lon lat in
      let d = handed p h in
      let q = d.point in
      let at = handed_place 0 p q (d.answer 0) in
      let up : every is_north_or_meridian (edges_of (made v.corners v.flag)) ≡ true = ap (λ (w : View). every is_north_or_meridian (edges_of w)) (sym m.view) ∙ north in
      contains_answered p q (d.answer 0)
      ∙ ap (λ (b : Bool). answered (exactly_one v.flag b)) (edges_are (is_counted q) ∙ all_counted q (zero_at s at.0) (zero_at t at.1) at.2 v.flag corners up ∙ sym (edges_are (is_in_range q)) ∙ in_range_seams q)

-- ---- the theorems

pub poles : (r : Region) → Made r → Poles r
poles r w =
    let v = view_of r in
    let m = is_made r w in
    let k = v.seam_count in
    let north : every is_north_or_meridian (edges_of v) ≡ true → NorthByCount r = λ (up : every is_north_or_meridian (edges_of v) ≡ true). λ s t lon lat i n h d g. (k, h ∙ seams_answered v m, g ∙ at_north v m up s t lon lat i) in
    record {
      in_range = λ x q e n h. (k, h ∙ seams_answered v m, in_range_number v m q);
      south_pole = λ s t lon lat i d h. h ∙ at_south v m s t lon lat i;
      north_pole = λ up. north (north_edges v up);
      north_pole_box = north;
    }
