-- Which edges of a made region are in range at a point, and which are counted on the axis.
use mathlib.Core.Path.{◌≡◌, refl, sym, ap, ◌∙◌}
use mathlib.Core.Bool.{Bool, true, false, ◌||◌, and-false, and-true}
use mathlib.Core.List.{List, [], ◌∷◌}
use lib.Ieee.{Float, neg, lt, eq}
use Rattle.float.specs.Doubles.{◌⊗◌, nought, one}
use Rattle.float.proofs.Axis.{on_axis, once, once_back}
use Rattle.float.proofs.Finite.{Zero}
use Rattle.coo3d.specs.declared.Coo3D.{Coo3D}
use Rattle.coo3d.specs.declared.Vect3.{Vect3}
use Rattle.coo3d.specs.Vectors.{vect_of_point, dot_of}
use Rattle.lists.specs.Counts.{exactly_one, odd_many, is_odd, every}
use Rattle.lists.specs.Cyclic.{last_of, along}
use Rattle.lists.proofs.All.{All, all_both, every_each, both}
use Rattle.lists.proofs.Odd.{odd, odd_same, odd_none, odd_both, odd_more, changes, closed_walk, one_false}
use Rattle.region.specs.declared.Edge.{Edge}
use Rattle.region.specs.Edges.{normal_of, edge, crosses_seam, is_in_range, is_counted}
use Rattle.region.specs.View.{View, nowhere, seams_from, seams_of, edges_of, edges_from, made}
use Rattle.region.proofs.Drawn.{odd_drawn, each_drawn}
use Rattle.region.proofs.InRange.{in_range_is, meridian_never}
use Rattle.poles.specs.Poles.{is_north, is_north_or_meridian}
use Rattle.poles.proofs.Normals.{Corner, Northern, northern}

abbrev crosses : Coo3D → Coo3D → Bool
crosses a b = crosses_seam a.lon b.lon

-- ---- the seam count, and the edges in range

seams_odd : (from : Coo3D) (cs : List Coo3D) → odd (along crosses from cs) ≡ is_odd (seams_from from cs)
unfolding odd_many along seams_from
seams_odd from [] = refl
seams_odd from (c ∷ cs) = ap (exactly_one (crosses from c)) (seams_odd c cs) ∙ sym (odd_more (crosses from c) (seams_from c cs))

module _ (q : Coo3D) where
  abbrev east : Coo3D → Bool
  east c = lt q.lon c.lon

  abbrev steps : Edge → Bool
  steps e = crosses e.from e.to

  abbrev turns : Edge → Bool
  turns e = changes east e.from e.to

  explained : (a b : Coo3D) → Corner a → Corner b → is_in_range q (edge a b) ≡ exactly_one (steps (edge a b)) (turns (edge a b))
  explained a b p r = in_range_is q.lon a.lon b.lon p.lon r.lon p.held r.held

  pub in_range_odd : {cs : List Coo3D} (flag : Bool) → All Corner cs → odd_many (is_in_range q) (edges_of (made cs flag)) ≡ is_odd (seams_of cs)
  unfolding seams_of
  in_range_odd {cs} flag h =
      let es = edges_of (made cs flag) in
      odd_same (is_in_range q) (λ e. exactly_one (steps e) (turns e)) (each_drawn Corner (λ e. is_in_range q e ≡ exactly_one (steps e) (turns e)) explained flag h)
      ∙ odd_both steps turns es
      ∙ ap (λ (b : Bool). exactly_one (odd_many steps es) b) (odd_drawn turns cs flag ∙ closed_walk east nowhere cs)
      ∙ one_false (odd_many steps es)
      ∙ odd_drawn steps cs flag
      ∙ seams_odd (last_of nowhere cs) cs

-- ---- on the axis

module _ (q : Coo3D) (x : Zero q.x) (y : Zero q.y) where
  axis_dot : (n : Vect3) → Northern n → lt nought (dot_of (vect_of_point q) n) ≡ lt nought (q.z ⊗ n.z)
  unfolding dot_of
  axis_dot n h = on_axis q.x q.y n.x n.y q.z n.z x y h.x h.y

  -- at the southern pole no edge is counted
  module _ (z : q.z ≡ neg one) where
    never : (a b : Coo3D) → Corner a → Corner b → is_counted q (edge a b) ≡ false
    unfolding is_counted
    never a b p r =
        let n = northern a b p r in
        let d : lt nought (dot_of (vect_of_point q) (normal_of a b)) ≡ false = axis_dot (normal_of a b) n ∙ ap (λ (u : Float). lt nought (u ⊗ (normal_of a b).z)) z ∙ once_back (normal_of a b).z n.held ∙ n.north in
        rw d (and-false (is_in_range q (edge a b)))

    pub none_counted : {cs : List Coo3D} (flag : Bool) → All Corner cs → odd_many (is_counted q) (edges_of (made cs flag)) ≡ false
    none_counted flag h = odd_none (is_counted q) (each_drawn Corner (λ e. is_counted q e ≡ false) never flag h)

  -- at the northern pole an edge is counted where it is in range, if its normal has z above 0; along a meridian it is neither
  module _ (z : q.z ≡ one) where
    counted : (a b : Coo3D) → Corner a → Corner b → is_north_or_meridian (edge a b) ≡ true → is_counted q (edge a b) ≡ is_in_range q (edge a b)
    unfolding is_counted
    counted a b p r h = either (is_north (normal_of a b)) (eq a.lon b.lon) north along_it h
      where
        either : (u v : Bool) → (u ≡ true → is_counted q (edge a b) ≡ is_in_range q (edge a b)) → (v ≡ true → is_counted q (edge a b) ≡ is_in_range q (edge a b)) → u || v ≡ true → is_counted q (edge a b) ≡ is_in_range q (edge a b)
        either true v f g e = f refl
        either false v f g e = g e

        north : is_north (normal_of a b) ≡ true → is_counted q (edge a b) ≡ is_in_range q (edge a b)
        north up =
            let n = northern a b p r in
            let d : lt nought (dot_of (vect_of_point q) (normal_of a b)) ≡ true = axis_dot (normal_of a b) n ∙ ap (λ (u : Float). lt nought (u ⊗ (normal_of a b).z)) z ∙ once (normal_of a b).z n.held ∙ up in
            rw d (and-true (is_in_range q (edge a b)))

        along_it : eq a.lon b.lon ≡ true → is_counted q (edge a b) ≡ is_in_range q (edge a b)
        along_it e = rw (meridian_never q.lon a.lon b.lon p.lon r.lon e)

    pub all_counted : {cs : List Coo3D} (flag : Bool) → All Corner cs → every is_north_or_meridian (edges_of (made cs flag)) ≡ true
        → odd_many (is_counted q) (edges_of (made cs flag)) ≡ odd_many (is_in_range q) (edges_of (made cs flag))
    all_counted {cs} flag h north =
        odd_same (is_counted q) (is_in_range q)
        (all_both (λ e. is_north_or_meridian e ≡ true → is_counted q e ≡ is_in_range q e) (λ e. is_north_or_meridian e ≡ true) (λ e. is_counted q e ≡ is_in_range q e) (λ e. λ f. λ k. f k)
        (each_drawn Corner (λ e. is_north_or_meridian e ≡ true → is_counted q e ≡ is_in_range q e) counted flag h)
        (every_each is_north_or_meridian (edges_of (made cs flag)) north))

-- normals that all have z above 0 are a case of it
north_from : (from : Coo3D) (cs : List Coo3D) (ns : List Vect3) → every is_north ns ≡ true → every is_north_or_meridian (edges_from from cs ns) ≡ true
unfolding every edges_from
north_from from [] ns h = refl
north_from from (c ∷ cs) [] h = refl
north_from from (c ∷ cs) (n ∷ ns) h = let b = both (is_north n) (every is_north ns) h in rw (b.0, north_from c cs ns b.1)

pub north_edges : (v : View) → every is_north v.normals ≡ true → every is_north_or_meridian (edges_of v) ≡ true
unfolding edges_of
north_edges v h = north_from (last_of nowhere v.corners) v.corners v.normals h
