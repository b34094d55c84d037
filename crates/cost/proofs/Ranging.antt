-- Laws for the loop that decides containment and counts the edges in range.
use Prim.Native.Nat.{ℕ, ◌+◌, ◌≤◌, ◌<◌}
use native.Mathlib.Omega.{arith}
use mathlib.Core.Path.{◌≡◌, refl, sym, ap, ◌∙◌}
use mathlib.Core.Bool.{Bool, true, false, cond}
use mathlib.Core.List.{List, [], ◌∷◌}
use Rattle.std.proofs.Math.Nat.{zero-add}
use lib.Ieee.{Float, lt}
use Rattle.coo3d.specs.declared.Coo3D.{Coo3D}
use Rattle.coo3d.specs.Vectors.{vect_of_point, dot_of}
use Rattle.float.specs.Doubles.{nought}
use Rattle.domain.specs.Checks.{point_at, with_count}
use lib.Dec.{eqb, ltb}
use Rattle.lists.specs.Counts.{exactly_one, odd_many, how_many}
use Rattle.lists.proofs.Many.{many_turn, many_done, many_most}
use Rattle.lists.proofs.Odd.{odd_turn, odd_done}
use Rattle.refusal.specs.Answer.{Answer, answered, refused, refuse_if, and_then, answer_of}
use Rattle.region.specs.declared.Region.{Region}
use Rattle.region.specs.declared.Edge.{Edge}
use Rattle.region.specs.Edges.{is_in_range, is_counted}
use Rattle.region.specs.Region.{contains_of}
use Rattle.region.specs.View.{View, view_of, edges_of, in_range_count, odd_at, contained}
use Rattle.region.proofs.Containing.{out_of_range, in_range_there}
use Rattle.region.proofs.Edges.{edges_length}
use Rattle.cost.specs.declared.RangedDecision.{RangedDecision}
use Rattle.cost.specs.RangeCount.{range_count_of, number_or0, Ranged}

-- ---- the answer

-- the tests of count and point, and then whatever is asked
asked : {A : Type 0} (n : ℕ) (p : Coo3D) (f : Coo3D → Answer A) (y : Answer Coo3D) → y ≡ with_count n (point_at 0 p) → with_count n (and_then (point_at 0 p) f) ≡ and_then y f
asked n p f y e = through (eqb n 0) (ltb 64 n) ∙ ap (λ (x : Answer Coo3D). and_then x f) (sym e)
  where
    through : (none many : Bool) → refuse_if none 2 [] (refuse_if many 3 [] (and_then (point_at 0 p) f)) ≡ and_then (refuse_if none 2 [] (refuse_if many 3 [] (point_at 0 p))) f
    through true many = refl
    through false true = refl
    through false false = refl

module _ (a : RangedDecision) (v : View) (p : Coo3D) where
  pub not_ranged : {k : ℕ} {vs : List ℕ} → refused k vs ≡ with_count v.count (point_at 0 p) → (answer_of a.decision ≡ refused k vs) × (a.in_range ≡ 0) → Ranged a v p
  unfolding contains_of range_count_of
  not_ranged e h = record { decision = h.0 ∙ sym (asked v.count p _ _ e); in_range = h.1 ∙ ap number_or0 (sym (asked v.count p _ _ e)) }

  pub ranged : {q : Coo3D} {b : Bool} → answered q ≡ with_count v.count (point_at 0 p) → answer_of a.decision ≡ answered b → (b ≡ contained q v) × (a.in_range ≡ in_range_count q v) → Ranged a v p
  unfolding contains_of range_count_of in_range_count
  ranged e d h = record { decision = d ∙ ap answered h.0 ∙ sym (asked v.count p _ _ e); in_range = h.1 ∙ ap number_or0 (sym (asked v.count p _ _ e)) }

-- ---- the loop: `es` are the edges that are left, `n` of the others were in range, and `side` is the flag, turned over at each that was counted

pub record Passing (p : Coo3D) (r : Region) (side : Bool) (n : ℕ) (es : List Edge) : Type 0 where
  pub sides : exactly_one side (odd_many (is_counted p) es) ≡ contained p (view_of r)
  pub number : n + how_many (is_in_range p) es ≡ in_range_count p (view_of r)

module _ {p : Coo3D} {r : Region} {es : List Edge} where
  pub passing_starts : es ≡ edges_of (view_of r) → Passing p r r.contains_south_pole 0 es
  unfolding contained odd_at in_range_count
  passing_starts e = record { sides = rw e refl; number = rw e (zero-add _) }

  module _ {side : Bool} {n : ℕ} (inv : Passing p r side n es) where
    module _ {edge : Edge} {rest : List Edge} (next : es ≡ edge ∷ rest) where
      number_next : (n + cond (is_in_range p edge) 1 0) + how_many (is_in_range p) rest ≡ in_range_count p (view_of r)
      number_next = sym (many_turn (is_in_range p) n edge rest) ∙ ap (λ (l : List Edge). n + how_many (is_in_range p) l) (sym next) ∙ inv.number

      sides_next : (side' : Bool) → side' ≡ exactly_one side (is_counted p edge) → exactly_one side' (odd_many (is_counted p) rest) ≡ contained p (view_of r)
      sides_next side' e = rw e (sym (odd_turn (is_counted p) side edge rest)) ∙ ap (λ (l : List Edge). exactly_one side (odd_many (is_counted p) l)) (sym next) ∙ inv.sides

      pub passing_in_range : (d : Float) → is_in_range p edge ≡ true → d ≡ dot_of (vect_of_point p) edge.normal → Passing p r (exactly_one side (lt nought d)) (n + 1) rest
      passing_in_range d h e =
          record {
            sides = sides_next _ (in_range_there p edge side d h e);
            number = ap (λ (b : Bool). n + cond b 1 0 + how_many (is_in_range p) rest) (sym h) ∙ number_next;
          }

      pub passing_out_of_range : is_in_range p edge ≡ false → Passing p r side n rest
      passing_out_of_range h =
          let all = ap (λ (b : Bool). n + cond b 1 0 + how_many (is_in_range p) rest) (sym h) ∙ number_next in
          record { sides = sides_next side (out_of_range p edge side h); number = omega (arith, all) }

      -- there are no more of them than edges
      pub passing_few : r.count ≤ 64 → is_in_range p edge ≡ true → n < 64
      unfolding in_range_count
      passing_few few h =
          let all = ap (λ (b : Bool). n + cond b 1 0 + how_many (is_in_range p) rest) (sym h) ∙ number_next in
          let most = many_most (is_in_range p) (edges_of (view_of r)) in
          let long = edges_length r in
          omega (arith, all, most, long, few)

    pub all_ranged : es ≡ [] → (side ≡ contained p (view_of r)) × (n ≡ in_range_count p (view_of r))
    all_ranged e = (
      sym (odd_done (is_counted p) side) ∙ ap (λ (l : List Edge). exactly_one side (odd_many (is_counted p) l)) (sym e) ∙ inv.sides,
      sym (many_done (is_in_range p) n) ∙ ap (λ (l : List Edge). n + how_many (is_in_range p) l) (sym e) ∙ inv.number,
    )
