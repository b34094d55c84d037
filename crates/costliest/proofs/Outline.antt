-- The outline of n corners: it is built, no edge crosses the seam, and how many edges are in range at its point.
use Prim.Native.Nat.{ℕ, ◌+◌, ◌≤◌, ◌<◌}
use native.Mathlib.Omega.{arith}
use mathlib.Core.Path.{◌≡◌, refl, sym, ap, subst, ◌∙◌}
use mathlib.Core.Bool.{Bool, true, false, cond}
use mathlib.Core.List.{List}
use lib.ListN.{length, take}
use lib.Seq.{length-take-le, take-take}
use Rattle.coo3d.specs.declared.Coo3D.{Coo3D}
use Rattle.coo3d.specs.Points.{of_doubles, are_doubles}
use Rattle.cost.specs.Outline.{saw, abreast, outline_of}
use Rattle.cost.proofs.Corners.{saw_in, saw_doubles, saw_length, Lies, is_eastward, saw_lies, saw_alternates, never_crosses}
use Rattle.domain.specs.Checks.{points_of}
use Rattle.domain.specs.Domain.{in_domain}
use Rattle.domain.proofs.Handed.{Settled, settled_in}
use Rattle.domain.proofs.Inside.{Good, points_good, each_double, all_doubles}
use Rattle.domain.proofs.Points.{points_first}
use Rattle.lists.specs.Counts.{exactly_one, how_many, is_odd}
use Rattle.lists.specs.Cyclic.{last_of, along}
use Rattle.lists.proofs.All.{All, none, more, all_both, all_take, all_last, every_each}
use Rattle.lists.proofs.Alternating.{alternates_take, closed_steps}
use Rattle.lists.proofs.Many.{many_same}
use Rattle.lists.proofs.Odd.{changes, false_one}
use Rattle.refusal.specs.Answer.{answered}
use Rattle.region.specs.declared.Edge.{Edge}
use Rattle.region.specs.Edges.{edge, is_in_range}
use Rattle.region.specs.View.{nowhere, seams_from, seams_of, made, in_range_count}
use Rattle.region.specs.Region.{build_of}
use Rattle.region.proofs.Drawn.{many_drawn, each_drawn}
use Rattle.region.proofs.Flags.{flag_fixed}
use Rattle.region.proofs.InRange.{in_range_is}
use Rattle.region.proofs.Rules.{some}
use Rattle.costliest.proofs.Numbers.{Placed, placed}

settled : All Settled saw
settled = all_both (λ c. in_domain c ≡ true) (λ c. in_domain c ≡ true) Settled (λ c. λ h. λ k. settled_in c h) (every_each in_domain saw saw_in) (every_each in_domain saw saw_in)

no_seams_from : (from : Coo3D) {cs : List Coo3D} → Lies from → All Lies cs → seams_from from cs ≡ 0
unfolding seams_from
no_seams_from from h none = refl
no_seams_from from h (more {a = c} k t) = rw (never_crosses from c h k, no_seams_from c k t)

no_seams_of : {cs : List Coo3D} → All Lies cs → seams_of cs ≡ 0
unfolding seams_of seams_from last_of
no_seams_of none = refl
no_seams_of (more {a = c} {l = cs} k t) = no_seams_from (last_of c cs) (all_last c k t) (more k t)

module _ (n : ℕ) (one : 0 < n) (few : n ≤ 64) where
  abbrev pub corners : List Coo3D
  corners = take n saw

  pub corners_length : length corners ≡ n
  corners_length = length-take-le n saw (subst (λ (k : ℕ). n ≤ k) (sym saw_length) few)

  good : Good corners
  good = record { inside = all_take n settled; some = subst (λ (k : ℕ). 0 < k) (sym corners_length) one; few = subst (λ (k : ℕ). k ≤ 64) (sym corners_length) few }

  pub doubles : are_doubles corners ≡ true
  doubles = all_doubles (all_take n (each_double saw saw_doubles))

  taken : points_of saw n ≡ answered corners
  taken =
      points_first saw corners n (sym (take-take n n saw (omega arith)))
      ∙ ap (points_of corners) (sym corners_length)
      ∙ points_good corners good

  pub built : outline_of n ≡ answered (made corners false)
  unfolding outline_of build_of
  built = rw (taken, flag_fixed (made corners false) false (some good.some) good.few)

  pub no_seams : seams_of corners ≡ 0
  no_seams = no_seams_of (all_take n saw_lies)

  -- ---- the edges in range: those that change sides

  abbrev At : Coo3D → Type 0
  At c = Placed c × Lies c

  each_at : All At corners
  each_at =
      all_both Placed Lies At (λ c. λ h. λ k. (h, k))
      (all_both Settled (λ c. of_doubles c ≡ true) Placed placed (all_take n settled) (all_take n (each_double saw saw_doubles)))
      (all_take n saw_lies)

  abbrev turns : Edge → Bool
  turns e = changes is_eastward e.from e.to

  by_side : (a b : Coo3D) → At a → At b → is_in_range abreast (edge a b) ≡ turns (edge a b)
  by_side a b (p, k) (q, l) =
      in_range_is abreast.lon a.lon b.lon p.0.finite q.0.finite p.1 q.1
      ∙ ap (λ (x : Bool). exactly_one x (changes is_eastward a b)) (never_crosses a b k l)
      ∙ false_one (changes is_eastward a b)

  pub in_range : in_range_count abreast (made corners false) + cond (is_odd n) 1 0 ≡ n
  unfolding in_range_count
  in_range =
      ap (λ (k : ℕ). k + cond (is_odd n) 1 0) (many_same (is_in_range abreast) turns (each_drawn At (λ e. is_in_range abreast e ≡ turns e) by_side false each_at) ∙ many_drawn turns corners false)
      ∙ ap (λ (k : ℕ). how_many (λ b. b) (along (changes is_eastward) (last_of nowhere corners) corners) + cond (is_odd k) 1 0) (sym corners_length)
      ∙ closed_steps is_eastward nowhere (alternates_take is_eastward n saw_alternates)
      ∙ corners_length
