-- Laws of `point_at`, `points_from` and `points_of`, for callers and for the loop that checks the points in order.
use Prim.Native.Nat.{ℕ, ◌+◌, ◌≤◌, ◌<◌}
use native.Mathlib.Numerals.{add-one}
use native.Mathlib.Omega.{arith}
use mathlib.Core.Path.{◌≡◌, refl, sym, ap, ◌∙◌}
use mathlib.Core.Bool.{Bool, true, false, not, ◌&&◌}
use mathlib.Core.List.{List, [], ◌∷◌, ◌++◌, append-nil}
use lib.ListN.{length, take, drop, get_or, set}
use Rattle.coo3d.specs.declared.Coo3D.{Coo3D}
use Rattle.float.specs.Doubles.{is_finite}
use Rattle.lists.proofs.Passing.{next_left, none_left, stored}
use Rattle.refusal.specs.Answer.{Answer, answered, refused, refuse_if, and_then}
use Rattle.refusal.proofs.Answers.{then_answered, then_assoc, then_same, never}
use Rattle.domain.specs.Domain.{in_domain}
use Rattle.domain.specs.Checks.{point_at, points_from, points_of}
use Rattle.domain.proofs.Counts.{count_answered}

-- what is refused by a test is refused as 1, with its index
test_refused : {A : Type 0} (b : Bool) (i : ℕ) (a : A) (n : ℕ) (vs : List ℕ) → refused n vs ≡ refuse_if (not b) 1 (i ∷ []) (answered a) → refuse_if (not b) 1 (i ∷ []) (answered a) ≡ refused 1 (i ∷ [])
test_refused true i a n vs e = never e
test_refused false i a n vs e = refl

pub point_refused : (i : ℕ) (p : Coo3D) (n : ℕ) (vs : List ℕ) → refused n vs ≡ point_at i p → point_at i p ≡ refused 1 (i ∷ [])
unfolding point_at
point_refused i p = test_refused (in_domain p) i p

-- a point one of whose numbers is not finite is refused
pub not_finite : (i : ℕ) (p : Coo3D) → (is_finite p.x && is_finite p.y && is_finite p.z && is_finite p.lon && is_finite p.lat) ≡ false → refused 1 (i ∷ []) ≡ point_at i p
unfolding point_at in_domain
not_finite i p h = rw h

-- ---- the loop: the points from i on are still to be checked, and those before it are in `out`

unfoldable pub so_far : List Coo3D → ℕ → ℕ → List Coo3D → Answer (List Coo3D)
so_far l n i out = and_then (points_from i (drop i (take n l))) (λ qs. answered (take i out ++ qs))

pub far_start : (l : List Coo3D) (n : ℕ) (out : List Coo3D) → so_far l n 0 out ≡ points_from 0 (take n l)
unfolding so_far
far_start l n out = then_answered (points_from 0 (take n l))

module _ (l : List Coo3D) (n i : ℕ) (out : List Coo3D) (d : Coo3D) (long : n ≤ length l) (below : i < n) where
  next : points_from i (drop i (take n l)) ≡ and_then (point_at i (get_or l i d)) (λ q. and_then (points_from (i + 1) (drop (i + 1) (take n l))) (λ qs. answered (q ∷ qs)))
  unfolding points_from
  next = rw (next_left l n i d long below, add-one)

  pub far_good : (q : Coo3D) → i < length out → point_at i (get_or l i d) ≡ answered q → so_far l n i out ≡ so_far l n (i + 1) (set out i q)
  unfolding so_far
  far_good q room e =
      let one : points_from i (drop i (take n l)) ≡ and_then (points_from (i + 1) (drop (i + 1) (take n l))) (λ qs. answered (q ∷ qs)) = next ∙ rw e in
      ap (λ (x : Answer (List Coo3D)). and_then x (λ qs. answered (take i out ++ qs))) one
      ∙ then_assoc (points_from (i + 1) (drop (i + 1) (take n l))) (λ qs. answered (q ∷ qs)) (λ qs. answered (take i out ++ qs))
      ∙ then_same (points_from (i + 1) (drop (i + 1) (take n l))) (λ qs. answered (take i out ++ (q ∷ qs))) (λ qs. answered (take (i + 1) (set out i q) ++ qs)) (λ qs. ap answered (sym (stored out i q qs room)))

  pub far_bad : (k : ℕ) (vs : List ℕ) → refused k vs ≡ point_at i (get_or l i d) → so_far l n i out ≡ refused k vs
  unfolding so_far
  far_bad k vs e =
      let one : points_from i (drop i (take n l)) ≡ refused k vs = next ∙ rw (sym e) in
      ap (λ (x : Answer (List Coo3D)). and_then x (λ qs. answered (take i out ++ qs))) one

pub far_end : (l : List Coo3D) (n i : ℕ) (out : List Coo3D) → n ≤ length l → i ≡ n → so_far l n i out ≡ answered (take n out)
unfolding so_far points_from
far_end l n i out long e = rw (none_left l n i long (omega arith), append-nil, e)

-- points that were taken are 1 to 64, and as many as were asked for
pub points_count : (l : List Coo3D) (n : ℕ) (qs : List Coo3D) → points_of l n ≡ answered qs → (0 < n) × (n ≤ 64)
unfolding points_of
points_count l n qs = count_answered n (points_from 0 (take n l)) qs

-- the points past the count do not matter
pub points_first : (l m : List Coo3D) (n : ℕ) → take n l ≡ take n m → points_of l n ≡ points_of m n
unfolding points_of
points_first l m n e = rw e
