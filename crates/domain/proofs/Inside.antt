-- Lists of points that the checks take, and of what they hand back.
use Prim.Native.Nat.{ℕ, suc, ◌≤◌, ◌<◌}
use native.Mathlib.Omega.{arith}
use mathlib.Core.Path.{◌≡◌, refl, sym, ap, subst, ◌∙◌}
use mathlib.Core.Bool.{true, ◌&&◌}
use mathlib.Core.List.{List, [], ◌∷◌}
use lib.Dec.{T}
use lib.Ieee.{binary64, fits, neg}
use lib.ListN.{length, take}
use lib.Seq.{take-length}
use Rattle.float.specs.Doubles.{is_finite, inclusive, nought, two, half_pi, two_pi}
use Rattle.coo3d.specs.declared.Coo3D.{Coo3D}
use Rattle.coo3d.specs.Points.{of_doubles, are_doubles}
use Rattle.lists.proofs.All.{All, none, more, both}
use Rattle.refusal.specs.Answer.{Answer, answered, refused, and_then}
use Rattle.refusal.proofs.Answers.{never, same_answer}
use Rattle.domain.specs.Domain.{in_domain}
use Rattle.domain.specs.Checks.{point_at, points_from, points_of}
use Rattle.domain.proofs.Counts.{count_few, count_passed}
use Rattle.domain.proofs.Handed.{Settled, handed_same, handed_in, handed_again, handed_doubles}

-- the check hands each of them back as it is
abbrev pub Inside : List Coo3D → Type 0
Inside cs = All Settled cs

from_in : (i : ℕ) {cs : List Coo3D} → Inside cs → points_from i cs ≡ answered cs
unfolding points_from
from_in i none = refl
from_in i (more h t) = rw (h i, from_in (suc i) t)

-- 1 to 64 of them
pub record Good (cs : List Coo3D) : Type 0 where
  pub inside : Inside cs
  pub some : 0 < length cs
  pub few : length cs ≤ 64

pub points_good : (cs : List Coo3D) → Good cs → points_of cs (length cs) ≡ answered cs
unfolding points_of
points_good cs g =
    let s : 0 < length cs = g.some in
    count_few (length cs) _ (λ (z : length cs ≡ 0). omega arith) g.few ∙ ap (points_from 0) (take-length cs) ∙ from_in 0 g.inside

-- points that are doubles, as a property of each
pub each_double : (cs : List Coo3D) → are_doubles cs ≡ true → All (λ c. of_doubles c ≡ true) cs
unfolding are_doubles
each_double [] h = none
each_double (c ∷ cs) h = let d = both (of_doubles c) (are_doubles cs) h in more d.0 (each_double cs d.1)

pub all_doubles : {cs : List Coo3D} → All (λ c. of_doubles c ≡ true) cs → are_doubles cs ≡ true
unfolding are_doubles
all_doubles none = refl
all_doubles (more h t) = rw (h, all_doubles t)

pub double_lon : (c : Coo3D) → of_doubles c ≡ true → T (fits binary64 c.lon)
double_lon c d =
    let xyz = fits binary64 c.x && fits binary64 c.y && fits binary64 c.z in
    subst T (sym (both xyz (fits binary64 c.lon) (both (xyz && fits binary64 c.lon) (fits binary64 c.lat) d).0).1) tt

-- ---- from an answer

-- each point of the second list is what the check makes of that of the first
pub data HandedBack : List Coo3D → List Coo3D → Type 0 where
  back_none : HandedBack [] []
  back_more : {p q : Coo3D} {ps qs : List Coo3D} (i : ℕ) → point_at i p ≡ answered q → HandedBack ps qs → HandedBack (p ∷ ps) (q ∷ qs)

module _ (p : Coo3D) (ps : List Coo3D) (i : ℕ) (qs : List Coo3D) (rest : (rs : List Coo3D) → points_from (suc i) ps ≡ answered rs → HandedBack ps rs) where
  back_rest : (q : Coo3D) (x : Answer (List Coo3D)) → point_at i p ≡ answered q → points_from (suc i) ps ≡ x → and_then x (λ rs. answered (q ∷ rs)) ≡ answered qs → HandedBack (p ∷ ps) qs
  back_rest q (answered rs) h f e = subst (HandedBack (p ∷ ps)) (same_answer e) (back_more i h (rest rs f))
  back_rest q (refused n vs) h f e = never e

  back_point : (x : Answer Coo3D) → point_at i p ≡ x → and_then x (λ q. and_then (points_from (suc i) ps) (λ rs. answered (q ∷ rs))) ≡ answered qs → HandedBack (p ∷ ps) qs
  back_point (answered q) h e = back_rest q (points_from (suc i) ps) h refl e
  back_point (refused n vs) h e = never e

back_from : (ps : List Coo3D) (i : ℕ) (qs : List Coo3D) → points_from i ps ≡ answered qs → HandedBack ps qs
unfolding points_from
back_from [] i qs e = subst (HandedBack []) (same_answer e) back_none
back_from (p ∷ ps) i qs e = back_point p ps i qs (back_from ps (suc i)) (point_at i p) refl e

-- as many as were given
length_back : {ps qs : List Coo3D} → HandedBack ps qs → length qs ≡ length ps
length_back back_none = refl
length_back (back_more i e t) = ap suc (length_back t)

pub points_many : (ps : List Coo3D) (i : ℕ) (qs : List Coo3D) → points_from i ps ≡ answered qs → length qs ≡ length ps
points_many ps i qs e = length_back (back_from ps i qs e)

pub points_back : (ps : List Coo3D) (n : ℕ) (qs : List Coo3D) → points_of ps n ≡ answered qs → HandedBack (take n ps) qs
unfolding points_of
points_back ps n qs e = back_from (take n ps) 0 qs (count_passed n _ qs e)

pub back_in : {ps qs : List Coo3D} → HandedBack ps qs → Inside qs
back_in back_none = none
back_in (back_more {p = p} {q = q} i e t) = more (handed_again i p q e) (back_in t)

pub back_doubles : {ps qs : List Coo3D} → HandedBack ps qs → are_doubles ps ≡ true → are_doubles qs ≡ true
unfolding are_doubles
back_doubles back_none h = refl
back_doubles (back_more {p = p} {q = q} {ps = ps} i e t) h =
    let d = both (of_doubles p) (are_doubles ps) h in
    rw (handed_doubles i p q e d.0, back_doubles t d.1)

-- the points as they were given
pub back_same : {ps qs : List Coo3D} → HandedBack ps qs → qs ≡ ps
back_same back_none = refl
back_same (back_more {p = p} {q = q} i e t) = rw (handed_same i p q e, back_same t)

-- ---- a point of the domain is finite, has its place from -2 to 2, and a longitude from 0 to TWO_PI

pub record Finite (p : Coo3D) : Type 0 where
  pub x : is_finite p.x ≡ true
  pub y : is_finite p.y ≡ true
  pub z : is_finite p.z ≡ true
  pub lon : is_finite p.lon ≡ true
  pub lat : is_finite p.lat ≡ true

pub record Placed (p : Coo3D) : Type 0 where
  pub x : inclusive (neg two) p.x two ≡ true
  pub y : inclusive (neg two) p.y two ≡ true
  pub z : inclusive (neg two) p.z two ≡ true
  pub lon : inclusive nought p.lon two_pi ≡ true

inside_parts : (p : Coo3D) → in_domain p ≡ true → Finite p × Placed p
unfolding in_domain
inside_parts p h =
    let xy = is_finite p.x && is_finite p.y in
    let f = xy && is_finite p.z && is_finite p.lon && is_finite p.lat in
    let in-x = inclusive (neg two) p.x two in
    let in-y = inclusive (neg two) p.y two in
    let in-z = inclusive (neg two) p.z two in
    let v = in-x && in-y && in-z in
    let l = both (f && v) (inclusive nought p.lon two_pi) (both (f && v && inclusive nought p.lon two_pi) (inclusive (neg half_pi) p.lat half_pi) h).0 in
    let a = both f v l.0 in
    let b = both (xy && is_finite p.z && is_finite p.lon) (is_finite p.lat) a.0 in
    let c = both (xy && is_finite p.z) (is_finite p.lon) b.0 in
    let d = both xy (is_finite p.z) c.0 in
    let e = both (is_finite p.x) (is_finite p.y) d.0 in
    let g = both (in-x && in-y) in-z a.1 in
    let k = both in-x in-y g.0 in
    (record { x = e.0; y = e.1; z = d.1; lon = c.1; lat = b.1 }, record { x = k.0; y = k.1; z = g.1; lon = l.1 })

pub finite_inside : (p : Coo3D) → in_domain p ≡ true → Finite p
finite_inside p h = (inside_parts p h).0

module _ (p : Coo3D) (h : Settled p) where
  pub settled_finite : Finite p
  settled_finite = finite_inside p (handed_in 0 p p (h 0))

  pub settled_placed : Placed p
  settled_placed = (inside_parts p (handed_in 0 p p (h 0))).1
