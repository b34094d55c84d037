-- Laws for loops that pass a region's edges in order: the edges that are left from index i on, where `from` is the corner before it.
use Prim.Native.Nat.{ℕ, zero, suc, ◌+◌, ◌-◌, ◌≤◌, ◌<◌}
use native.Mathlib.Nat.{le_of_suc-le-suc, not-suc-le-zero}
use native.Mathlib.Omega.{arith}
use mathlib.Core.Path.{◌≡◌, refl, sym, ap, ◌∙◌}
use Rattle.std.proofs.lemmas.List.{take_min}
use Rattle.std.proofs.Common.{min}
use mathlib.Core.List.{List, [], ◌∷◌}
use lib.Ieee.{nan}
use lib.ListN.{length, take, drop, get_or, length-take}
use Rattle.coo3d.specs.declared.Coo3D.{Coo3D}
use Rattle.coo3d.specs.declared.Vect3.{Vect3}
use Rattle.lists.specs.Cyclic.{last_of}
use Rattle.lists.proofs.Passing.{next_left, none_left}
use Rattle.region.specs.declared.Region.{Region}
use Rattle.region.specs.Edges.{Edge}
use Rattle.region.specs.View.{view_of, nowhere, edges_from, edges_of}

abbrev pub nothing : Vect3
nothing = record { x = nan; y = nan; z = nan }

last_take_suc : {A : Type 0} (l : List A) (k : ℕ) (d e : A) → k < length l → last_of d (take (suc k) l) ≡ get_or l k e
unfolding last_of
last_take_suc [] k d e h = absurd (not-suc-le-zero h)
last_take_suc (a ∷ l) zero d e h = refl
last_take_suc (a ∷ l) (suc k) d e h = last_take_suc l k a e (le_of_suc-le-suc h)

-- the last of the first n entries
pub last_take : {A : Type 0} (l : List A) (n : ℕ) (d e : A) → 0 < n → n ≤ length l → last_of d (take n l) ≡ get_or l (n - 1) e
last_take l n d e some long =
    let b : n ≡ suc (n - 1) = omega arith in
    ap (λ (k : ℕ). last_of d (take k l)) b ∙ last_take_suc l (n - 1) d e (omega arith)

unfoldable pub edges_left : Region → Coo3D → ℕ → List Edge
edges_left r from i = edges_from from (drop i (take r.count r.vertices)) (drop i (take r.count r.cross_products))

-- the edge at index i, where `from` is the corner before it
abbrev pub edge_at : Region → Coo3D → ℕ → Edge
edge_at r from i = record { from = from; to = get_or r.vertices i nowhere; normal = get_or r.cross_products i nothing }

module _ (r : Region) where
  -- the loop starts at the last corner
  pub start : 0 < r.count → r.count ≤ length r.vertices → edges_of (view_of r) ≡ edges_left r (get_or r.vertices (r.count - 1) nowhere) 0
  unfolding edges_of edges_left
  start some long = ap (λ (c : Coo3D). edges_from c (take r.count r.vertices) (take r.count r.cross_products)) (last_take r.vertices r.count nowhere nowhere some long)

  pub turn : (from : Coo3D) (i : ℕ) → r.count ≤ length r.vertices → r.count ≤ length r.cross_products → i < r.count → edges_left r from i ≡ edge_at r from i ∷ edges_left r (get_or r.vertices i nowhere) (i + 1)
  unfolding edges_left edges_from
  turn from i long long' below = rw (next_left r.vertices r.count i nowhere long below, next_left r.cross_products r.count i nothing long' below)

  pub done : (from : Coo3D) (i : ℕ) → r.count ≤ length r.vertices → r.count ≤ i → edges_left r from i ≡ []
  unfolding edges_left edges_from
  done from i long passed = rw (none_left r.vertices r.count i long passed)

-- ---- the edges that an iterator has left

pub none_ahead : (from : Coo3D) (cs : List Coo3D) (ns : List Vect3) → length cs ≡ 0 → edges_from from cs ns ≡ []
unfolding edges_from
none_ahead from [] ns e = refl
none_ahead from (c ∷ cs) ns e = absurd (omega (arith, e))

pub none_there : (from : Coo3D) (cs : List Coo3D) (ns : List Vect3) → length ns ≡ 0 → edges_from from cs ns ≡ []
unfolding edges_from
none_there from [] ns e = refl
none_there from (c ∷ cs) [] e = refl
none_there from (c ∷ cs) (n ∷ ns) e = absurd (omega (arith, e))

pub next_ahead : (from : Coo3D) {cs cs' : List Coo3D} {ns ns' : List Vect3} {c : Coo3D} {n : Vect3} → cs ≡ c ∷ cs' → ns ≡ n ∷ ns'
    → edges_from from cs ns ≡ record { from = from; to = c; normal = n } ∷ edges_from c cs' ns'
unfolding edges_from
next_ahead from p q = rw (p, q)

-- a region's first edges, as many as its arrays hold, are all its edges
module _ (r : Region) (n : ℕ) (corners : length r.vertices ≡ 64) (normals : length r.cross_products ≡ 64) (capped : n ≡ min r.count 64) where
  first : {A : Type 0} (l : List A) → length l ≡ 64 → take r.count l ≡ take n l
  first l e = sym (take_min r.count l) ∙ rw (e, capped) refl

  pub edges_none : (from : Coo3D) → n ≡ 0 → edges_from from (take n r.vertices) (take n r.cross_products) ≡ edges_of (view_of r)
  unfolding edges_of edges_from
  edges_none from e = rw (first r.vertices corners, e) refl

  pub edges_some : 0 < n → edges_from (get_or r.vertices (n - 1) nowhere) (take n r.vertices) (take n r.cross_products) ≡ edges_of (view_of r)
  unfolding edges_of
  edges_some some =
      let long : n ≤ length r.vertices = omega (arith, corners, capped) in
      rw (first r.vertices corners, first r.cross_products normals) (ap (λ (c : Coo3D). edges_from c (take n r.vertices) (take n r.cross_products)) (sym (last_take r.vertices n nowhere nowhere some long)))

edges_from_length : (from : Coo3D) (cs : List Coo3D) (ns : List Vect3) → length (edges_from from cs ns) ≤ length cs
unfolding edges_from
edges_from_length from [] ns = omega arith
edges_from_length from (c ∷ cs) [] = omega arith
edges_from_length from (c ∷ cs) (n ∷ ns) = omega (arith, edges_from_length c cs ns)

-- there are no more edges than are counted
pub edges_length : (r : Region) → length (edges_of (view_of r)) ≤ r.count
unfolding edges_of
edges_length r =
    let h = edges_from_length (last_of nowhere (take r.count r.vertices)) (take r.count r.vertices) (take r.count r.cross_products) in
    omega (arith, h, length-take r.count r.vertices)
