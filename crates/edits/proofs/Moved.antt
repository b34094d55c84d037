-- A region's arrays after an edit of its corners: the entries in use, and the view.
use Prim.Native.Nat.{ℕ, ◌+◌, ◌-◌, ◌≤◌, ◌<◌}
use native.Mathlib.Omega.{arith}
use mathlib.Core.Path.{◌≡◌, sym, ap, subst, ◌∙◌}
use mathlib.Core.Logic.{⊎_elim}
use mathlib.Core.Bool.{Bool}
use mathlib.Core.List.{List}
use lib.ListN.{length, take, get_or, set, length-set}
use lib.Seq.{get_or-take, length-take-le, take-set-lt, get_or-set_same, set-set}
use Rattle.coo3d.specs.declared.Coo3D.{Coo3D}
use Rattle.coo3d.specs.declared.Vect3.{Vect3}
use Rattle.lists.specs.Cyclic.{ins, del, prev_of, next_of, there_of, before_of, put_along, ins_along, del_along}
use Rattle.std.proofs.lemmas.Bool.{cases_eq}
use Rattle.lists.proofs.Cyclic.{length_ins, length_del}
use Rattle.region.specs.declared.Region.{Region}
use Rattle.region.specs.Edges.{normal_of}
use Rattle.region.specs.View.{View, with_corners, seams_of, nowhere}
use Rattle.edits.specs.Edits.{put, insert, remove, changed}
use Rattle.edits.specs.Normals.{normal_at, with_normal}
use Rattle.edits.proofs.Neighbours.{prev_next, prev_below, next_below, there_below, ins_here, before_put, before_ins, before_del}

-- the corner read at j, and the normal stored there, by the entries in use
read_at : (vs cs : List Coo3D) (m j : ℕ) → j < m → take m vs ≡ cs → get_or vs j nowhere ≡ get_or cs j nowhere
read_at vs cs m j h e = sym (get_or-take m vs j nowhere h) ∙ ap (λ (l : List Coo3D). get_or l j nowhere) e

stored_at : (ns os : List Vect3) (m j : ℕ) (n : Vect3) → j < m → take m ns ≡ os → take m (set ns j n) ≡ set os j n
stored_at ns os m j n h e = take-set-lt m ns j n h ∙ ap (λ (l : List Vect3). set l j n) e

-- a normal that is there already
pub one_normal : (r : Region) (i j : ℕ) → i ≡ j → with_normal r i ≡ with_normal (with_normal r i) j
one_normal r i j e =
    let n = normal_at r.vertices r.count i in
    let same : with_normal r i ≡ with_normal (with_normal r i) i = rw (set-set r.cross_products i n n) in
    subst (λ (k : ℕ). with_normal r i ≡ with_normal (with_normal r i) k) e same

-- the entries in use, as a view
abbrev pub used : ℕ → List Coo3D → List Vect3 → Bool → ℕ → View
used n vs ns f s = record { count = n; corners = take n vs; normals = take n ns; flag = f; seam_count = s }

pub corners_are : (v : View) (n : ℕ) (vs cs : List Coo3D) (ns os : List Vect3) (s : ℕ) → take n vs ≡ cs → take n ns ≡ os → n ≡ length cs → s ≡ seams_of cs → used n vs ns v.flag s ≡ with_corners v cs os
corners_are v n vs cs ns os s e h l k = rw (e, h, k, ← l)

-- the arrays before and after, and the corner before i as it was
module _ (vs vs' : List Coo3D) (ns ns' : List Vect3) (n i : ℕ) (long : n ≤ length vs) (f : Bool) (s t : ℕ) where
  used_len : length (take n vs) ≡ n
  used_len = length-take-le n vs long

  pub view_inserted : (p : Coo3D) → 0 < n → i ≤ n → take (n + 1) vs' ≡ ins i p (take n vs) → ((a : Vect3) → take (n + 1) (set ns' i a) ≡ ins i a (take n ns)) → t ≡ seams_of (take (n + 1) vs')
      → used (n + 1) vs' (set (set ns' i (normal_at vs' (n + 1) i)) (next_of (n + 1) i) (normal_at vs' (n + 1) (next_of (n + 1) i))) f t ≡ changed (insert i p) (used n vs ns f s)
  unfolding changed ins_along
  view_inserted p some h hv hn ht =
      let j = next_of (n + 1) i in
      let len = used_len in
      let more = length_ins i p (take n vs) in
      let i-in : i < n + 1 = omega arith in
      let j-in : j < n + 1 = next_below (n + 1) i i-in in
      let at : get_or vs' i nowhere ≡ p = read_at vs' _ (n + 1) i i-in hv ∙ ins_here nowhere (take n vs) i p (rw len h) in
      let from : get_or vs' (prev_of (n + 1) i) nowhere ≡ before_of nowhere (take n vs) i =
      read_at vs' _ (n + 1) _ (prev_below (n + 1) i (omega arith) (omega arith)) hv
      ∙ ap (λ (k : ℕ). get_or (ins i p (take n vs)) (prev_of (k + 1) i) nowhere) (sym len)
      ∙ before_ins nowhere (take n vs) i p (rw len some) (rw len h) in
      let after : get_or vs' (prev_of (n + 1) j) nowhere ≡ p = ap (λ (k : ℕ). get_or vs' k nowhere) (prev_next (n + 1) i i-in) ∙ at in
      corners_are (used n vs ns f s) (n + 1) vs' _ _ _ t hv
      (stored_at (set ns' i (normal_at vs' (n + 1) i)) _ (n + 1) j _ j-in (hn _)
      ∙ rw (from, at, after, read_at vs' _ (n + 1) j j-in hv, len))
      (omega (arith, more, len))
      (ht ∙ ap seams_of hv)

  pub view_removed : i < n → 1 < n → take (n - 1) vs' ≡ del i (take n vs) → take (n - 1) ns' ≡ del i (take n ns) → t ≡ seams_of (take (n - 1) vs')
      → used (n - 1) vs' (set ns' (there_of n i) (normal_at vs' (n - 1) (there_of n i))) f t ≡ changed (remove i) (used n vs ns f s)
  unfolding changed del_along
  view_removed h two hv hn ht =
      let j = there_of n i in
      let len = used_len in
      let fewer = length_del i (take n vs) (rw len h) in
      let j-in : j < n - 1 = there_below n i h two in
      let from : get_or vs' (prev_of (n - 1) j) nowhere ≡ before_of nowhere (take n vs) i =
      read_at vs' _ (n - 1) _ (prev_below (n - 1) j (omega (arith, two)) (omega (arith, j-in))) hv
      ∙ ap (λ (k : ℕ). get_or (del i (take n vs)) (prev_of (k - 1) (there_of k i)) nowhere) (sym len)
      ∙ before_del nowhere (take n vs) i (rw len two) (rw len h) in
      corners_are (used n vs ns f s) (n - 1) vs' _ _ _ t hv
      (stored_at ns' _ (n - 1) j _ j-in hn
      ∙ rw (from, read_at vs' _ (n - 1) j j-in hv, len))
      (omega (arith, fewer, len))
      (ht ∙ ap seams_of hv)

-- one corner stored
module _ (vs : List Coo3D) (ns : List Vect3) (n i : ℕ) (long : n ≤ length vs) (f : Bool) (s t : ℕ) (p : Coo3D) (h : i < n) where
  abbrev after : List Coo3D
  after = set vs i p

  abbrev j : ℕ
  j = next_of n i

  two_normals : set (set (take n ns) i (normal_at after n i)) j (normal_at after n j) ≡ put_along nowhere normal_of (take n vs) i p (take n ns)
  unfolding put_along
  two_normals =
      let len : length (take n vs) ≡ n = length-take-le n vs long in
      let hv : take n after ≡ set (take n vs) i p = take-set-lt n vs i p h in
      let at : get_or after i nowhere ≡ p = get_or-set_same vs i p nowhere (omega arith) in
      let there : get_or after (prev_of n j) nowhere ≡ p = ap (λ (k : ℕ). get_or after k nowhere) (prev_next n i h) ∙ at in
      let to : get_or (set (take n vs) i p) j nowhere ≡ get_or after j nowhere = sym (read_at after _ n j (next_below n i h) hv) in
      ⊎_elim
      (λ (e : n ≡ 1).
      let below = next_below n i h in
      let same : j ≡ i = omega (arith, below, e, h) in
      rw (len, to, there) (twice (take n ns) i j _ _ _ same))
      (λ (e : n ≡ 1 → ⊥).
      let from : get_or after (prev_of n i) nowhere ≡ before_of nowhere (take n vs) i =
      read_at after _ n _ (prev_below n i (omega (arith, h)) (omega (arith, h))) hv
      ∙ ap (λ (k : ℕ). get_or (set (take n vs) i p) (prev_of k i) nowhere) (sym len)
      ∙ before_put nowhere (take n vs) i p (rw len (omega (arith, h, e))) (rw len h) in
      rw (len, to, from, at, there))
      (cases_eq n 1)
    where
      twice : (l : List Vect3) (i j : ℕ) (a b c : Vect3) → j ≡ i → set (set l i a) j c ≡ set (set l i b) j c
      twice l i j a b c e = rw (e, set-set l i a c, set-set l i b c)

  pub view_put : t ≡ seams_of (take n after) → used n after (set (set ns i (normal_at after n i)) j (normal_at after n j)) f t ≡ changed (put i p) (used n vs ns f s)
  unfolding changed
  view_put ht =
      let hv : take n after ≡ set (take n vs) i p = take-set-lt n vs i p h in
      let len : length (take n vs) ≡ n = length-take-le n vs long in
      corners_are (used n vs ns f s) n after _ _ _ t hv
      (stored_at (set ns i (normal_at after n i)) _ n j _ (next_below n i h) (take-set-lt n ns i _ h)
      ∙ two_normals)
      (sym (length-set (take n vs) i p ∙ len))
      (ht ∙ ap seams_of hv)
