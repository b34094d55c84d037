-- The edges of a list of corners with the normals that their ends give: what holds of each, and how many of them have a property.
use mathlib.Core.Path.{◌≡◌, refl, ap, ◌∙◌}
use mathlib.Core.Bool.{Bool}
use mathlib.Core.List.{List, [], ◌∷◌, map}
use Rattle.coo3d.specs.declared.Coo3D.{Coo3D}
use Rattle.lists.specs.Counts.{odd_many, how_many}
use Rattle.lists.specs.Cyclic.{last_of, along}
use Rattle.lists.proofs.All.{All, none, more, all_last}
use Rattle.lists.proofs.Many.{many_marks}
use Rattle.lists.proofs.Odd.{odd, odd_marks}
use Rattle.region.specs.Edges.{Edge, normal_of, edge}
use Rattle.region.specs.View.{nowhere, edges_from, edges_of, normals_of, made}

module _ (has : Edge → Bool) where
  marks_from : (from : Coo3D) (cs : List Coo3D) → map has (edges_from from cs (along normal_of from cs)) ≡ along (λ a b. has (edge a b)) from cs
  unfolding edges_from along
  marks_from from [] = refl
  marks_from from (c ∷ cs) = ap (λ (l : List Bool). has (edge from c) ∷ l) (marks_from c cs)

  marks_drawn : (cs : List Coo3D) (flag : Bool) → map has (edges_of (made cs flag)) ≡ along (λ a b. has (edge a b)) (last_of nowhere cs) cs
  unfolding edges_of normals_of
  marks_drawn cs flag = marks_from (last_of nowhere cs) cs

  pub odd_drawn : (cs : List Coo3D) (flag : Bool) → odd_many has (edges_of (made cs flag)) ≡ odd (along (λ a b. has (edge a b)) (last_of nowhere cs) cs)
  odd_drawn cs flag = odd_marks has (edges_of (made cs flag)) ∙ ap odd (marks_drawn cs flag)

  pub many_drawn : (cs : List Coo3D) (flag : Bool) → how_many has (edges_of (made cs flag)) ≡ how_many (λ b. b) (along (λ a b. has (edge a b)) (last_of nowhere cs) cs)
  many_drawn cs flag = many_marks has (edges_of (made cs flag)) ∙ ap (how_many (λ b. b)) (marks_drawn cs flag)

module _ (Corner : Coo3D → Type 0) (Has : Edge → Type 0) (each : (a b : Coo3D) → Corner a → Corner b → Has (edge a b)) where
  each_from : (from : Coo3D) {cs : List Coo3D} → Corner from → All Corner cs → All Has (edges_from from cs (along normal_of from cs))
  unfolding edges_from along
  each_from from h none = none
  each_from from h (more {a = c} k t) = more (each from c h k) (each_from c k t)

  pub each_drawn : {cs : List Coo3D} (flag : Bool) → All Corner cs → All Has (edges_of (made cs flag))
  unfolding edges_of edges_from normals_of last_of
  each_drawn flag none = none
  each_drawn flag (more {a = c} {l = rest} k t) = each_from (last_of nowhere (c ∷ rest)) (all_last c k t) (more k t)
