-- The plain record: a list of corners and a flag, fed the arguments of the build and the edits, and nothing of the region's own.
use Rattle.std.specs.Prelude.{ℕ, Bool, true, false, not, cond, List, [], ◌∷◌, eqb, length, get_or, set}
use Rattle.coo3d.specs.declared.Coo3D.{Coo3D}
use Rattle.lists.specs.Cyclic.{ins, del, next_of, before_of}
use Rattle.refusal.specs.Answer.{Answer, answered, refused}
use Rattle.region.specs.declared.Edge.{Edge}
use Rattle.region.specs.Edges.{edge}
use Rattle.region.specs.View.{View, made, nowhere, contained}
use Rattle.region.specs.Poles.{rule_flag, fixed_rule}
use Rattle.region.specs.Region.{build_of}
use Rattle.edits.specs.Edits.{Edit, put, insert, remove, turn, hold, rule, checked}

pub record Plain : Type 0 where
  pub corners : List Coo3D
  pub flag : Bool

-- the region of these corners and this flag
abbrev pub region_of : Plain → View
region_of s = made s.corners s.flag

-- put, insert and remove change the list and keep the flag; turn negates it; hold negates it when the point isn't contained; rule sets it
unfoldable pub edited : Edit → Plain → Plain
edited (put i p) s = record { corners = set s.corners i p; flag = s.flag }
edited (insert i p) s = record { corners = ins i p s.corners; flag = s.flag }
edited (remove i) s = record { corners = del i s.corners; flag = s.flag }
edited turn s = record { corners = s.corners; flag = not s.flag }
edited (hold p) s = record { corners = s.corners; flag = cond (contained p (region_of s)) s.flag (not s.flag) }
edited (rule m) s = record { corners = s.corners; flag = rule_flag m (region_of s) }

-- the table, read with the record's own count
abbrev pub checked_by : Plain → Edit → Answer Edit
checked_by s e = checked (length s.corners) e

-- an edit that the table refuses changes neither list nor flag; every other is accepted
abbrev pub settled : Answer Edit → Plain → Plain
settled (answered e) s = edited e s
settled (refused number values) s = s

abbrev pub after : Edit → Plain → Plain
after e s = settled (checked_by s e) s

-- ---- edges taken out and brought in by put, insert and remove

abbrev pub moves_corner : Edit → Bool
moves_corner (put i p) = true
moves_corner (insert i p) = true
moves_corner (remove i) = true
moves_corner turn = false
moves_corner (hold p) = false
moves_corner (rule m) = false

-- the corner before index i, at it, and after it
abbrev pub corner_before : List Coo3D → ℕ → Coo3D
corner_before cs i = before_of nowhere cs i

abbrev pub corner_here : List Coo3D → ℕ → Coo3D
corner_here cs i = get_or cs i nowhere

abbrev pub corner_after : List Coo3D → ℕ → Coo3D
corner_after cs i = corner_here cs (next_of (length cs) i)

-- the edge that a corner inserted before i splits: edge i, edge 0 on appending
abbrev pub split_at : List Coo3D → ℕ → ℕ
split_at cs i = cond (eqb i (length cs)) 0 i

-- put: the edges that touch the corner, at count 1 only edge 0
abbrev pub touching : List Coo3D → ℕ → List Edge
touching cs i = cond (eqb (length cs) 1) (edge (corner_here cs i) (corner_here cs i) ∷ []) (edge (corner_before cs i) (corner_here cs i) ∷ edge (corner_here cs i) (corner_after cs i) ∷ [])

unfoldable pub taken_out : Edit → List Coo3D → List Edge
taken_out (put i p) cs = touching cs i
taken_out (insert i p) cs = edge (corner_before cs (split_at cs i)) (corner_here cs (split_at cs i)) ∷ []
taken_out (remove i) cs = edge (corner_before cs i) (corner_here cs i) ∷ edge (corner_here cs i) (corner_after cs i) ∷ []
taken_out turn cs = []
taken_out (hold p) cs = []
taken_out (rule m) cs = []

unfoldable pub brought_in : Edit → List Coo3D → List Edge
brought_in (put i p) cs = touching (set cs i p) i
brought_in (insert i p) cs = edge (corner_before cs i) p ∷ edge p (corner_here cs (split_at cs i)) ∷ []
brought_in (remove i) cs = edge (corner_before cs i) (corner_after cs i) ∷ []
brought_in turn cs = []
brought_in (hold p) cs = []
brought_in (rule m) cs = []

-- ---- afresh: built, by the build's definition, from the record's list by ContainsSouthPole or DoNotContainsSouthPole, as the flag says

abbrev pub afresh : Plain → Answer View
afresh s = build_of s.corners (length s.corners) (fixed_rule s.flag)
