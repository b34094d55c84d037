-- The theorem over every list of edits. It speaks of the calls by nothing but their contracts.
use Rattle.refusal.specs.declared.Cause.{Cause}
use Rattle.coo3d.specs.declared.UnitVect3.{UnitVect3}
use Rattle.std.specs.Prelude.{ℕ, ◌≡◌, Bool, true, false, List, [], ◌∷◌, ◌++◌, Float, Option, Result, Ok}
use Rattle.coo3d.specs.declared.Coo3D.{Coo3D}
use Rattle.coo3d.specs.declared.Vect3.{Vect3}
use Rattle.domain.specs.Checks.{point_at, points_of}
use Rattle.crossings.specs.declared.AllAnswer.{AllAnswer}
use Rattle.crossings.specs.Crossings.{first_answer, Lists}
use Rattle.great_circles.specs.Queries.{arc_first_of, arc_all_of, is_intersecting_arc, circle_all_of}
use Rattle.lists.specs.Counts.{exactly_one, odd_many}
use Rattle.parallels.specs.Queries.{parallel_first_of, parallel_all_of, is_intersecting_parallel}
use Rattle.refusal.specs.Answer.{Answer, answered, and_then, outcome_of, answer_of, verdict}
use Rattle.region.specs.declared.Region.{Region}
use Rattle.region.specs.declared.Built.{Built}
use Rattle.region.specs.declared.ContainsSouthPoleMethod.{ContainsSouthPoleMethod}
use Rattle.region.specs.Edges.{is_counted}
use Rattle.region.specs.View.{View, view_of, made, contained}
use Rattle.region.specs.Region.{flag_of, build_of, contains_of, seam_count_of, Builds}
use Rattle.edits.specs.declared.EditAnswer.{EditAnswer}
use Rattle.edits.specs.Edits.{Edit, Edited}
use Rattle.edit_theorem.specs.Record.{Plain, checked_by, after, moves_corner, taken_out, brought_in, afresh}

-- ---- a list of edits, one after the other: each answer meets its call's contract, and its region is the next call's

pub data Run : Region → List Edit → Region → Type 0 where
  stop : {r : Region} → Run r [] r
  step : {r last : Region} {e : Edit} {es : List Edit} (a : EditAnswer) → Edited e r a → Run a.region es last → Run r (e ∷ es) last

-- ---- what holds of a region and the record beside it

-- count, corners, flag, every stored normal and the stored seam count are those of the region built afresh; and every answer of a query that meets the
-- call's contract on the region as it stands is, for every argument and refusals included, the one that the definition gives for that fresh region
pub record Agrees (s : Plain) (r : Region) : Type 0 where
  pub fresh : View
  pub built : afresh s ≡ answered fresh
  pub view : view_of r ≡ fresh
  pub contains : (p : Coo3D) (d : Result Bool Cause) → answer_of d ≡ contains_of (view_of r) p → answer_of d ≡ contains_of fresh p
  pub seam_count : (n : Result ℕ Cause) → answer_of n ≡ seam_count_of (view_of r) → answer_of n ≡ seam_count_of fresh
  pub arc_first : (a b : Coo3D) (f : Result (Option UnitVect3) Cause) → first_answer f ≡ arc_first_of (view_of r) a b → first_answer f ≡ arc_first_of fresh a b
  pub arc_all : (a b : Coo3D) (l : AllAnswer) → Lists l (arc_all_of (view_of r) a b) → Lists l (arc_all_of fresh a b)
  pub arc_is : (a b : Coo3D) (d : Result Bool Cause) → answer_of d ≡ is_intersecting_arc (view_of r) a b → answer_of d ≡ is_intersecting_arc fresh a b
  pub circle : (n : Vect3) (l : AllAnswer) → Lists l (circle_all_of (view_of r) n) → Lists l (circle_all_of fresh n)
  pub parallel_first : (lat sin cos : Float) (f : Result (Option UnitVect3) Cause) → first_answer f ≡ parallel_first_of (view_of r) lat sin cos → first_answer f ≡ parallel_first_of fresh lat sin cos
  pub parallel_all : (lat sin cos : Float) (l : AllAnswer) → Lists l (parallel_all_of (view_of r) lat sin cos) → Lists l (parallel_all_of fresh lat sin cos)
  pub parallel_is : (lat sin cos : Float) (d : Result Bool Cause) → answer_of d ≡ is_intersecting_parallel (view_of r) lat sin cos → answer_of d ≡ is_intersecting_parallel fresh lat sin cos

-- put, insert and remove turn a point's containment over exactly when an odd number of edges is counted there among those that they take out
-- and bring in, taken together; an edge that is both counts twice. The point is the one that the check hands back
abbrev pub Turns : Edit → Plain → Region → Region → Type 0
Turns e s before now =
    moves_corner e ≡ true → (x q : Coo3D) → point_at 0 x ≡ answered q
    → exactly_one (contained q (view_of now)) (contained q (view_of before)) ≡ odd_many (is_counted q) (taken_out e s.corners ++ brought_in e s.corners)

-- along a whole list: before each edit and at the end the region agrees with the record; each outcome is the table's, read with the record's own
-- count; each accepted edit turns as it should; and the record goes on by the edit's arguments
pub data Holds : (r last : Region) (es : List Edit) → Plain → Run r es last → Type 0 where
  at_end : {s : Plain} {r : Region} → Agrees s r → Holds r r [] s stop
  at_edit : {s : Plain} {r last : Region} {e : Edit} {es : List Edit} (a : EditAnswer) (h : Edited e r a) (rest : Run a.region es last) → Agrees s r
      → outcome_of a.outcome true ≡ verdict (checked_by s e)
      → ((k : Edit) → checked_by s e ≡ answered k → Turns k s r a.region)
      → Holds a.region last es (after e s) rest
      → Holds r last (e ∷ es) s (step a h rest)

-- ---- the theorem

-- the record at first: the corners given, and what the build's rule sets by its definition over them
unfoldable pub start_of : List Coo3D → ℕ → ContainsSouthPoleMethod → Answer Plain
start_of points count rule = and_then (points_of points count) (λ cs. and_then (flag_of (made cs false) rule) (λ flag. answered (record { corners = cs; flag = flag })))

-- for the region of any build that was not refused, and every list of edits, refused ones included
abbrev pub EditTheorem : Type 0
EditTheorem =
    (points : List Coo3D) (count : ℕ) (rule : ContainsSouthPoleMethod) (b : Built)
    → Builds b (build_of points count rule)
    → b.outcome ≡ Ok tt
    → (es : List Edit) (last : Region) (run : Run b.region es last)
    → (s : Plain) × ((start_of points count rule ≡ answered s) × Holds b.region last es s run)
