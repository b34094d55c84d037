-- Every region along a list of edits whose points are doubles is made, where the first is.
use mathlib.Core.Path.{◌≡◌, refl, sym, subst}
use mathlib.Core.Bool.{true}
use mathlib.Core.List.{List}
use lib.ListN.{length}
use Rattle.coo3d.specs.Points.{are_doubles}
use Rattle.domain.proofs.Handed.{handed_doubles}
use Rattle.domain.proofs.Inside.{each_double, all_doubles}
use Rattle.lists.proofs.All.{all_set, all_ins, all_del, both}
use Rattle.refusal.specs.Answer.{Answer, answered, refused}
use Rattle.region.specs.declared.Region.{Region}
use Rattle.region.specs.View.{view_of}
use Rattle.region.specs.Made.{IsMade}
use Rattle.region.proofs.Made.{made_good, good_made}
use Rattle.edits.specs.declared.EditAnswer.{EditAnswer}
use Rattle.edits.specs.Edits.{Edit, Edited}
use Rattle.edit_theorem.specs.Record.{Plain, edited, checked_by, settled}
use Rattle.edit_theorem.specs.Theorem.{Run, stop, step}
use Rattle.edit_theorem.specs.Doubles.{edit_of_doubles, edits_of_doubles}
use Rattle.edit_theorem.proofs.Legal.{Legal, legal, legal_put, legal_insert, legal_remove, legal_turn, legal_hold, legal_rule}
use Rattle.edit_theorem.proofs.Theorem.{step_of}

doubles_edited : (e k : Edit) (s : Plain) → Legal (length s.corners) e k → edit_of_doubles e ≡ true → are_doubles s.corners ≡ true → are_doubles (edited k s).corners ≡ true
unfolding edited
doubles_edited e k s (legal_put {i = i} {p = p} {q = q} h d) f g = all_doubles (all_set i q (handed_doubles 0 p q d f) (each_double s.corners g))
doubles_edited e k s (legal_insert {i = i} {p = p} {q = q} h m d) f g = all_doubles (all_ins i q (handed_doubles 0 p q d f) (each_double s.corners g))
doubles_edited e k s (legal_remove {i = i} h two) f g = all_doubles (all_del i (each_double s.corners g))
doubles_edited e k s legal_turn f g = g
doubles_edited e k s (legal_hold d) f g = g
doubles_edited e k s (legal_rule d) f g = g

doubles_settled : (e : Edit) (s : Plain) (x : Answer Edit) → checked_by s e ≡ x → edit_of_doubles e ≡ true → are_doubles s.corners ≡ true → are_doubles (settled x s).corners ≡ true
doubles_settled e s (answered k) p f g = doubles_edited e k s (legal (length s.corners) k e p) f g
doubles_settled e s (refused n vs) p f g = g

made_step : (e : Edit) (r : Region) (a : EditAnswer) → IsMade (view_of r) → edit_of_doubles e ≡ true → Edited e r a → IsMade (view_of a.region)
made_step e r a m f h =
    let s : Plain = record { corners = (view_of r).corners; flag = (view_of r).flag } in
    let n = step_of s e r a (made_good (view_of r) m) m.view h in
    let x = checked_by s e in
    subst IsMade (sym n.view) (good_made (settled x s).corners (settled x s).flag n.good (doubles_settled e s x refl f m.doubles))

pub edits_made : (r last : Region) (es : List Edit) → IsMade (view_of r) → edits_of_doubles es ≡ true → Run r es last → IsMade (view_of last)
unfolding edits_of_doubles
edits_made r last es m d stop = m
edits_made r last es m d (step {e = e} {es = rest} a h run) =
    let f = both (edit_of_doubles e) (edits_of_doubles rest) d in
    edits_made a.region last rest (made_step e r a m f.0 h) f.1 run
